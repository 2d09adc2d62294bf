-- `replay::files::replay_lines` is safe. The loop's invariant: the buffers keep their lengths, and the reader stays within its block.
use Rattle.std.proofs.Common.{◌≡◌, length}
use Rattle.text.specs.lines.{Within}
use Rattle.replay.proofs.files.replay_lines.Given as goal

abbrev pub invariant-loop-number : goal.invariant-loop-number
invariant-loop-number g l = (65536 ≡ length l.block) × (4096 ≡ length l.line) × Within l.reader 65536
