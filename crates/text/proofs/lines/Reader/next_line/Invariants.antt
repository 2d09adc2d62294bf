-- `text::lines::Reader::next_line` meets its contract. The loop's invariant: the block keeps its length, the reader stays within it,
-- and the bytes so far are those that were taken, with no line feed.
use Rattle.std.proofs.Common.{length, take, ◌≡◌, ◌<◌}
use Rattle.text.specs.lines.{Within, held, Takes, NoFeed}
use Rattle.text.proofs.lines.Reader.next_line.Given as goal

abbrev pub invariant-loop-length : goal.invariant-loop-length
invariant-loop-length g l =
    (length l.block ≡ length l.initial.block) × Within l.self (length l.block) × NoFeed (take l.length l.line)
    × (0 < length l.block → Takes (g.F.Read.remaining l.initial.file) (g.F.Read.remaining l.file) (held l.initial.self l.initial.block) (held l.self l.block) (take l.length l.line))
