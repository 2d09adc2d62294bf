-- `register::bytes::write` meets its contract. The loop's invariant: the registers passed stand at their places, and all else is as it was.
use Prim.Native.Nat.{◌-◌}
use mathlib.Core.Path.{◌≡◌}
use lib.ListN.{take, drop}
use Rattle.layout.specs.Layout.{register_size}
use Rattle.register.specs.Word.{word_bytes}
use Rattle.record.specs.Items.{joined, laid}
use Rattle.register.proofs.bytes.write.Given as goal

abbrev pub invariant-loop-n : goal.invariant-loop-n
invariant-loop-n l = l.buffer ≡ laid register_size (joined word_bytes (take (l.n - 1) (drop 1 l.regs))) l.initial.buffer
