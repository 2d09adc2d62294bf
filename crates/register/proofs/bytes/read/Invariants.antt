-- `register::bytes::read` meets its contract. The loop's invariant: the registers passed hold the words read, and the others are 0.
use Prim.Native.Nat.{◌-◌}
use mathlib.Core.Path.{◌≡◌}
use mathlib.Core.List.{◌∷◌, ◌++◌}
use lib.ListN.{drop, replicate}
use Rattle.record.specs.Items.{items}
use Rattle.register.specs.Word.{word_in}
use Rattle.layout.specs.Layout.{register_size}
use Rattle.register.proofs.bytes.read.Given as goal

abbrev pub invariant-loop-n : goal.invariant-loop-n
invariant-loop-n l = l.regs ≡ 0 ∷ (items word_in register_size (l.n - 1) (drop register_size l.buffer) ++ replicate (35 - l.n) 0)
