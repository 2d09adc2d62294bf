-- `lpsys_wake::count::count_up` meets its contract: the count alone changes.
use Prim.Native.Nat.{◌+◌, ◌%◌}
use native.Mathlib.Omega.{arith}
use Rattle.head.specs.declared.Head.{Head}
use Rattle.head.proofs.Fields.{with_wake_count_encodable}
use Rattle.journal.proofs.Does.{alone_ended, alone_with_head}
use Rattle.lpsys_wake.specs.count.{counted, count_up}
use Rattle.lpsys_wake.proofs.count.count_up.Goals as goal

pub returns-then-is_none : goal.returns-then-is_none
unfolding count_up
returns-then-is_none c =
    let small = with_wake_count_encodable c.requires (omega arith) in
    alone_with_head (λ (h : Head). counted ((h.wake_count + 1) % 256) h) small c.if-is_none.ensures

pub returns-else-is_none : goal.returns-else-is_none
unfolding count_up
returns-else-is_none c = alone_ended _ c.requires c.if-is_none.ensures
