-- `head::tasks::move_up` meets its contract. The loop's invariant: the places passed hold what was at the next place, the others what
-- they held.
use Prim.Native.Nat.{◌≤◌}
use mathlib.Core.Path.{◌≡◌}
use mathlib.Core.List.{◌++◌}
use lib.ListN.{take, drop}
use Rattle.head.specs.tasks.{moved_up}
use Rattle.head.proofs.tasks.move_up.Given as goal

abbrev pub invariant-loop-i : goal.invariant-loop-i
invariant-loop-i l = (l.at ≤ l.i) × (l.tasks ≡ take l.i (moved_up l.at l.fn.tasks) ++ drop l.i l.fn.tasks)
