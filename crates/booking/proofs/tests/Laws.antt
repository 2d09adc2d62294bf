-- 40 among the tests of a booking: for an id in use, and for nothing else.
use Prim.Native.Nat.{ℕ}
use mathlib.Core.Path.{◌≡◌, refl}
use mathlib.Core.Bool.{Bool, true, false, not}
use mathlib.Core.List.{[], ◌∷◌, ◌++◌}
use borrow.Author.Tests.{eqb-false}
use lib.Dec.{eqb, ltb}
use Rattle.time.specs.declared.Hertz.{Hertz}
use Rattle.std.specs.Prelude.{Option, Some, None}
use Rattle.record.specs.Refusals.{refuse, first_of}
use Rattle.record.proofs.Refusals.{first_each, refuse_each}
use Rattle.task.specs.declared.Task.{Task}
use Rattle.task.specs.Task.{task_ok, has_id}
use Rattle.head.specs.declared.Head.{Head}
use Rattle.head.specs.Head.{booked}
use Rattle.clock_read.specs.Hpsys.{hclk_of}
use Rattle.load.specs.Load.{load_of}
use Rattle.booking.specs.tests.{carried, book_tests}

-- an id in use is 40, where the task is right
pub in_use : (t : Task) (h : Head) → task_ok t ≡ true → has_id t.id (booked h) ≡ true → first_of (book_tests t h) ≡ 40
unfolding first_of
in_use t h right used = rw (right, used)

-- a refusal other than 40, or none
abbrev Other : ℕ → Type 0
Other n = n ≡ 40 → ⊥

none_other : Other 0
none_other = eqb-false 0 40 refl

other : (n : ℕ) → eqb n 40 ≡ false → (t : Bool) → Other (refuse n t)
other n e = refuse_each Other none_other n (eqb-false n 40 e)

carried_other : (r : Option Hertz) (load : ℕ) → Other (carried r load)
carried_other (Some f) load = other 39 refl (ltb f.0 load)
carried_other None load = eqb-false 34 40 refl

-- 40 is for an id in use alone
pub not_in_use : (t : Task) (h : Head) → has_id t.id (booked h) ≡ false → first_of (book_tests t h) ≡ 40 → ⊥
not_in_use t h new =
    let free : Other (refuse 40 (has_id t.id (booked h))) = rw new none_other in
    let clock = carried_other (hclk_of h) (load_of (booked h ++ (t ∷ []))) in
    first_each Other none_other (book_tests t h) (other 16 refl (not (task_ok t)), (free, (other 41 refl (eqb h.count 16), (clock, tt))))
