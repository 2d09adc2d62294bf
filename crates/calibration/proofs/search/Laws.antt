-- Laws of the search: its trims stay in their range, and on a call that has ended it does nothing.
use Prim.Native.Nat.{ℕ, zero, suc, ◌+◌, ◌-◌, ◌*◌, ◌/◌, ◌≤◌}
use mathlib.Core.Path.{◌≡◌}
use mathlib.Core.Bool.{Bool, true, false, cond}
use mathlib.Core.List.{List}
use native.Mathlib.Omega.{arith}
use lib.Dec.{ltb}
use Rattle.journal.specs.Run.{Run, Effect}
use Rattle.journal.proofs.Ended.{Still, still_then}
use Rattle.calibration.specs.measure.{hxt_cnt, hrc_cnt, difference, judged_difference}
use Rattle.calibration.proofs.measure.Laws.{still_judged, still_measurement}
use Rattle.calibration.specs.search.{next_trim, adjusted, search}

-- a trim and the step that follows it: the search never leaves 1 to 1023
pub record Ranged (trim step : ℕ) : Type 0 where
  pub least : 1 ≤ trim
  pub most : trim ≤ 1023
  pub low : 2 * step ≤ trim
  pub high : trim + 2 * step ≤ 1024

pub ranged_first : Ranged 0x200 0x100
ranged_first = record { least = omega arith; most = omega arith; low = omega arith; high = omega arith }

pub ranged_next : (trim step hxt hrc : ℕ) → Ranged trim step → Ranged (next_trim trim step hxt hrc) (step / 2)
unfolding next_trim
ranged_next trim step hxt hrc s = by (ltb hrc hxt)
  where
    by : (t : Bool) → Ranged (cond t (trim + step) (trim - step)) (step / 2)
    by true = record { least = omega arith; most = omega arith; low = omega arith; high = omega arith }
    by false = record { least = omega arith; most = omega arith; low = omega arith; high = omega arith }

-- a call that has ended
pub still_adjusted : (trim step : ℕ) (a : List ℕ) (more : ℕ → ℕ → Effect) → ((t d : ℕ) → Still (more t d)) → Still (adjusted trim step a more)
unfolding adjusted
still_adjusted trim step a more x = record {
  stays = λ r e. by (ltb (difference (hxt_cnt a r) (hrc_cnt a r)) 64) r e (difference (hxt_cnt a r) (hrc_cnt a r)) (next_trim trim step (hxt_cnt a r) (hrc_cnt a r));
}
  where
    by : (t : Bool) (r : Run) → (r.stop ≡ 0 → ⊥) → (d trim' : ℕ) → cond t (judged_difference d r) (more trim' d r) ≡ r
    by true r e d trim' = (still_judged d).stays r e
    by false r e d trim' = (x trim' d).stays r e

pub still_search : (n trim step d : ℕ) (a : List ℕ) → Still (search n trim step d a)
unfolding search
still_search zero trim step d a = still_judged d
still_search (suc n) trim step d a = still_then (still_measurement trim a) (still_adjusted trim step a _ (λ t d'. still_search n t (step / 2) d' a))
