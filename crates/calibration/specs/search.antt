-- The search for the trim in `calibrate_hrc48` of rcc/clock_config.rs.
use Rattle.std.specs.Prelude.{ℕ, zero, suc, ◌+◌, ◌-◌, ◌/◌, cond, List, ltb}
use Rattle.journal.specs.Run.{Effect, ◌▸◌}
use Rattle.calibration.specs.measure.{measurement, hxt_cnt, hrc_cnt, difference, judged_difference}

-- `if hxt_cnt > hrc_cnt`: the trim goes up by the step, else down
unfoldable pub next_trim : ℕ → ℕ → ℕ → ℕ → ℕ
next_trim trim step hxt hrc = cond (ltb hrc hxt) (trim + step) (trim - step)

-- one turn of the loop after its readings, `more` being the turns left, by their trim and `cnt_diff`: `if cnt_diff < 64 { break; }`, and then
-- the trim "worked out in the measurement that ends the search" is dropped
unfoldable pub adjusted : ℕ → ℕ → List ℕ → (ℕ → ℕ → Effect) → Effect
adjusted trim step a more r =
    cond (ltb (difference (hxt_cnt a r) (hrc_cnt a r)) 64)
    (judged_difference (difference (hxt_cnt a r) (hrc_cnt a r)) r)
    (more (next_trim trim step (hxt_cnt a r) (hrc_cnt a r)) (difference (hxt_cnt a r) (hrc_cnt a r)) r)

-- `for _ in 0..11`, by the turns left; `d` is `cnt_diff`, and `step_unit >>= 1`
unfoldable pub search : ℕ → ℕ → ℕ → ℕ → List ℕ → Effect
search zero trim step d a = judged_difference d
search (suc n) trim step d a = measurement trim a ▸ adjusted trim step a (λ (trim' d' : ℕ). search n trim' (step / 2) d' a)
