-- Calibration only appends.
use Prim.Native.Nat.{ℕ, zero, suc, ◌/◌}
use mathlib.Core.List.{List}
use lib.Dec.{ltb}
use Rattle.register.specs.Word.{word_of}
use Rattle.journal.specs.Run.{Effect}
use Rattle.journal.proofs.Framed.{Framed, framed_then, framed_cond, framed_store}
use Rattle.calibration.specs.measure.{hxt_cnt, hrc_cnt, difference}
use Rattle.calibration.proofs.measure.Laws.{framed_either, framed_halted, framed_judged, framed_measurement}
use Rattle.calibration.specs.search.{next_trim, adjusted, search}
use Rattle.calibration.specs.Calibration.{calibrate, calibrate_hrc48}

framed_adjusted : (trim step : ℕ) (a : List ℕ) (more : ℕ → ℕ → Effect) → ((t d : ℕ) → Framed (more t d)) → Framed (adjusted trim step a more)
unfolding adjusted
framed_adjusted trim step a more x = record {
  appends = λ es r.
      let d = difference (hxt_cnt a r) (hrc_cnt a r) in
      (framed_cond (ltb d 64) (framed_judged d) (x (next_trim trim step (hxt_cnt a r) (hrc_cnt a r)) d)).appends es r;
}

framed_search : (n trim step d : ℕ) (a : List ℕ) → Framed (search n trim step d a)
unfolding search
framed_search zero trim step d a = framed_judged d
framed_search (suc n) trim step d a = framed_then (framed_measurement trim a) (framed_adjusted trim step a _ (λ t d'. framed_search n t (step / 2) d' a))

pub framed_calibrate : (a : List ℕ) → Framed (calibrate_hrc48 a)
unfolding calibrate calibrate_hrc48
framed_calibrate a =
    let all = framed_then (framed_then (framed_store 20 0x3fff) (framed_store 18 (word_of 0 3 3))) (framed_search 11 0x200 0x100 0 a) in
    record { appends = λ es r. (framed_either r.head.hxt48_ready all (framed_halted 31)).appends es r }
