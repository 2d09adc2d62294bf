-- The trims that calibration stores are 1 to 1023, and none is stored after the measurement that ends the search.
use Prim.Native.Nat.{ℕ, zero, suc, ◌+◌, ◌*◌, ◌/◌, ◌%◌, ◌<◌, ◌≤◌}
use mathlib.Core.Path.{◌≡◌, refl}
use mathlib.Core.Bool.{Bool, true, false, cond}
use mathlib.Core.List.{List, [], ◌∷◌, ◌++◌}
use native.Mathlib.Omega.{arith}
use native.Mathlib.Decide.{dec_lt}
use lib.Dec.{eqb, leb, ltb}
use lib.ListN.{length, get_or, drop, length-append, get_or-append}
use lib.Seq.{get_or_at}
use borrow.Author.Tests.{lt-ltb}
use Rattle.std.specs.Prelude.{Option, Some, None}
use Rattle.time.specs.declared.Hertz.{Hertz}
use Rattle.head.specs.declared.Head.{Head}
use Rattle.register.specs.Word.{word_of}
use Rattle.clock_read.specs.Hpsys.{hclk_of}
use Rattle.journal.specs.Run.{Run, Effect, begin, idle, ◌▸◌, unless_ended, ended, halted, entry, store, cycles, delayed, delay, Poll, ready_after, never_ready, poll, waited, measured, measure}
use Rattle.calibration.specs.measure.{measurement, hxt_cnt, hrc_cnt, difference, judged_difference}
use Rattle.calibration.specs.search.{next_trim, adjusted, search}
use Rattle.calibration.proofs.search.Laws.{Ranged, ranged_first, ranged_next}
use Rattle.calibration.specs.Calibration.{calibrate, calibrate_hrc48}

-- an entry that stores register 19 has a value in 1 to 1023
abbrev pub TrimWithin : ℕ → Type 0
TrimWithin e = e / 16777216 ≡ 19 → (1 ≤ e % 16777216) × (e % 16777216 ≤ 1023)

-- each of some entries
pub record TrimsWithin (es : List ℕ) : Type 0 where
  pub each : (i : ℕ) → i < length es → TrimWithin (get_or es i 0)

-- an effect keeps that
record Keeps (f : Effect) : Type 0 where
  pub keeps : (r : Run) → TrimsWithin r.entries → TrimsWithin (f r).entries

one_more : (es : List ℕ) (e : ℕ) → TrimsWithin es → TrimWithin e → TrimsWithin (es ++ (e ∷ []))
one_more es e t p = record { each = λ i h. by i (dec_lt i (length es)) h }
  where
    by : (i : ℕ) → Dec (i < length es) → i < length (es ++ (e ∷ [])) → TrimWithin (get_or (es ++ (e ∷ [])) i 0)
    by i (yes k) h = rw (get_or-append es (e ∷ []) 0 i k) (t.each i k)
    by i (no k) h = rw (get_or_at es e [] 0 i (omega (arith, length-append es (e ∷ [])))) p

keeps_then : {f g : Effect} → Keeps f → Keeps g → Keeps (f ▸ g)
keeps_then {f} x y = record { keeps = λ r t. y.keeps (f r) (x.keeps r t) }

keeps_unless_ended : {f : Effect} → Keeps f → Keeps (unless_ended f)
unfolding unless_ended
keeps_unless_ended {f} x = record { keeps = λ r t. by (eqb r.stop 0) r t }
  where
    by : (t : Bool) (r : Run) → TrimsWithin r.entries → TrimsWithin (cond t (f r) r).entries
    by true r t = x.keeps r t
    by false r t = t

keeps_store : (n v : ℕ) → TrimWithin (entry n v) → Keeps (store n v)
unfolding store
keeps_store n v p = keeps_unless_ended (record { keeps = λ r t. one_more r.entries (entry n v) t p })

keeps_delay : (us : ℕ) → Keeps (delay us)
unfolding delay
keeps_delay us = keeps_unless_ended (record { keeps = λ r t. by (hclk_of r.head) r t })
  where
    by : (f : Option Hertz) (r : Run) → TrimsWithin r.entries → TrimsWithin (delayed f us r).entries
    by (Some f) r t = one_more r.entries (entry 48 (cycles f.0 us)) t (λ e. absurd (omega arith))
    by None r t = t

keeps_measure : (a : List ℕ) → Keeps (measure a)
unfolding measure
keeps_measure a = keeps_unless_ended (record { keeps = λ r t. by (poll (drop r.taken a)) r t })
  where
    either : (b : Bool) (n : ℕ) (r : Run) → TrimsWithin r.entries → TrimsWithin (cond b (waited 5 a (ready_after n) r) (ended 36 (length a) r)).entries
    either true n r t = one_more r.entries (entry 49 (5 * 65536 + n)) t (λ e. absurd (omega arith))
    either false n r t = t

    by : (q : Poll) (r : Run) → TrimsWithin r.entries → TrimsWithin (measured a q r).entries
    by (ready_after n) r t = either (leb (r.taken + n + 2) (length a)) (n + 2) r t
    by never_ready r t = t

-- a refusal and the verdict on the final difference write nothing
halted_keeps : (n : ℕ) (r : Run) → ((halted n r).entries ≡ r.entries) × ((halted n r).head ≡ r.head)
unfolding halted unless_ended
halted_keeps n r = by (eqb r.stop 0)
  where
    by : (t : Bool) → ((cond t (ended n r.taken r) r).entries ≡ r.entries) × ((cond t (ended n r.taken r) r).head ≡ r.head)
    by true = (refl, refl)
    by false = (refl, refl)

pub judged_keeps : (d : ℕ) (r : Run) → ((judged_difference d r).entries ≡ r.entries) × ((judged_difference d r).head ≡ r.head)
unfolding judged_difference
judged_keeps d r = by (ltb 160 d)
  where
    by : (t : Bool) → ((cond t (halted 33) idle r).entries ≡ r.entries) × ((cond t (halted 33) idle r).head ≡ r.head)
    by true = halted_keeps 33 r
    by false = (refl, refl)

keeps_judged : (d : ℕ) → Keeps (judged_difference d)
keeps_judged d = record { keeps = λ r t. rw (judged_keeps d r).0 t }

keeps_measurement : (trim : ℕ) (a : List ℕ) → 1 ≤ trim → trim ≤ 1023 → Keeps (measurement trim a)
unfolding measurement
keeps_measurement trim a p q =
    let set = keeps_store 19 trim (λ e. (omega arith, omega arith)) in
    let on = keeps_store 21 1 (λ e. absurd (omega arith)) in
    let off = keeps_store 21 0 (λ e. absurd (omega arith)) in
    keeps_then (keeps_then (keeps_then (keeps_then set (keeps_delay 3)) on) (keeps_measure a)) off

keeps_adjusted : (trim step : ℕ) (a : List ℕ) (more : ℕ → ℕ → Effect) → ((hxt hrc d : ℕ) → Keeps (more (next_trim trim step hxt hrc) d)) → Keeps (adjusted trim step a more)
unfolding adjusted
keeps_adjusted trim step a more x = record { keeps = λ r t. by (ltb (difference (hxt_cnt a r) (hrc_cnt a r)) 64) (hxt_cnt a r) (hrc_cnt a r) (difference (hxt_cnt a r) (hrc_cnt a r)) r t }
  where
    by : (b : Bool) (hxt hrc d : ℕ) (r : Run) → TrimsWithin r.entries → TrimsWithin (cond b (judged_difference d r) (more (next_trim trim step hxt hrc) d r)).entries
    by true hxt hrc d r t = (keeps_judged d).keeps r t
    by false hxt hrc d r t = (x hxt hrc d).keeps r t

keeps_search : (n trim step d : ℕ) (a : List ℕ) → Ranged trim step → Keeps (search n trim step d a)
unfolding search
keeps_search zero trim step d a s = keeps_judged d
keeps_search (suc n) trim step d a s =
    keeps_then (keeps_measurement trim a s.least s.most)
    (keeps_adjusted trim step a _ (λ hxt hrc d'. keeps_search n (next_trim trim step hxt hrc) (step / 2) d' a (ranged_next trim step hxt hrc s)))

keeps_calibrate : (a : List ℕ) → Keeps (calibrate_hrc48 a)
unfolding calibrate calibrate_hrc48
keeps_calibrate a = record { keeps = λ r t. by r.head.hxt48_ready r t }
  where
    all : Keeps (calibrate a)
    all = keeps_then (keeps_then (keeps_store 20 0x3fff (λ e. absurd (omega arith))) (keeps_store 18 (word_of 0 3 3) (λ e. absurd (omega arith)))) (keeps_search 11 0x200 0x100 0 a ranged_first)

    by : (b : Bool) (r : Run) → TrimsWithin r.entries → TrimsWithin (cond b (calibrate a) (halted 31) r).entries
    by true r t = all.keeps r t
    by false r t = rw (halted_keeps 31 r).0 t

-- every trim that calibration stores is 1 to 1023, whatever is counted
pub trims_within : (a : List ℕ) (h : Head) → TrimsWithin (calibrate_hrc48 a (begin h)).entries
trims_within a h = (keeps_calibrate a).keeps (begin h) (record { each = λ i k. absurd (omega arith) })

-- "Writing the trim worked out in the measurement that ends the search. It is never stored.": what the last measurement leaves is left, but
-- for 33
module _ (trim step d : ℕ) (a : List ℕ) (r : Run) where
  abbrev last : Run
  last = measurement trim a r

  abbrev apart : ℕ
  apart = difference (hxt_cnt a last) (hrc_cnt a last)

  pub good_ends : (n : ℕ) → apart < 64 → search (suc n) trim step d a r ≡ judged_difference apart last
  unfolding search adjusted
  good_ends n h = rw (lt-ltb apart 64 h)

  pub eleventh_ends : search 1 trim step d a r ≡ judged_difference apart last
  unfolding search adjusted
  eleventh_ends = by (ltb apart 64)
    where
      by : (t : Bool) → cond t (judged_difference apart last) (judged_difference apart last) ≡ judged_difference apart last
      by true = refl
      by false = refl
