-- Each call that waits, lent more answers: `GoesOn`.
use Prim.Native.Nat.{ℕ, ◌≤◌}
use mathlib.Core.Path.{◌≡◌, refl, ap, sym, ◌∙◌}
use mathlib.Core.Bool.{Bool, true, false, cond, not}
use mathlib.Core.List.{List, [], ◌++◌, append-nil}
use native.Mathlib.Omega.{arith}
use lib.Dec.{eqb, ltb}
use lib.ListN.{length, drop, length-append}
use lib.Seq.{take_at}
use borrow.Author.Tests.{eqb-false, le-ltb}
use Rattle.record.specs.Refusals.{refuse, first_of}
use Rattle.record.proofs.Refusals.{Each, first_each, refuse_each}
use Rattle.plan.specs.bytes.{plan_of}
use Rattle.head.specs.Record.{head_refusal, head_of, written}
use Rattle.journal.specs.Run.{Run, Effect, begin}
use Rattle.call.specs.Call.{Left, answers_tests, refused, finished, performed}
use Rattle.call.specs.with_plan.{lent_plan_tests}
use Rattle.clock_config.specs.calibrate.{calibration_tests, calibration}
use Rattle.clock_config.specs.init.{init_call}
use Rattle.clock_config.specs.reconfigure.{reconfigure_call}
use Rattle.clock_init.specs.Init.{init_warning}
use Rattle.clock_lpsys.specs.Calls.{wake_lcpu, ensure_hxt48}
use Rattle.guard.specs.Guard.{change_tests, change_call}
use Rattle.guard.specs.tests.{unready, overloaded}
use Rattle.fit.specs.Fit.{fits}
use Rattle.plan_clocks.specs.Clocks.{hclk_hz}
use Rattle.verdict.specs.Verdict.{verdict, number_of}
use Rattle.claim.proofs.Most.{head_most, verdict_most}
use Rattle.claim.specs.Claim.{entries_of}
use Rattle.play.specs.Play.{GoesOn}
use Rattle.play.proofs.Plays.{Onward, same, out, Plays}
use Rattle.play.proofs.Parts.{plays_change, plays_to_plan, plays_calibrate, plays_init, plays_wake, plays_hxt48}

-- a finished call's entries are its run's
pub entries_are : (r : Run) (v : ℕ) (b j : List ℕ) → entries_of (finished r v b j) ≡ r.entries
entries_are r v b j = take_at r.entries (drop (length r.entries) j) (length r.entries) refl

-- what a call leaves, with another value
unaltered : (o o' : Left) → o'.refusal ≡ o.refusal → o'.entries ≡ o.entries → o'.buffer ≡ o.buffer → o'.journal ≡ o.journal →
    (o.refusal ≡ 36 → ⊥) → (x : List ℕ) → GoesOn x o o'
unaltered o o' e f g h z x = record { rest = []; entries = rw (f, h) (sym (append-nil (entries_of o))); next = λ q. absurd (z q); whole = λ q. (e, g, h) }

module _ {F : List ℕ → Effect} (plays : Plays F) (a x b j : List ℕ) (v v' : ℕ) where
  abbrev first : Run
  first = F a (begin (head_of b))

  abbrev more : Run
  more = F (a ++ x) (begin (head_of b))

  finished_on : Onward a x first more → GoesOn x (finished first v b j) (finished more v' b j)
  finished_on (same e k z) = unaltered (finished first v b j) (finished more v' b j) (ap (λ (r : Run). r.stop) e) (ap (λ (r : Run). length r.entries) e)
      (ap (λ (r : Run). written r.head b) e) (ap (λ (r : Run). r.entries ++ drop (length r.entries) j) e) z x
  finished_on (out s q w) = record {
    rest = q.rest;
    entries = entries_are more v' b j ∙ (q.entries ∙ ap (λ (l : List ℕ). l ++ q.rest) (sym (entries_are first v b j)));
    next = λ e. w;
    whole = λ z. absurd (z s);
  }

  performed_on : (n : ℕ) → (n ≡ 36 → ⊥) → GoesOn x (performed n (F a) v b j) (performed n (F (a ++ x)) v' b j)
  unfolding performed
  performed_on n other = by (eqb n 0)
    where
      by : (t : Bool) → GoesOn x (cond t (finished first v b j) (refused n b j)) (cond t (finished more v' b j) (refused n b j))
      by true = finished_on (plays.onward a x (begin (head_of b)) (omega arith) (λ q. omega (arith, q)))
      by false = unaltered (refused n b j) (refused n b j) refl refl refl refl other x

-- a list of refusals without 36
abbrev Other : ℕ → Type 0
Other n = n ≡ 36 → ⊥

none : Other 0
none q = omega (arith, q)

other : (n : ℕ) → eqb n 36 ≡ false → (t : Bool) → Other (refuse n t)
other n e = refuse_each Other none n (eqb-false n 36 e)

-- the tests do not tell the two apart, where the answers are at most 4096
module _ (a x : List ℕ) (most : length (a ++ x) ≤ 4096) (b j : List ℕ) where
  same_tests : (tests : List ℕ) → first_of (answers_tests b j (a ++ x) ++ tests) ≡ first_of (answers_tests b j a ++ tests)
  same_tests tests = rw (le-ltb 4096 (length (a ++ x)) most, le-ltb 4096 (length a) (omega (arith, simp length-append at most)))

  -- nor is 36 among them
  shared : (tests : List ℕ) → Each Other tests → first_of (answers_tests b j a ++ tests) ≡ 36 → ⊥
  shared tests o =
      let head : head_refusal b ≡ 36 → ⊥ = λ q. omega (arith, q, head_most b) in
      first_each Other none (answers_tests b j a ++ tests) (other 17 refl (ltb (length j) 128), (other 18 refl (ltb 4096 (length a)), (head, o)))

  answered : {F : List ℕ → Effect} → Plays F → (tests : List ℕ) → Each Other tests → (v v' : ℕ) →
      GoesOn x (performed (first_of (answers_tests b j a ++ tests)) (F a) v b j) (performed (first_of (answers_tests b j (a ++ x) ++ tests)) (F (a ++ x)) v' b j)
  answered {F} plays tests o v v' = rw (same_tests tests) (performed_on plays a x b j v v' (first_of (answers_tests b j a ++ tests)) (shared tests o))

  plans : (pb : List ℕ) → number_of (verdict pb) ≡ 36 → ⊥
  plans pb q = omega (arith, q, verdict_most pb)

  -- the guarded change
  pub change_goes_on : (pb : List ℕ) → GoesOn x (change_call pb b j a) (change_call pb b j (a ++ x))
  unfolding change_call
  change_goes_on pb = answered (plays_change (plan_of pb)) (change_tests pb b) (own pb) 0 0
    where
      own : (pb : List ℕ) → Each Other (change_tests pb b)
      own pb =
          let p = plan_of pb in
          let h = head_of b in
          (plans pb, (other 37 refl (not (fits h)), (other 38 refl (unready p h), (other 39 refl (overloaded (hclk_hz p) h), tt))))

  -- `init`, `reconfigure_sysclk` and `calibrate_hrc48`
  pub init_goes_on : (pb : List ℕ) → GoesOn x (init_call pb b j a) (init_call pb b j (a ++ x))
  unfolding init_call
  init_goes_on pb = answered (plays_init (plan_of pb)) (lent_plan_tests pb) (plans pb, tt) (init_warning (plan_of pb) a (begin (head_of b))) (init_warning (plan_of pb) (a ++ x) (begin (head_of b)))

  pub reconfigure_goes_on : (pb : List ℕ) → GoesOn x (reconfigure_call pb b j a) (reconfigure_call pb b j (a ++ x))
  unfolding reconfigure_call
  reconfigure_goes_on pb = answered (plays_to_plan (plan_of pb)) (lent_plan_tests pb) (plans pb, tt) 0 0

  pub calibration_goes_on : GoesOn x (calibration b j a) (calibration b j (a ++ x))
  unfolding calibration
  calibration_goes_on = answered plays_calibrate (calibration_tests b) (other 31 refl (not (head_of b).hxt48_ready), tt) 0 0

  -- `wake_lcpu` and `ensure_hxt48_ready`
  pub wake_goes_on : GoesOn x (wake_lcpu b j a) (wake_lcpu b j (a ++ x))
  unfolding wake_lcpu
  wake_goes_on = answered plays_wake [] tt 0 0

  pub hxt48_goes_on : GoesOn x (ensure_hxt48 b j a) (ensure_hxt48 b j (a ++ x))
  unfolding ensure_hxt48
  hxt48_goes_on = answered plays_hxt48 [] tt 0 0
