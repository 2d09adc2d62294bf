-- A call on a fit head is never refused 37 or 34, and its refusals are below 64.
use Prim.Native.Nat.{ℕ, ◌<◌}
use mathlib.Core.Path.{◌≡◌, refl, sym, subst}
use mathlib.Core.Bool.{Bool, true, false, false≢true, cond, not, ◌&&◌, ◌||◌}
use mathlib.Core.List.{List, [], ◌∷◌, ◌++◌}
use native.Mathlib.Omega.{arith}
use lib.Dec.{eqb, ltb}
use lib.ListN.{length}
use borrow.Author.Tests.{ltb-true}
use Rattle.std.specs.Prelude.{Option, Some, None}
use Rattle.record.specs.Refusals.{refuse, first_of}
use Rattle.record.proofs.Refusals.{Each, first_each, refuse_each}
use Rattle.record.proofs.Bytes.{and_left}
use Rattle.clock.specs.declared.Dll.{Dll}
use Rattle.plan.specs.bytes.{plan_of}
use Rattle.plan_clocks.specs.Clocks.{hclk_hz}
use Rattle.verdict.specs.Verdict.{verdict, number_of}
use Rattle.task.specs.declared.Task.{Task}
use Rattle.task.specs.Task.{task_ok, has_id}
use Rattle.head.specs.declared.Head.{Head}
use Rattle.head.specs.Head.{booked}
use Rattle.head.specs.Record.{head_refusal, head_of}
use Rattle.clock_read.specs.Hpsys.{hertz, hclk_of}
use Rattle.load.specs.Load.{load_of}
use Rattle.fit.specs.Fit.{fits}
use Rattle.call.specs.Call.{head_tests, journal_tests, answers_tests}
use Rattle.booking.specs.tests.{carried, book_tests}
use Rattle.booking.specs.Release.{release_tests}
use Rattle.lpsys_tests.specs.Tests.{out_of_range}
use Rattle.lpsys_request.specs.frequency.{request_tests}
use Rattle.guard.specs.tests.{unready, overloaded, guard_tests}
use Rattle.guard.specs.Guard.{change_tests, change_refusal}
use Rattle.claim.specs.Moment.{one_ready, stop_for}
use Rattle.claim.specs.Claim.{FitHead}
use Rattle.claim.proofs.Most.{verdict_most}

pub record Never (n : ℕ) : Type 0 where
  pub unfit : n ≡ 37 → ⊥
  pub unread : n ≡ 34 → ⊥
  pub small : n < 64

-- no refusal, or another number
abbrev another : ℕ → Bool
another n = ltb n 64 && not (eqb n 37 || eqb n 34)

pub never : (n : ℕ) → another n ≡ true → Never n
never n e = record {
  unfit = λ q. false≢true (rw q at e);
  unread = λ q. false≢true (rw q at e);
  small = ltb-true n 64 (and_left (ltb n 64) (not (eqb n 37 || eqb n 34)) e);
}

other : (n : ℕ) → another n ≡ true → (t : Bool) → Never (refuse n t)
other n e = refuse_each Never (never 0 refl) n (never n e)

-- so it is with the first refusal of a list, where it is with each
each : (ns : List ℕ) → Each Never ns → Never (first_of ns)
each = first_each Never (never 0 refl)

-- a plan's 1 to 14
verdicts : (pb : List ℕ) → Never (number_of (verdict pb))
verdicts pb = let most = verdict_most pb in record { unfit = λ q. omega (arith, q, most); unread = λ q. omega (arith, q, most); small = omega (arith, most) }

-- the tests of the four calls on a fit head
module _ (b : List ℕ) (fit : FitHead b) where
  abbrev h : Head
  h = head_of b

  abbrev head : Never (head_refusal b)
  head = subst Never (sym fit.read) (never 0 refl)

  pub never_changing : (pb j a : List ℕ) → Never (change_refusal pb b j a)
  never_changing pb j a =
      let p = plan_of pb in
      let is-fit : Never (refuse 37 (not (fits h))) = rw fit.fit (never 0 refl) in
      let own : Each Never (guard_tests p h) = (is-fit, (other 38 refl (unready p h), (other 39 refl (overloaded (hclk_hz p) h), tt))) in
      each (answers_tests b j a ++ change_tests pb b) (other 17 refl (ltb (length j) 128), (other 18 refl (ltb 4096 (length a)), (head, (verdicts pb, own))))

  pub never_requesting : (f : ℕ) (j : List ℕ) → Never (first_of (journal_tests b j ++ request_tests f))
  never_requesting f j = each (journal_tests b j ++ request_tests f) (other 17 refl (ltb (length j) 128), (head, (other 15 refl (out_of_range f), tt)))

  pub never_releasing : (id : ℕ) → Never (first_of (head_tests b ++ release_tests id h))
  never_releasing id = each (head_tests b ++ release_tests id h) (head, (other 42 refl (not (has_id id (booked h))), tt))

  pub never_booking : (hz : ℕ) → hclk_of h ≡ hertz hz → (t : Task) → Never (first_of (head_tests b ++ book_tests t h))
  never_booking hz reads t =
      let load = load_of (booked h ++ (t ∷ [])) in
      let clock : Never (carried (hclk_of h) load) = rw reads (other 39 refl (ltb hz load)) in
      let own : Each Never (book_tests t h) = (other 16 refl (not (task_ok t)), (other 40 refl (has_id t.id (booked h)), (other 41 refl (eqb h.count 16), (clock, tt)))) in
      each (head_tests b ++ book_tests t h) (head, own)

-- how a guarded change ends
pub never_stopped : (m : Option Dll) (a : List ℕ) → Never (stop_for m a)
never_stopped None a = never 0 refl
never_stopped (Some d) a = by (one_ready a)
  where
    by : (t : Bool) → Never (cond t 0 36)
    by true = never 0 refl
    by false = never 36 refl
