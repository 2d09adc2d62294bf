-- Each of the four calls is good on a fit head.
use Prim.Native.Nat.{ℕ, zero, suc, ◌≤◌}
use mathlib.Core.Path.{◌≡◌, refl, ap, sym, ◌∙◌, subst}
use mathlib.Core.Bool.{Bool, true, false, false≢true, cond, not, ◌&&◌, ◌||◌}
use mathlib.Core.List.{List, [], ◌∷◌, ◌++◌}
use native.Mathlib.Omega.{arith}
use lib.Dec.{eqb, ltb}
use lib.ListN.{length}
use borrow.Author.Tests.{eqb-false, eq-eqb, ne_eqb, ltb-false}
use Rattle.std.specs.Prelude.{Ok, Err}
use Rattle.record.specs.Bytes.{Bytes}
use Rattle.record.specs.Refusals.{first_of}
use Rattle.record.proofs.Refusals.{none_refused, not_refused}
use Rattle.plan.specs.declared.Plan.{Plan}
use Rattle.plan.specs.bytes.{plan_of, record_refusal, decoded}
use Rattle.plan_clocks.specs.Clocks.{hclk_hz}
use Rattle.verdict.specs.tests.{plan_refusal}
use Rattle.verdict.specs.Verdict.{judged, verdict, number_of}
use Rattle.verdict.proofs.Passed.{Passed, number_is}
use Rattle.verdict.proofs.Passed as verdicts
use Rattle.task.specs.declared.Task.{Task}
use Rattle.task.specs.Task.{InBytes}
use Rattle.head.specs.declared.Head.{Head}
use Rattle.head.specs.Head.{booked}
use Rattle.head.specs.Record.{head_refusal, head_of}
use Rattle.head.specs.Encodable.{Encodable}
use Rattle.head.proofs.from_bytes.Passed.{passed}
use Rattle.head.proofs.from_bytes.Decoding.{decode_encodable}
use Rattle.clock_read.specs.Hpsys.{reg, sys_of, hclk_of}
use Rattle.clock_read.specs.lpsys.{lpsys_sys_of, lpsys_hclk_of}
use Rattle.journal.specs.Run.{Run, Effect, begin}
use Rattle.fit.specs.rail.{rail_limit}
use Rattle.fit.specs.Fit.{fits}
use Rattle.load.specs.Load.{load_of}
use Rattle.call.specs.Call.{Left, head_tests, journal_tests, answers_tests, refused, finished, performed, head_call}
use Rattle.head.specs.tasks.{holding, without, with_task, without_task}
use Rattle.head.proofs.tasks.Holding.{booked_holding}
use Rattle.head.proofs.tasks.Kept.{less_encodable}
use Rattle.call.proofs.Changed.{done_buffer, refused_buffer, refusal_first, own_passed, left_head}
use Rattle.booking.specs.tests.{book_tests}
use Rattle.booking.specs.Booking.{book}
use Rattle.booking.proofs.Laws.{passed_39, passed_encodable}
use Rattle.booking.specs.Release.{release_tests, release}
use Rattle.lpsys_request.specs.Request.{request}
use Rattle.lpsys_tests.proofs.Laws.{request_range}
use Rattle.lpsys_request.specs.frequency.{request_tests, lpsys_request}
use Rattle.guard_change.specs.Change.{change}
use Rattle.claim.specs.Moment.{Ready}
use Rattle.claim.proofs.changes.View.{begun}
use Rattle.claim.proofs.changes.Progress.{stored_by_change}
use Rattle.claim.proofs.changes.Change.{AsPlanned, Changed, change_moments}
use Rattle.claim.proofs.requests.Coded.{codes_now}
use Rattle.claim.proofs.requests.Laws.{request_moments, request_codes, request_goes, request_takes}
use Rattle.guard.specs.tests.{unready, overloaded}
use Rattle.guard.specs.Guard.{change_tests, change_refusal, change_call}
use Rattle.claim.specs.Claim.{Call, changing, booking, releasing, requesting, after, Asked, FitHead}
use Rattle.claim.proofs.Written.{written_bytes}
use Rattle.claim.proofs.Never.{Never, never, never_changing, never_requesting, never_releasing, never_booking, never_stopped}
use Rattle.claim.proofs.Counts.{change_writes, request_writes, taken_within}
use Rattle.claim.proofs.Performed.{Fine, Quiet, quiet_word, quiet_moments, quiet_regs, unchanged, ran, ran_head}

-- a number that is 0 or not
either : (n : ℕ) → Dec (n ≡ 0)
either zero = yes refl
either (suc n) = no (λ e. omega (arith, e))

-- a refused call writes and takes nothing
still : {n : ℕ} {b j : List ℕ} → Quiet (refused n b j)
still = record { value = refl; entries = refl; taken = refl }

-- a call whose tests refuse it, and one whose tests pass
refused_is : (n : ℕ) (f : Effect) (v : ℕ) (b j : List ℕ) → (n ≡ 0 → ⊥) → performed n f v b j ≡ refused n b j
unfolding performed
refused_is n f v b j z = rw (ne_eqb n 0 z)

ran_is : (n : ℕ) (f : Effect) (v : ℕ) (b j : List ℕ) → n ≡ 0 → performed n f v b j ≡ finished (f (begin (head_of b))) v b j
unfolding performed
ran_is n f v b j e = rw e

module _ (b : List ℕ) (fit : FitHead b) (ts : List Task) (holds : booked (head_of b) ≡ ts) where
  abbrev h : Head
  h = head_of b

  ok : Encodable h
  ok = decode_encodable b fit.bytes fit.read

  -- LPSYS requests
  in_range : (f : ℕ) (j : List ℕ) → first_of (journal_tests b j ++ request_tests f) ≡ 0 → (1 ≤ f) × (f ≤ 48)
  in_range f j e = let none = none_refused (journal_tests b j ++ request_tests f) e in request_range f search

  pub requests : (f : ℕ) (j : List ℕ) → Fine b (requesting f j) (lpsys_request f b j) ts
  unfolding lpsys_request
  requests f j = by (either (first_of (journal_tests b j ++ request_tests f)))
    where
      by : Dec (first_of (journal_tests b j ++ request_tests f) ≡ 0) → Fine b (requesting f j) (performed (first_of (journal_tests b j ++ request_tests f)) (request f) 0 b j) ts
      by (yes e) =
          let p = in_range f j e in
          let codes = request_codes f h ok fit.fit p.0 p.1 in
          rw (ran_is (first_of (journal_tests b j ++ request_tests f)) (request f) 0 b j e)
          (ran b fit (requesting f j) ts holds (request f (begin h)) j (request_moments f h ok fit.fit p.0 p.1) (codes_now h (request f (begin h)) codes) codes.only refl tt
          (rw (request_goes f h ok fit.fit p.0 p.1) (never 0 refl)) (omega (arith, request_writes f (begin h))) (omega (arith, request_takes f h ok fit.fit p.0 p.1)))
      by (no z) =
          rw (refused_is (first_of (journal_tests b j ++ request_tests f)) (request f) 0 b j z)
          (unchanged b fit (requesting f j) ts holds (refused (first_of (journal_tests b j ++ request_tests f)) b j) still refl refl tt (never_requesting b fit f j))

  -- guarded changes: what the tests say of one that passes them
  accepted : (pb : List ℕ) → number_of (verdict pb) ≡ 0 → plan_refusal (plan_of pb) ≡ 0
  unfolding verdict decoded
  accepted pb e = by (eqb (record_refusal pb) 0) refl e
    where
      by : (t : Bool) → eqb (record_refusal pb) 0 ≡ t → number_of (judged (cond t (Ok (plan_of pb)) (Err (record_refusal pb)))) ≡ 0 → plan_refusal (plan_of pb) ≡ 0
      by true q e = sym (number_is (plan_of pb)) ∙ e
      by false q e = absurd (eqb-false (record_refusal pb) 0 q e)

  sources : (p : Plan) → unready p h ≡ false → Ready p h
  sources p e = record { hxt48 = hxt48 h.hxt48_ready _ e; hrc48 = λ z. hrc48 h.hxt48_ready (eqb p.sys 0) h.hrc48_ready (eq-eqb p.sys 0 z) e }
    where
      hxt48 : (x y : Bool) → (not x || y) ≡ false → x ≡ true
      hxt48 true y e = refl
      hxt48 false y e = absurd (false≢true (sym e))

      hrc48 : (x s y : Bool) → s ≡ true → (not x || (s && not y)) ≡ false → y ≡ true
      hrc48 true true true q e = refl
      hrc48 true true false q e = absurd (false≢true (sym e))
      hrc48 true false y q e = absurd (false≢true q)
      hrc48 false s y q e = absurd (false≢true (sym e))

  module _ (pb j a : List ℕ) where
    abbrev p : Plan
    p = plan_of pb

    abbrev c : Call
    c = changing pb j a

    abbrev n : ℕ
    n = change_refusal pb b j a

    module _ (e : n ≡ 0) where
      own : Passed p × (Ready p h × (load_of (booked h) ≤ hclk_hz p))
      own =
          let none = none_refused (answers_tests b j a ++ change_tests pb b) e in
          let ready = sources p (not_refused 37 (unready p h) search) in
          let load = ltb-false (hclk_hz p) (load_of (booked h)) (not_refused 38 (overloaded (hclk_hz p) h) search) in
          (verdicts.passed p (accepted pb search), (ready, load))

      did : Changed h p a (change p a (begin h))
      did = change_moments h p a ok fit.fit own.0 own.1.0

      abbrev r : Run
      r = change p a (begin h)

      few : r.taken ≤ 4096
      few =
          let none = none_refused (answers_tests b j a ++ change_tests pb b) e in
          let lent = ltb-false 4096 (length a) (not_refused 17 (ltb 4096 (length a)) search) in
          omega (arith, did.taken, taken_within p.dll1 a, lent)

      changed_head : head_of (finished r 0 b j).buffer ≡ r.head
      changed_head = ran_head b fit c ts holds r j did.moments did.encodable did.rest

      changes : Fine b c (finished r 0 b j) ts
      changes =
          ran b fit c ts holds r j did.moments did.encodable did.rest refl
          ((λ z. did.stop), λ z. (ap hclk_of changed_head ∙ did.clock z, subst (λ (l : List Task). load_of l ≤ hclk_hz p) holds own.1.1))
          (rw did.stop (never_stopped p.dll1 a)) (change_writes p a (begin h)) few

    pub guarded : Fine b c (change_call pb b j a) ts
    unfolding change_call
    guarded = by (either n)
      where
        by : Dec (n ≡ 0) → Fine b c (performed n (change p a) 0 b j) ts
        by (yes e) = rw (ran_is n (change p a) 0 b j e) (changes e)
        by (no z) = rw (refused_is n (change p a) 0 b j z) (unchanged b fit c ts holds (refused n b j) still refl refl ((λ e. absurd (z e)), λ e. absurd (z e)) (never_changing b fit pb j a))

    -- a change, done or refused, leaves every register but those that it stores
    pub guarded_others : (k : ℕ) → stored_by_change k ≡ false → reg (head_of (change_call pb b j a).buffer) k ≡ reg h k
    unfolding change_call
    guarded_others k q = by (either n)
      where
        by : Dec (n ≡ 0) → reg (head_of (performed n (change p a) 0 b j).buffer) k ≡ reg h k
        by (yes e) = rw (ran_is n (change p a) 0 b j e) (ap (λ (g : Head). reg g k) (changed_head e) ∙ (did e).others k q)
        by (no z) = rw (refused_is n (change p a) 0 b j z)

    -- done, it leaves the plan's core select, dividers and DLL1
    pub guarded_planned : (change_call pb b j a).refusal ≡ 0 → AsPlanned p (head_of (change_call pb b j a).buffer)
    unfolding change_call
    guarded_planned = by (either n)
      where
        by : Dec (n ≡ 0) → (performed n (change p a) 0 b j).refusal ≡ 0 → AsPlanned p (head_of (performed n (change p a) 0 b j).buffer)
        by (yes e) = rw (ran_is n (change p a) 0 b j e) (λ q. rw (changed_head e) ((did e).planned q))
        by (no z) = rw (refused_is n (change p a) 0 b j z) (λ q. absurd (z q))

  -- bookings and releases: nothing is stored
  silent : (tests : List ℕ) (f : Head → Head) → Quiet (head_call tests f b)
  silent tests f = by (either (first_of (head_tests b ++ tests)))
    where
      by : Dec (first_of (head_tests b ++ tests) ≡ 0) → Quiet (head_call tests f b)
      by (yes e) = rw (ran_is (first_of (head_tests b ++ tests)) _ 0 b [] e) (record { value = refl; entries = refl; taken = refl })
      by (no z) = rw (refused_is (first_of (head_tests b ++ tests)) _ 0 b [] z) still

  same_fit : (xs : List Task) → fits (holding xs h) ≡ fits h
  unfolding fits hclk_of sys_of rail_limit lpsys_hclk_of lpsys_sys_of
  same_fit xs = refl

  -- a call on the head alone, answered done, that leaves the tasks `xs` booked
  module _ (c : Call) (tests : List ℕ) (f : Head → Head) (e : (head_call tests f b).refusal ≡ 0) (enc : Encodable (f h)) (xs : List Task) (is : f h ≡ holding xs h) where
    abbrev o : Left
    o = head_call tests f b

    left : (head_refusal o.buffer ≡ 0) × (head_of o.buffer ≡ f h)
    left = left_head tests f b e (passed b fit.read).length enc

    head_is : head_of o.buffer ≡ holding xs h
    head_is = left.1 ∙ is

    bytes_left : Bytes o.buffer
    bytes_left = rw (done_buffer tests f b (sym (refusal_first tests f b) ∙ e)) (written_bytes (f h) enc b fit.bytes)

    held : after c o.refusal ts ≡ xs → Asked c b o xs → Fine b c o ts
    held kept asked =
        let none : Never o.refusal = rw e (never 0 refl) in
        record {
          good = record {
            moments = quiet_moments b o (silent tests f).entries fit.fit;
            last = quiet_regs b o (silent tests f).entries (ap (λ (g : Head). g.regs) head_is);
            returns = left.0;
            tasks = ap booked head_is ∙ (booked_holding xs h ∙ sym kept);
            asked = subst (Asked c b o) (sym kept) asked;
            never_37 = none.unfit;
            never_34 = none.unread;
          };
          next = record { bytes = bytes_left; read = left.0; fit = ap fits head_is ∙ (same_fit xs ∙ fit.fit) };
          word = quiet_word o (silent tests f) none;
        }

  pub books : (t : Task) → InBytes t → Fine b (booking t) (book t b) ts
  unfolding book hclk_of sys_of
  books t small = by (either (head_call (book_tests t h) (with_task t) b).refusal)
    where
      by : Dec ((head_call (book_tests t h) (with_task t) b).refusal ≡ 0) → Fine b (booking t) (head_call (book_tests t h) (with_task t) b) ts
      by (yes e) =
          let own = own_passed (book_tests t h) (with_task t) b e in
          let clock = begun h fit.fit in
          let small-enough = passed_encodable t h own ok small in
          let left = head_is (booking t) (book_tests t h) (with_task t) e small-enough (booked h ++ (t ∷ [])) refl in
          held (booking t) (book_tests t h) (with_task t) e small-enough (booked h ++ (t ∷ [])) refl (rw (e, holds))
          (λ z. (clock.hz, (ap hclk_of left ∙ clock.at, passed_39 t h own _ clock.at)))
      by (no z) =
          let same = refused_buffer (book_tests t h) (with_task t) b (λ q. z (refusal_first (book_tests t h) (with_task t) b ∙ q)) in
          unchanged b fit (booking t) ts holds (head_call (book_tests t h) (with_task t) b) (silent (book_tests t h) (with_task t)) same (rw (ne_eqb _ 0 z)) (λ q. absurd (z q))
          (rw (refusal_first (book_tests t h) (with_task t) b) (never_booking b fit (begun h fit.fit).hz (begun h fit.fit).at t))

  pub releases : (id : ℕ) → Fine b (releasing id) (release id b) ts
  unfolding release
  releases id = by (either (head_call (release_tests id h) (without_task id) b).refusal)
    where
      by : Dec ((head_call (release_tests id h) (without_task id) b).refusal ≡ 0) → Fine b (releasing id) (head_call (release_tests id h) (without_task id) b) ts
      by (yes e) =
          held (releasing id) (release_tests id h) (without_task id) e (less_encodable id h ok) (without id (booked h)) refl (rw (e, holds)) tt
      by (no z) =
          let same = refused_buffer (release_tests id h) (without_task id) b (λ q. z (refusal_first (release_tests id h) (without_task id) b ∙ q)) in
          unchanged b fit (releasing id) ts holds (head_call (release_tests id h) (without_task id) b) (silent (release_tests id h) (without_task id)) same (rw (ne_eqb _ 0 z)) tt
          (rw (refusal_first (release_tests id h) (without_task id) b) (never_releasing b fit id))
