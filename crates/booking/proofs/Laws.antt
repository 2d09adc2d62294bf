-- What a booking leaves: a load within the clock, the former tasks with the new one last.
use Prim.Native.Nat.{ℕ, ◌≤◌, ◌<◌}
use mathlib.Core.Path.{◌≡◌, refl, sym, ap, ◌∙◌}
use mathlib.Core.Bool.{true, false}
use mathlib.Core.List.{List, [], ◌∷◌, ◌++◌}
use native.Mathlib.Omega.{arith}
use borrow.Author.Tests.{eqb-false, ltb-false}
use lib.Dec.{eqb, ltb}
use Rattle.time.specs.declared.Hertz.{Hertz}
use Rattle.std.specs.Prelude.{Option, Some}
use Rattle.record.specs.Bytes.{Bytes}
use Rattle.record.specs.Refusals.{first_of}
use Rattle.record.proofs.Refusals.{NoneRefused, none_refused, not_refused, not_refused_unless}
use Rattle.task.specs.declared.Task.{Task}
use Rattle.task.specs.Task.{task_ok, has_id, distinct, InBytes}
use Rattle.head.specs.declared.Head.{Head}
use Rattle.head.specs.Head.{booked}
use Rattle.head.specs.Record.{head_refusal, head_of}
use Rattle.head.specs.Encodable.{Encodable}
use Rattle.head.proofs.from_bytes.Passed.{passed}
use Rattle.head.proofs.from_bytes.Decoding.{decode_encodable}
use Rattle.clock_read.specs.Hpsys.{sys_of, hclk_of}
use Rattle.load.specs.Load.{load_of}
use Rattle.head.specs.tasks.{with_task}
use Rattle.head.proofs.tasks.Holding.{booked_holding}
use Rattle.head.proofs.tasks.Kept.{more_encodable}
use Rattle.call.proofs.Changed.{head_passed, own_passed, left_head, refusal_first, refused_buffer}
use Rattle.booking.specs.tests.{carried, book_tests}
use Rattle.booking.specs.Booking.{book}

-- a clock that carries a load is not below it
carried_reads : (r : Option Hertz) (load : ℕ) → carried r load ≡ 0 → (f : Hertz) → r ≡ Some f → load ≤ f.0
carried_reads r load e f q = ltb-false f.0 load (not_refused 38 (ltb f.0 load) (sym (ap (λ (x : Option Hertz). carried x load) q) ∙ e))

-- the tests of a booking, all passed
module _ (t : Task) (h : Head) (e : first_of (book_tests t h) ≡ 0) where
  none : NoneRefused (book_tests t h)
  none = none_refused (book_tests t h) e

  pub passed_16 : task_ok t ≡ true
  passed_16 = let found = none in not_refused_unless 15 (task_ok t) search

  pub passed_40 : has_id t.id (booked h) ≡ false
  passed_40 = let found = none in not_refused 39 (has_id t.id (booked h)) search

  pub passed_41 : Encodable h → h.count < 16
  passed_41 ok = let found = none in omega (arith, eqb-false h.count 16 (not_refused 40 (eqb h.count 16) search), ok.room)

  pub passed_39 : (f : Hertz) → hclk_of h ≡ Some f → load_of (booked h ++ (t ∷ [])) ≤ f.0
  passed_39 = let found = none in carried_reads (hclk_of h) (load_of (booked h ++ (t ∷ []))) search

  pub passed_encodable : Encodable h → InBytes t → Encodable (with_task t h)
  passed_encodable ok bytes = more_encodable t h ok (passed_41 ok) passed_16 passed_40 bytes

-- the clock does not depend on the tasks
pub same_hclk : (t : Task) (h : Head) → hclk_of (with_task t h) ≡ hclk_of h
unfolding hclk_of sys_of
same_hclk t h = refl

-- a refused booking leaves the bytes as they were
pub book_refused : (t : Task) (b : List ℕ) → ((book t b).refusal ≡ 0 → ⊥) → (book t b).buffer ≡ b
unfolding book
book_refused t b z = refused_buffer (book_tests t (head_of b)) (with_task t) b (λ e. z (refusal_first (book_tests t (head_of b)) (with_task t) b ∙ e))

-- a booking answered done
module _ (t : Task) (b : List ℕ) (bytes : Bytes b) (small : InBytes t) (done : (book t b).refusal ≡ 0) where
  own : first_of (book_tests t (head_of b)) ≡ 0
  unfolding book
  own = own_passed (book_tests t (head_of b)) (with_task t) b done

  read : head_refusal b ≡ 0
  unfolding book
  read = head_passed (book_tests t (head_of b)) (with_task t) b done

  before : Encodable (head_of b)
  before = decode_encodable b bytes read

  left : (head_refusal (book t b).buffer ≡ 0) × (head_of (book t b).buffer ≡ with_task t (head_of b))
  unfolding book
  left = left_head (book_tests t (head_of b)) (with_task t) b done (passed b read).length (passed_encodable t (head_of b) own before small)

  -- leaves a record
  pub book_record : head_refusal (book t b).buffer ≡ 0
  book_record = left.0

  -- of the head with its task last: registers and flags are as they were
  pub book_head : head_of (book t b).buffer ≡ with_task t (head_of b)
  book_head = left.1

  -- "A booked task goes last"
  pub book_tasks : booked (head_of (book t b).buffer) ≡ booked (head_of b) ++ (t ∷ [])
  book_tasks = ap booked book_head ∙ booked_holding (booked (head_of b) ++ (t ∷ [])) (head_of b)

  -- ids stay distinct
  pub book_distinct : distinct (booked (head_of (book t b).buffer)) ≡ true
  book_distinct = ap (λ (h : Head). distinct (booked h)) book_head ∙ (passed_encodable t (head_of b) own before small).apart

  -- the load is at most HCLK
  pub book_load : (f : Hertz) → hclk_of (head_of (book t b).buffer) ≡ Some f → load_of (booked (head_of (book t b).buffer)) ≤ f.0
  book_load f q = rw book_tasks (passed_39 t (head_of b) own f (sym (same_hclk t (head_of b)) ∙ (ap hclk_of (sym book_head) ∙ q)))
