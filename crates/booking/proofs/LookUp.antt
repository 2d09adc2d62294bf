-- What a look-up answers: from the code's answer, and beside bookings and releases of the same head.
use Prim.Native.Nat.{ℕ, suc, ◌+◌, ◌*◌, ◌<◌}
use mathlib.Core.Path.{◌≡◌, refl, sym, ap, ◌∙◌}
use mathlib.Core.Bool.{Bool, true, false, cond, not}
use mathlib.Core.List.{List, [], ◌∷◌, ◌++◌}
use native.Mathlib.Omega.{arith}
use native.Mathlib.Numerals.{add-one}
use borrow.Author.Tests.{ne_eqb}
use lib.ListN.{length, length-append}
use lib.Seq.{get_or_at}
use Rattle.std.specs.Prelude.{Ok}
use Rattle.std.proofs.lemmas.Result.{err_from_is_err_and}
use Rattle.refusal.specs.declared.Refusal.{Refusal}
use Rattle.refusal.specs.Refusal.{number}
use Rattle.refusal.proofs.Numbers.{not_0}
use Rattle.record.specs.Bytes.{Bytes}
use Rattle.record.specs.Refusals.{refuse, first_of}
use Rattle.record.proofs.Refusals.{only_test, first_passes}
use Rattle.task.specs.declared.Task.{Task}
use Rattle.task.specs.declared.look_up.LookUp.TheVariants.{Hit, Miss}
use Rattle.task.specs.Task.{no_task, task_ok, has_id, InBytes}
use Rattle.task.specs.look_up.{look_up, value_of}
use Rattle.task.proofs.look_up.Laws.{At, is_hit, hit_in_use, hit_at, miss_all, zero_unused}
use Rattle.head.specs.Head.{booked}
use Rattle.head.specs.Record.{head_refusal, head_of}
use Rattle.head.specs.Encodable.{Encodable}
use Rattle.head.proofs.from_bytes.Decoding.{decode_encodable}
use Rattle.head.proofs.tasks.Holding.{booked_length}
use Rattle.head.specs.tasks.{with_task, without_task}
use Rattle.call.specs.Call.{Answer, head_tests, Answers}
use Rattle.call.proofs.Ending.{Refuses}
use Rattle.call.proofs.Changed.{refusal_first}
use Rattle.booking.specs.tests.{book_tests}
use Rattle.booking.specs.Booking.{book}
use Rattle.booking.specs.Release.{release_tests, release}
use Rattle.booking.specs.LookUp.{look_up_call}
use Rattle.booking.proofs.tests.Laws.{in_use, not_in_use}
use Rattle.booking.proofs.Laws.{book_tasks, book_distinct}
use Rattle.booking.proofs.Released.{release_gone}

pub look_up_refused : {b : List ℕ} {r : Answer} (id : ℕ) (n : Refusal) → number n ≡ head_refusal b → Refuses n r → Answers (look_up_call id b) r b []
unfolding look_up_call
look_up_refused {r = r} id n e q =
    let p = err_from_is_err_and r q in
    rw (p.1, p.2, ← e, ne_eqb (number n) 0 (not_0 n)) (record { refusal = refl; value = refl; entries = refl; taken = refl; buffer = refl; journal = refl })

pub look_up_answers : {b : List ℕ} (id v : ℕ) → head_refusal b ≡ 0 → v ≡ value_of (look_up id (booked (head_of b))) →
    Answers (look_up_call id b) (Ok (record { value = v; entries = 0; taken = 0 })) b []
unfolding look_up_call
look_up_answers id v e is = record { refusal = sym e; value = rw e is; entries = refl; taken = refl; buffer = refl; journal = refl }

-- in a head that has a record
module _ (b : List ℕ) (bytes : Bytes b) (read : head_refusal b ≡ 0) where
  ok : Encodable (head_of b)
  ok = decode_encodable b bytes read

  -- the task at a place, the only one of its id, is found, and those up to it are read
  pub look_up_place : (id k : ℕ) → k < (head_of b).count → At id (booked (head_of b)) k → (look_up_call id b).value ≡ suc k * 2 + 1
  unfolding look_up_call
  look_up_place id k l e = rw (read, hit_at id (booked (head_of b)) ok.apart k (rw (booked_length (head_of b) ok) l) e)

  -- an id that no task has: all are read
  pub look_up_unused : (id : ℕ) → has_id id (booked (head_of b)) ≡ false → (look_up_call id b).value ≡ (head_of b).count * 2
  unfolding look_up_call
  look_up_unused id none = rw (read, miss_all id (booked (head_of b)) none, booked_length (head_of b) ok)

  -- 0 is no task's id
  pub look_up_zero : (look_up_call 0 b).value ≡ (head_of b).count * 2
  look_up_zero = look_up_unused 0 (zero_unused (booked (head_of b)) ok.each)

  -- a release is done where the look-up hits, and 42 where it misses
  pub released : (id : ℕ) → (release id b).refusal ≡ cond (is_hit (look_up id (booked (head_of b)))) 0 42
  unfolding release
  released id =
      let tests = release_tests id (head_of b) in
      refusal_first tests (without_task id) b
      ∙ (first_passes (head_tests b) tests (only_test (head_refusal b) ∙ read) ∙ (only_test _ ∙ rw (hit_in_use id (booked (head_of b))) (by (has_id id (booked (head_of b))))))
    where
      by : (has : Bool) → refuse 42 (not has) ≡ cond has 0 42
      by true = refl
      by false = refl

  -- the booking's own tests decide
  tested : (t : Task) → (book t b).refusal ≡ first_of (book_tests t (head_of b))
  unfolding book
  tested t =
      let tests = book_tests t (head_of b) in
      refusal_first tests (with_task t) b ∙ first_passes (head_tests b) tests (only_test (head_refusal b) ∙ read)

  -- a booking is 40 where the look-up hits
  pub not_booked : (t : Task) → task_ok t ≡ true → is_hit (look_up t.id (booked (head_of b))) ≡ true → (book t b).refusal ≡ 40
  not_booked t right hit = tested t ∙ in_use t (head_of b) right (sym (hit_in_use t.id (booked (head_of b))) ∙ hit)

  -- and not where it misses
  pub not_40 : (t : Task) → is_hit (look_up t.id (booked (head_of b))) ≡ false → (book t b).refusal ≡ 40 → ⊥
  not_40 t miss = rw (tested t) (not_in_use t (head_of b) (sym (hit_in_use t.id (booked (head_of b))) ∙ miss))

-- a booked task goes last: all tasks are read, and the last has the id
pub booked_last : (t : Task) (b : List ℕ) → Bytes b → InBytes t → (book t b).refusal ≡ 0 → look_up t.id (booked (head_of (book t b).buffer)) ≡ Hit (suc (length (booked (head_of b))))
booked_last t b bytes small done =
    let ts = booked (head_of b) in
    let all = book_tasks t b bytes small done in
    let count : length (ts ++ (t ∷ [])) ≡ suc (length ts) = length-append ts (t ∷ []) ∙ add-one (length ts) in
    let last : At t.id (ts ++ (t ∷ [])) (length ts) = ap (λ (x : Task). x.id) (get_or_at ts t [] no_task (length ts) refl) in
    rw all (hit_at t.id (ts ++ (t ∷ [])) (rw all at (book_distinct t b bytes small done)) (length ts) (omega (arith, count)) last)

-- a released task is gone: all others are read, and none has the id
pub released_gone : (id : ℕ) (b : List ℕ) → Bytes b → (release id b).refusal ≡ 0 → look_up id (booked (head_of (release id b).buffer)) ≡ Miss (length (booked (head_of (release id b).buffer)))
released_gone id b bytes done = miss_all id (booked (head_of (release id b).buffer)) (release_gone id b bytes done)
