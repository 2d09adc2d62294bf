-- What a release leaves: the former tasks without the one of that id.
use Prim.Native.Nat.{ℕ}
use mathlib.Core.Path.{◌≡◌, ap, ◌∙◌}
use mathlib.Core.Bool.{true, false}
use mathlib.Core.List.{List}
use Rattle.record.specs.Bytes.{Bytes}
use Rattle.task.specs.Task.{has_id, distinct}
use Rattle.head.specs.declared.Head.{Head}
use Rattle.head.specs.Head.{booked}
use Rattle.head.specs.Record.{head_refusal, head_of}
use Rattle.head.specs.Encodable.{Encodable}
use Rattle.head.proofs.from_bytes.Passed.{passed}
use Rattle.head.proofs.from_bytes.Decoding.{decode_encodable}
use Rattle.head.specs.tasks.{without, without_task}
use Rattle.head.proofs.tasks.Holding.{booked_holding}
use Rattle.head.proofs.tasks.Kept.{gone, less_encodable}
use Rattle.call.proofs.Changed.{head_passed, left_head, refusal_first, refused_buffer}
use Rattle.booking.specs.Release.{release_tests, release}

-- a refused release leaves the bytes as they were
pub release_refused : (id : ℕ) (b : List ℕ) → ((release id b).refusal ≡ 0 → ⊥) → (release id b).buffer ≡ b
unfolding release
release_refused id b z = refused_buffer (release_tests id (head_of b)) (without_task id) b (λ e. z (refusal_first (release_tests id (head_of b)) (without_task id) b ∙ e))

-- a release answered done
module _ (id : ℕ) (b : List ℕ) (bytes : Bytes b) (done : (release id b).refusal ≡ 0) where
  read : head_refusal b ≡ 0
  unfolding release
  read = head_passed (release_tests id (head_of b)) (without_task id) b done

  before : Encodable (head_of b)
  before = decode_encodable b bytes read

  left : (head_refusal (release id b).buffer ≡ 0) × (head_of (release id b).buffer ≡ without_task id (head_of b))
  unfolding release
  left = left_head (release_tests id (head_of b)) (without_task id) b done (passed b read).length (less_encodable id (head_of b) before)

  -- leaves a record
  pub release_record : head_refusal (release id b).buffer ≡ 0
  release_record = left.0

  -- of the head without the task: registers and flags are as they were
  pub release_head : head_of (release id b).buffer ≡ without_task id (head_of b)
  release_head = left.1

  -- "a release moves the later ones up"
  pub release_tasks : booked (head_of (release id b).buffer) ≡ without id (booked (head_of b))
  release_tasks = ap booked release_head ∙ booked_holding (without id (booked (head_of b))) (head_of b)

  -- the id is no longer in use
  pub release_gone : has_id id (booked (head_of (release id b).buffer)) ≡ false
  release_gone = ap (has_id id) release_tasks ∙ gone id (booked (head_of b)) before.apart

  -- ids stay distinct
  pub release_distinct : distinct (booked (head_of (release id b).buffer)) ≡ true
  release_distinct = ap (λ (h : Head). distinct (booked h)) release_head ∙ (less_encodable id (head_of b) before).apart
