-- Heads that hold other tasks: what they hold, and that they still have a record.
use Prim.Native.Nat.{ℕ, suc, ◌+◌, ◌-◌, ◌≤◌, ◌<◌}
use mathlib.Core.Path.{◌≡◌, refl, ap, sym, ◌∙◌}
use mathlib.Core.Bool.{true}
use mathlib.Core.List.{List, [], ◌∷◌, ◌++◌, append_assoc}
use native.Mathlib.Omega.{arith}
use native.Mathlib.Numerals.{add-one}
use lib.ListN.{length, get_or, take, drop, set, replicate, length-append, length-drop, length-replicate, take-append-drop, replicate-append-replicate, get_or-append}
use lib.Seq.{length-take-le, take-append-le, drop-append-le, drop_at}
use Rattle.record.proofs.Items.{fill}
use Rattle.layout.specs.Layout.{most_tasks}
use Rattle.task.specs.declared.Task.{Task}
use Rattle.task.specs.Task.{no_task, all_ok, distinct, InBytes}
use Rattle.task.specs.bytes.{placed}
use Rattle.task.proofs.bytes.Places.{placed_first}
use Rattle.head.specs.declared.Head.{Head}
use Rattle.head.specs.Head.{booked}
use Rattle.head.specs.Encodable.{Encodable}
use Rattle.head.specs.tasks.{holding, with_task, without_place, moved_up}
use Rattle.head.proofs.Fields.{with_tasks_encodable}

-- the tasks booked are as many as counted, and the other places are empty
module _ (h : Head) (ok : Encodable h) where
  pub booked_length : length (booked h) ≡ h.count
  booked_length = length-take-le h.count h.tasks (omega (arith, ok.places, ok.room))

  pub tasks_placed : h.tasks ≡ placed (booked h) (length (booked h))
  tasks_placed = rw booked_length (sym (rw ok.rest at (take-append-drop h.count h.tasks)))

-- one more at the end
pub placed_more : (ts : List Task) (t : Task) → length ts < most_tasks → set (placed ts (length ts)) (length ts) t ≡ placed (ts ++ (t ∷ [])) (length (ts ++ (t ∷ [])))
placed_more ts t h =
    let n : length (ts ++ (t ∷ [])) ≡ suc (length ts) = length-append ts (t ∷ []) ∙ add-one (length ts) in
    rw n (fill ts most_tasks (length ts) no_task t refl h)

-- one less
less_length : (ts : List Task) (at : ℕ) → at < length ts → length (take at ts ++ drop (suc at) ts) ≡ length ts - 1
less_length ts at l = length-append (take at ts) (drop (suc at) ts) ∙ rw (length-take-le at ts (omega (arith, l)), length-drop (suc at) ts) (omega (arith, l))

pub placed_less : (ts : List Task) (at : ℕ) → at < length ts → length ts ≤ most_tasks →
    moved_up at (placed ts (length ts)) ≡ placed (take at ts ++ drop (suc at) ts) (length (take at ts ++ drop (suc at) ts))
placed_less ts at l h =
    let R : List Task = replicate (most_tasks - length ts) no_task in
    let one : List Task = no_task ∷ [] in
    let count : most_tasks - length ts + 1 ≡ most_tasks - (length ts - 1) = omega (arith, l, h) in
    let more : R ++ one ≡ replicate (most_tasks - (length ts - 1)) no_task =
    replicate-append-replicate (most_tasks - length ts) 1 no_task ∙ ap (λ (k : ℕ). replicate k no_task) count in
    rw (take-append-le at ts R (omega (arith, l)), drop-append-le (suc at) ts R (omega (arith, l)), less_length ts at l, ← more) (simp append_assoc)

-- the same of a head's places, and of its count
module _ (h : Head) (ok : Encodable h) where
  module _ (t : Task) where
    pub more_places : h.count < most_tasks → set h.tasks h.count t ≡ (with_task t h).tasks
    more_places l =
        ap (λ (ts : List Task). set ts h.count t) (tasks_placed h ok)
        ∙ (ap (λ (n : ℕ). set (placed (booked h) (length (booked h))) n t) (sym (booked_length h ok)) ∙ placed_more (booked h) t (omega (arith, l, booked_length h ok)))

    pub more_count : h.count + 1 ≡ (with_task t h).count
    more_count = sym (length-append (booked h) (t ∷ []) ∙ ap (λ (n : ℕ). n + 1) (booked_length h ok))

  module _ (at : ℕ) (l : at < h.count) where
    within : at < length (booked h)
    within = rw booked_length l

    pub less_places : moved_up at h.tasks ≡ (without_place at h).tasks
    less_places = ap (moved_up at) (tasks_placed h ok) ∙ placed_less (booked h) at within (omega (arith, booked_length h ok, ok.room))

    pub less_count : h.count - 1 ≡ (without_place at h).count
    less_count = sym (less_length (booked h) at within ∙ ap (λ (n : ℕ). n - 1) (booked_length h ok))

-- a head that holds tasks: it has booked just these, and it has a record
module _ (ts : List Task) (h : Head) where
  pub booked_holding : booked (holding ts h) ≡ ts
  booked_holding = placed_first ts (length ts) refl

  pub holding_encodable : Encodable h → length ts ≤ most_tasks → all_ok ts ≡ true → distinct ts ≡ true → ((k : ℕ) → k < length ts → InBytes (get_or ts k no_task)) → Encodable (holding ts h)
  holding_encodable ok few each apart bytes =
      with_tasks_encodable ok
      (record {
        places = length-append ts (replicate (most_tasks - length ts) no_task) ∙ rw length-replicate (omega (arith, few));
        room = few;
        each = rw booked_holding each;
        apart = rw booked_holding apart;
        in_bytes = λ k l. rw (get_or-append ts (replicate (most_tasks - length ts) no_task) no_task k l) (bytes k l);
        rest = drop_at ts (replicate (most_tasks - length ts) no_task) (length ts) refl;
      })
