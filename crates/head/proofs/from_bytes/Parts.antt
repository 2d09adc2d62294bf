-- Laws of the parts of a record.
use Prim.Native.Nat.{ℕ, ◌*◌, ◌≤◌}
use mathlib.Core.Path.{◌≡◌, refl, ap, ◌∙◌}
use mathlib.Core.List.{List, ◌++◌, append_assoc}
use native.Mathlib.Omega.{arith}
use native.Mathlib.Nat.{min-le_left}
use lib.ListN.{length, drop, length-append, length-drop, length-take}
use lib.Seq.{length-take-le}
use Rattle.layout.specs.Layout.{register_size, registers_size, hxt48_ready_at, first_task, task_size, most_tasks, record_size, buffer_bytes}
use Rattle.record.specs.Items.{joined, laid}
use Rattle.record.proofs.Items.{joined_length}
use Rattle.record.proofs.Laid.{laid_then, laid_front}
use Rattle.register.specs.Word.{word_bytes}
use Rattle.register.proofs.Words.{word_length}
use Rattle.task.specs.bytes.{task_bytes}
use Rattle.task.proofs.bytes.Laws.{task_length}
use Rattle.head.specs.declared.Head.{Head}
use Rattle.head.proofs.Fields.{state_length}
use Rattle.head.specs.Head.{booked}
use Rattle.head.specs.Record.{front_of, state_of, record_of, written}

module _ (h : Head) (words : length h.regs ≡ 35) (room : h.count ≤ most_tasks) where
  -- the record's parts have the lengths that their places say
  pub registers_length : length (joined word_bytes (drop 1 h.regs)) ≡ registers_size
  registers_length = joined_length word_bytes register_size word_length (drop 1 h.regs) ∙ rw (length-drop 1 h.regs, words)

  pub booked_length : length h.tasks ≡ most_tasks → length (joined task_bytes (booked h)) ≡ task_size * h.count
  booked_length e = joined_length task_bytes task_size task_length (booked h) ∙ rw (length-take-le h.count h.tasks (omega arith))

  booked_room : length (joined task_bytes (booked h)) ≤ task_size * most_tasks
  booked_room =
      let most : length (booked h) ≤ h.count = rw (length-take h.count h.tasks) (min-le_left h.count (length h.tasks)) in
      omega (arith, joined_length task_bytes task_size task_length (booked h))

  pub record_length : length h.tasks ≡ most_tasks → length (record_of h) ≡ record_size h.count
  unfolding record_of front_of
  record_length e = simp length-append (omega (arith, registers_length, state_length h, booked_length e))

  -- the four parts, written one after the other, are the record
  pub record_laid : (b : List ℕ) → length b ≡ buffer_bytes →
      laid first_task (joined task_bytes (booked h)) (laid hxt48_ready_at (state_of h) (laid register_size (joined word_bytes (drop 1 h.regs)) (laid 0 (front_of h.count) b)))
      ≡ written h b
  unfolding front_of record_of written
  record_laid b e =
      let front : List ℕ = front_of h.count in
      let words : List ℕ = joined word_bytes (drop 1 h.regs) in
      let state : List ℕ = state_of h in
      let tasks : List ℕ = joined task_bytes (booked h) in
      let one : length (front ++ words) ≡ hxt48_ready_at = length-append front words ∙ (omega (arith, registers_length)) in
      let two : length (front ++ words ++ state) ≡ first_task = length-append (front ++ words) state ∙ (omega (arith, one, state_length h)) in
      let same : front ++ words ++ state ++ tasks ≡ record_of h = append_assoc (front ++ words) state tasks ∙ append_assoc front words (state ++ tasks) in
      rw (
        laid_then 0 register_size front words b refl (omega (arith, registers_length)),
        laid_then 0 hxt48_ready_at (front ++ words) state b (omega (arith, one)) (omega (arith, state_length h)),
        laid_then 0 first_task (front ++ words ++ state) tasks b (omega (arith, two)) (omega (arith, booked_room)),
      )
      (laid_front (front ++ words ++ state ++ tasks) b ∙ ap (λ (r : List ℕ). r ++ drop (length r) b) same)
