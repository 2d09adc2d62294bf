-- A head's record is of bytes.
use Prim.Native.Nat.{ℕ, zero, suc, ◌+◌, ◌<◌}
use mathlib.Core.List.{List, [], ◌∷◌, ◌++◌}
use native.Mathlib.Omega.{arith}
use lib.ListN.{length, get_or, drop, length-drop}
use lib.Seq.{get_or-drop, get_or-take}
use Rattle.record.specs.Bytes.{Bytes}
use Rattle.record.specs.Items.{joined}
use Rattle.register.specs.Word.{word_bytes}
use Rattle.register.proofs.Fits.{fits_word}
use Rattle.task.specs.declared.Task.{Task}
use Rattle.task.specs.Task.{no_task, InBytes}
use Rattle.record.specs.Four.{four_bytes}
use Rattle.task.specs.bytes.{task_bytes}
use Rattle.task.proofs.bytes.Laws.{bytes_drop}
use Rattle.head.specs.declared.Head.{Head}
use Rattle.head.specs.Head.{booked}
use Rattle.head.specs.Record.{front_of, state_of, record_of, written}
use Rattle.head.specs.Encodable.{Encodable}
use Rattle.head.proofs.Fields.{state_bytes}
use Rattle.head.proofs.tasks.Holding.{booked_length}

bytes_none : Bytes []
bytes_none i = omega arith

bytes_cons : (x : ℕ) (xs : List ℕ) → x < 256 → Bytes xs → Bytes (x ∷ xs)
bytes_cons x xs p b zero = p
bytes_cons x xs p b (suc i) = b i

bytes_append : (xs ys : List ℕ) → Bytes xs → Bytes ys → Bytes (xs ++ ys)
bytes_append [] ys p q = q
bytes_append (x ∷ xs) ys p q = bytes_cons x (xs ++ ys) (p 0) (bytes_append xs ys (λ i. p (suc i)) q)

bytes_joined : {A : Type 0} (g : A → List ℕ) (d : A) (xs : List A) → ((k : ℕ) → k < length xs → Bytes (g (get_or xs k d))) → Bytes (joined g xs)
unfolding joined
bytes_joined g d [] each = bytes_none
bytes_joined g d (x ∷ xs) each = bytes_append (g x) (joined g xs) (each 0 (omega arith)) (bytes_joined g d xs (λ k l. each (suc k) (omega (arith, l))))

word_bytes_lem : (v : ℕ) → v < 16777216 → Bytes (word_bytes v)
unfolding word_bytes
word_bytes_lem v p zero = omega (arith, p)
word_bytes_lem v p (suc zero) = omega arith
word_bytes_lem v p (suc (suc zero)) = omega arith
word_bytes_lem v p (suc (suc (suc i))) = omega arith

four_bytes_lem : (n : ℕ) → Bytes (four_bytes n)
unfolding four_bytes
four_bytes_lem n zero = omega arith
four_bytes_lem n (suc zero) = omega arith
four_bytes_lem n (suc (suc zero)) = omega arith
four_bytes_lem n (suc (suc (suc zero))) = omega arith
four_bytes_lem n (suc (suc (suc (suc i)))) = omega arith

task_bytes_lem : (t : Task) → InBytes t → Bytes (task_bytes t)
unfolding task_bytes
task_bytes_lem t x =
    let numbers = bytes_append (four_bytes t.cycles) (four_bytes t.period) (four_bytes_lem t.cycles) (four_bytes_lem t.period) in
    bytes_cons t.id (four_bytes t.cycles ++ four_bytes t.period) x.id numbers

module _ (h : Head) (ok : Encodable h) where
  front : Bytes (front_of h.count)
  unfolding front_of
  front zero = omega (arith, ok.room)
  front (suc zero) = omega arith
  front (suc (suc zero)) = omega arith
  front (suc (suc (suc i))) = omega arith

  words : Bytes (joined word_bytes (drop 1 h.regs))
  words =
      bytes_joined word_bytes 0 (drop 1 h.regs)
      (λ k l. rw (get_or-drop 1 h.regs k 0) (word_bytes_lem (get_or h.regs (1 + k) 0) (fits_word (1 + k) _ (ok.codes (1 + k) (omega (arith, rw length-drop at l, ok.words))))))

  tasks : Bytes (joined task_bytes (booked h))
  tasks =
      bytes_joined task_bytes no_task (booked h)
      (λ k l. let within : k < h.count = omega (arith, l, booked_length h ok) in rw (get_or-take h.count h.tasks k no_task within) (task_bytes_lem (get_or h.tasks k no_task) (ok.in_bytes k within)))

  pub written_bytes : (b : List ℕ) → Bytes b → Bytes (written h b)
  unfolding written record_of
  written_bytes b bytes =
      bytes_append (record_of h) (drop (length (record_of h)) b)
      (bytes_append (front_of h.count) (joined word_bytes (drop 1 h.regs) ++ (state_of h ++ joined task_bytes (booked h))) front
      (bytes_append (joined word_bytes (drop 1 h.regs)) (state_of h ++ joined task_bytes (booked h)) words (bytes_append (state_of h) (joined task_bytes (booked h)) (state_bytes h ok) tasks)))
      (bytes_drop b (length (record_of h)) bytes)
