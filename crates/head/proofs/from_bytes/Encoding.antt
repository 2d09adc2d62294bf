-- Decoding what was encoded gives the head back.
use Prim.Native.Nat.{ℕ, suc, ◌+◌, ◌*◌, ◌<◌}
use mathlib.Core.Path.{◌≡◌, refl, ap, sym, ◌∙◌}
use mathlib.Core.Bool.{Bool, true, false}
use mathlib.Core.List.{List, [], ◌∷◌, ◌++◌, append_assoc}
use native.Mathlib.Omega.{arith}
use native.Mathlib.Numerals.{one-add}
use lib.ListN.{length, get_or, take, drop, length-append, length-drop, take-append-drop}
use lib.Seq.{take-append-add, get_or-drop, length-take-le, get_or-take, drop_at, drop-drop}
use Rattle.layout.specs.Layout.{register_size, registers_size, hxt48_ready_at, coded_size, state_size, first_task, task_size, version_at, length_of, buffer_bytes}
use Rattle.record.specs.Bytes.{two_bytes, is_within, bit}
use Rattle.head.specs.declared.Head.{Head}
use Rattle.register.specs.Word.{word_in, word_bytes}
use Rattle.record.specs.Items.{items, joined}
use Rattle.task.specs.Task.{no_task}
use Rattle.task.specs.bytes.{task_in, task_bytes, count_in, tasks_in, places_in}
use Rattle.register.specs.Codes.{largest}
use Rattle.head.specs.Head.{booked}
use Rattle.head.specs.Record.{head_refusal, head_of, front_of, state_of, record_of, written}
use Rattle.register.specs.bytes.{registers_in}
use Rattle.head.specs.Encodable.{Encodable}
use Rattle.record.proofs.Items.{items_of}
use Rattle.record.proofs.Parts.{within_joined}
use Rattle.register.proofs.Words.{word_of_bytes, word_length}
use Rattle.task.proofs.bytes.Laws.{task_of_bytes, task_length}
use Rattle.register.proofs.Fits.{fits_word, fits_codes, unused_zero}
use Rattle.head.proofs.Fields.{state_length, count_again, head_again}
use Rattle.head.proofs.from_bytes.Passed.{Passed, unrefused}
use Rattle.head.proofs.from_bytes.Parts.{registers_length, record_length}

bits_within : (s t u : Bool) → is_within (bit s ∷ bit t ∷ bit u ∷ []) (1 ∷ 1 ∷ 1 ∷ []) ≡ true
unfolding is_within
bits_within true true true = refl
bits_within true true false = refl
bits_within true false true = refl
bits_within true false false = refl
bits_within false true true = refl
bits_within false true false = refl
bits_within false false true = refl
bits_within false false false = refl

-- a list whose first element is 0
unused_first : (r : List ℕ) → 0 < length r → get_or r 0 0 ≡ 0 → 0 ∷ drop 1 r ≡ r
unused_first [] l e = absurd (omega arith)
unused_first (x ∷ xs) l e = rw e

-- what is written: the registers, the bytes past the record, and all that follows the registers
words : Head → List ℕ
words h = joined word_bytes (drop 1 h.regs)

past : Head → List ℕ → List ℕ
past h b = drop (length (record_of h)) b

rest : Head → List ℕ → List ℕ
rest h b = state_of h ++ (joined task_bytes (booked h) ++ past h b)

flags : Head → List ℕ
flags h = bit h.hxt48_ready ∷ bit h.hrc48_ready ∷ bit h.lpsys_hxt48_ready ∷ []

module _ (h : Head) (e : Encodable h) (b : List ℕ) (l : length b ≡ buffer_bytes) where
  -- the bytes written: length and version, registers, and the rest
  split : written h b ≡ front_of h.count ++ (words h ++ rest h b)
  unfolding written record_of words past rest
  split = simp append_assoc

  words_length : length (words h) ≡ registers_size
  unfolding words
  words_length = registers_length h e.words e.room

  numbered : length (drop 1 h.regs) ≡ 34
  numbered = length-drop 1 h.regs ∙ rw e.words

  from_registers : drop register_size (written h b) ≡ words h ++ rest h b
  unfolding front_of
  from_registers = ap (drop register_size) split

  from_state : drop hxt48_ready_at (written h b) ≡ rest h b
  from_state = sym (drop-drop registers_size register_size (written h b)) ∙ (ap (drop registers_size) from_registers ∙ drop_at (words h) (rest h b) registers_size words_length)

  from_tasks : drop first_task (written h b) ≡ joined task_bytes (booked h) ++ past h b
  unfolding rest
  from_tasks = sym (drop-drop state_size hxt48_ready_at (written h b)) ∙ (ap (drop state_size) from_state ∙ drop_at (state_of h) (joined task_bytes (booked h) ++ past h b) state_size (state_length h))

  count_written : count_in (written h b) ≡ h.count
  unfolding rest
  count_written = count_again h (written h b) (joined task_bytes (booked h) ++ past h b) from_state

  booked_count : length (booked h) ≡ h.count
  booked_count = length-take-le h.count h.tasks (omega (arith, e.places, e.room))

  -- the parts are read as they were written
  tasks_again : tasks_in (written h b) ≡ booked h
  unfolding tasks_in
  tasks_again =
      let back : (k : ℕ) → k < length (booked h) → (r : List ℕ) → task_in (task_bytes (get_or (booked h) k no_task) ++ r) ≡ get_or (booked h) k no_task =
      λ k u r.
      let u' : k < h.count = omega (arith, booked_count) in
      task_of_bytes (get_or (booked h) k no_task) r (rw (get_or-take h.count h.tasks k no_task u') (e.in_bytes k u')) in
      rw (count_written, from_tasks)
      (ap (λ (n : ℕ). items task_in task_size n (joined task_bytes (booked h) ++ past h b)) (sym booked_count) ∙ items_of task_in task_bytes task_size task_length no_task (booked h) (past h b) back)

  register_again : (k : ℕ) → get_or (drop 1 h.regs) k 0 ≡ get_or h.regs (suc k) 0
  register_again k = get_or-drop 1 h.regs k 0 ∙ rw one-add

  registers_again : registers_in (written h b) ≡ h.regs
  unfolding registers_in words
  registers_again =
      let back : (k : ℕ) → k < length (drop 1 h.regs) → (r : List ℕ) → word_in (word_bytes (get_or (drop 1 h.regs) k 0) ++ r) ≡ get_or (drop 1 h.regs) k 0 =
      λ k u r. word_of_bytes (get_or (drop 1 h.regs) k 0) r
      (rw (register_again k) (fits_word (suc k) (get_or h.regs (suc k) 0) (e.codes (suc k) (omega (arith, numbered))))) in
      let later : items word_in register_size 34 (drop register_size (written h b)) ≡ drop 1 h.regs =
      rw (from_registers, ← numbered) (items_of word_in word_bytes register_size word_length 0 (drop 1 h.regs) (rest h b) back) in
      rw later (unused_first h.regs (omega (arith, e.words)) (unused_zero (get_or h.regs 0 0) (e.codes 0 (omega arith))))

  places_again : places_in (written h b) ≡ h.tasks
  unfolding places_in
  places_again = rw (tasks_again, count_written, ← e.rest) (take-append-drop h.count h.tasks)

  register_within : (k : ℕ) → k < length (drop 1 h.regs) → is_within (word_bytes (get_or (drop 1 h.regs) k 0)) (take register_size (drop (register_size * k) (drop register_size largest))) ≡ true
  register_within k u =
      let next : register_size + register_size * k ≡ register_size * suc k = omega arith in
      rw (register_again k, drop-drop (register_size * k) register_size largest, next) (fits_codes (suc k) (get_or h.regs (suc k) 0) (e.codes (suc k) (omega (arith, numbered))))

  flags_within : is_within (flags h) (drop (register_size * length (drop 1 h.regs)) (drop register_size largest)) ≡ true
  unfolding flags largest
  flags_within = rw numbered (bits_within h.hxt48_ready h.hrc48_ready h.lpsys_hxt48_ready)

  flags_first : take 3 (rest h b) ≡ flags h
  unfolding rest state_of flags
  flags_first = refl

  codes_again : is_within (take coded_size (drop register_size (written h b))) (drop register_size largest) ≡ true
  unfolding words
  codes_again =
      let all : take coded_size (drop register_size (written h b)) ≡ words h ++ flags h =
      rw from_registers (rw (words_length, flags_first) at (take-append-add (words h) (rest h b) 3)) in
      rw all (within_joined word_bytes register_size word_length 0 (drop 1 h.regs) (flags h) (drop register_size largest) register_within flags_within)

  written_length : length (written h b) ≡ buffer_bytes
  unfolding written
  written_length = length-append (record_of h) (drop (length (record_of h)) b) ∙ rw length-drop (omega (arith, record_length h e.words e.room e.places, e.room))

  field_again : two_bytes (get_or (written h b) 0 0) (get_or (written h b) 1 0) ≡ length_of h.count
  unfolding front_of
  field_again = rw split (omega (arith, e.room))

  version_again : get_or (written h b) version_at 0 ≡ 1
  unfolding front_of
  version_again = rw split

  head_written : head_of (written h b) ≡ h
  unfolding rest
  head_written = head_again h (written h b) (joined task_bytes (booked h) ++ past h b) from_state registers_again places_again

  again : Passed (written h b)
  again =
      record {
        length = written_length;
        count = rw count_written e.room;
        field = rw count_written field_again;
        version = version_again;
        codes = codes_again;
        each = rw tasks_again e.each;
        apart = rw tasks_again e.apart;
      }

  -- the record is not refused, and its head is the one written
  pub decode_encode : (head_refusal (written h b) ≡ 0) × (head_of (written h b) ≡ h)
  decode_encode = (unrefused (written h b) again, head_written)
