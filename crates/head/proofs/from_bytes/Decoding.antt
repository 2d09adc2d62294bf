-- What is decoded is encodable, and encoding it gives the record back.
use Prim.Native.Nat.{ℕ, zero, suc, ◌+◌, ◌*◌, ◌-◌, ◌/◌, ◌%◌, ◌≤◌, ◌<◌}
use mathlib.Core.Path.{◌≡◌, refl, ap, sym, ◌∙◌}
use mathlib.Core.Bool.{true}
use mathlib.Core.List.{List, ◌++◌, append_assoc}
use native.Mathlib.Omega.{arith}
use lib.ListN.{length, get_or, take, drop, replicate, length-append, length-drop, length-replicate, take-append-drop}
use lib.Seq.{get_or-take, get_or-drop, take-add, drop_at, length-take-le, drop-drop}
use Rattle.layout.specs.Layout.{register_size, registers_size, hxt48_ready_at, hrc48_ready_at, lpsys_hxt48_ready_at}
use Rattle.layout.specs.Layout.{coded_size, state_size, most_tasks, first_task, task_size, record_size, length_of}
use Rattle.record.proofs.Bytes.{within_at}
use Rattle.task.specs.declared.Task.{Task}
use Rattle.register.specs.Word.{word_in, word_bytes}
use Rattle.record.specs.Bytes.{Bytes}
use Rattle.record.specs.Items.{items, joined}
use Rattle.task.specs.Task.{no_task, InBytes}
use Rattle.task.specs.bytes.{task_in, task_bytes, count_in, tasks_in, places_in}
use Rattle.register.specs.Codes.{largest, codes_of, fits_register}
use Rattle.head.specs.Head.{booked}
use Rattle.head.specs.Record.{head_refusal, head_of, front_of, state_of, record_of, written}
use Rattle.register.specs.bytes.{registers_in}
use Rattle.head.specs.Encodable.{Encodable}
use Rattle.record.proofs.Items.{items_length, items_at, of_items, joined_at}
use Rattle.record.proofs.Parts.{within_part}
use Rattle.register.proofs.Words.{bytes_of_word, word_length}
use Rattle.task.proofs.bytes.Laws.{bytes_of_task, bytes_drop, task_in_bytes}
use Rattle.register.proofs.Fits.{codes_fit, zero_fits}
use Rattle.record.proofs.Lists.{part_by_place}
use Rattle.head.proofs.Fields.{state_again, head_encodable}
use Rattle.head.proofs.from_bytes.Passed.{Passed, passed}
use Rattle.task.proofs.bytes.Places.{tasks_length, places_booked}

word_in_24 : (b : List ℕ) → Bytes b → word_in b < 16777216
unfolding word_in
word_in_24 b bytes = omega (arith, bytes 0, bytes 1, bytes 2)

module _ (b : List ℕ) (p : Passed b) (bytes : Bytes b) where
  -- the registers' bytes are those of the words read
  words_bytes : joined word_bytes (items word_in register_size 34 (drop register_size b)) ≡ take registers_size (drop register_size b)
  words_bytes = of_items word_in word_bytes register_size bytes_of_word 34 (drop register_size b) (rw length-drop (omega (arith, p.length))) (bytes_drop b register_size bytes)

  registers_length : length (registers_in b) ≡ 35
  unfolding registers_in
  registers_length = ap suc (items_length word_in register_size 34 (drop register_size b))

  -- each register within its codes
  registers_fit : (n : ℕ) → n < 35 → fits_register n (get_or (registers_in b) n 0) ≡ true
  unfolding registers_in
  registers_fit zero h = zero_fits 0 (omega arith)
  registers_fit (suc k) h =
      let ws : List ℕ = items word_in register_size 34 (drop register_size b) in
      let l : k < length ws = rw items_length (omega arith) in
      let e : take coded_size (drop register_size b) ≡ joined word_bytes ws ++ take 3 (drop registers_size (drop register_size b)) =
      rw words_bytes (take-add registers_size 3 (drop register_size b)) in
      let here : take register_size (drop (register_size * k) (take coded_size (drop register_size b))) ≡ word_bytes (get_or ws k 0) =
      rw e (joined_at word_bytes register_size word_length ws (take 3 (drop registers_size (drop register_size b))) k 0 l) in
      let next : register_size * suc k ≡ register_size + register_size * k = omega arith in
      let codes : take register_size (drop (register_size * k) (drop register_size largest)) ≡ codes_of (suc k) = rw (drop-drop (register_size * k) register_size largest, next) in
      let small : get_or ws k 0 < 16777216 =
      rw (items_at word_in register_size 34 (drop register_size b) k 0 (omega arith)) (word_in_24 _ (bytes_drop (drop register_size b) (register_size * k) (bytes_drop b register_size bytes))) in
      codes_fit (suc k) (get_or ws k 0) small
      (rw (← here, ← codes) (within_part (register_size * k) register_size (take coded_size (drop register_size b)) (drop register_size largest) p.codes))

  -- those past the booked tasks are empty
  places_length : length (places_in b) ≡ most_tasks
  unfolding places_in
  places_length = length-append (tasks_in b) (replicate (most_tasks - count_in b) no_task) ∙ rw (tasks_length b, length-replicate) (omega (arith, p.count))

  places_rest : drop (count_in b) (places_in b) ≡ replicate (most_tasks - count_in b) no_task
  unfolding places_in
  places_rest = drop_at (tasks_in b) (replicate (most_tasks - count_in b) no_task) (count_in b) (tasks_length b)

  places_in_bytes : (k : ℕ) → k < count_in b → InBytes (get_or (places_in b) k no_task)
  unfolding tasks_in
  places_in_bytes k h =
      let e : get_or (places_in b) k no_task ≡ get_or (tasks_in b) k no_task =
      sym (get_or-take (count_in b) (places_in b) k no_task h) ∙ ap (λ (l : List Task). get_or l k no_task) (places_booked b) in
      rw (e, items_at task_in task_size (count_in b) (drop first_task b) k no_task h)
      (task_in_bytes (drop (task_size * k) (drop first_task b)) (bytes_drop (drop first_task b) (task_size * k) (bytes_drop b first_task bytes)))

  decoded : Encodable (head_of b)
  decoded =
      head_encodable b bytes
      (record { words = registers_length; codes = registers_fit })
      (record {
        places = places_length;
        room = p.count;
        each = rw places_booked p.each;
        apart = rw places_booked p.apart;
        in_bytes = places_in_bytes;
        rest = places_rest;
      })

-- a record that is not refused gives an encodable head
pub decode_encodable : (b : List ℕ) → Bytes b → head_refusal b ≡ 0 → Encodable (head_of b)
decode_encodable b bytes e = decoded b (passed b e) bytes

module _ (b : List ℕ) (p : Passed b) (bytes : Bytes b) where
  front_again : front_of (count_in b) ≡ take 3 b
  unfolding front_of
  front_again =
      let high : (length_of (count_in b)) / 256 ≡ get_or b 0 0 = omega (arith, bytes 0, bytes 1, p.field) in
      let low : (length_of (count_in b)) % 256 ≡ get_or b 1 0 = omega (arith, bytes 0, bytes 1, p.field) in
      rw (part_by_place b 0 3 (omega (arith, p.length)), high, low, p.version)

  -- a byte of the registers and ready flags is at most its largest value
  code_within : (j : ℕ) → j < coded_size → get_or b (register_size + j) 0 ≤ get_or (drop register_size largest) j 0
  code_within j h = rw (get_or-take coded_size (drop register_size b) j 0 h, get_or-drop register_size b j 0)
      at (within_at (take coded_size (drop register_size b)) (drop register_size largest) p.codes j)

  flag_at : (j : ℕ) → j < coded_size → get_or (drop register_size largest) j 0 ≡ 1 → get_or b (register_size + j) 0 ≤ 1
  flag_at j h e = rw e at (code_within j h)

  state_written : state_of (head_of b) ≡ take state_size (drop hxt48_ready_at b)
  unfolding largest
  state_written =
      state_again b (omega (arith, p.length))
      (flag_at (hxt48_ready_at - register_size) (omega arith) refl)
      (flag_at (hrc48_ready_at - register_size) (omega arith) refl)
      (flag_at (lpsys_hxt48_ready_at - register_size) (omega arith) refl)

  tasks_again : joined task_bytes (booked (head_of b)) ≡ take (task_size * count_in b) (drop first_task b)
  unfolding head_of tasks_in
  tasks_again =
      ap (joined task_bytes) (places_booked b)
      ∙ of_items task_in task_bytes task_size bytes_of_task (count_in b) (drop first_task b) (rw length-drop (omega (arith, p.length, p.count))) (bytes_drop b first_task bytes)

  registers_again : joined word_bytes (drop 1 (head_of b).regs) ≡ take registers_size (drop register_size b)
  unfolding head_of registers_in
  registers_again = words_bytes b p bytes

  record_again : record_of (head_of b) ≡ take (record_size (count_in b)) b
  unfolding record_of head_of
  record_again =
      let c : ℕ = task_size * count_in b in
      let all : take (first_task + c) b ≡ take register_size b ++ take registers_size (drop register_size b) ++ take state_size (drop hxt48_ready_at b) ++ take c (drop first_task b) =
      take-add first_task c b
      ∙ ap (λ (l : List ℕ). l ++ take c (drop first_task b))
      (take-add hxt48_ready_at state_size b ∙ ap (λ (l : List ℕ). l ++ take state_size (drop hxt48_ready_at b)) (take-add register_size registers_size b)) in
      rw (front_again, registers_again, state_written, tasks_again) (sym (all ∙ simp append_assoc))

-- encoding what was decoded leaves the bytes as they were
pub encode_decode : (b : List ℕ) → Bytes b → head_refusal b ≡ 0 → written (head_of b) b ≡ b
unfolding written
encode_decode b bytes e =
    let p = passed b e in
    let n : ℕ = record_size (count_in b) in
    rw (record_again b p bytes, length-take-le n b (omega (arith, p.length, p.count))) (take-append-drop n b)
