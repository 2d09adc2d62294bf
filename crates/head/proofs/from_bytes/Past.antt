-- Bytes past the record matter to no answer.
use Prim.Native.Nat.{ℕ, ◌+◌, ◌<◌}
use mathlib.Core.Path.{◌≡◌, ap, sym, ◌∙◌}
use mathlib.Core.List.{List, ◌∷◌}
use native.Mathlib.Omega.{arith}
use lib.ListN.{length, get_or, take, drop, length-drop}
use lib.Seq.{get_or-take, get_or-drop, length-take-le, ext_get_or}
use Rattle.layout.specs.Layout.{register_size, task_count_at, coded_size, first_task, task_size, version_at, record_size, buffer_bytes}
use Rattle.register.specs.Word.{word_in}
use Rattle.task.specs.bytes.{task_in, count_in, tasks_in, tasks_fit, places_in}
use Rattle.head.specs.Record.{length_fits, head_refusal, head_of}
use Rattle.register.specs.bytes.{registers_in}
use Rattle.record.proofs.Items.{items_same}
use Rattle.register.proofs.Words.{word_same}
use Rattle.task.proofs.bytes.Laws.{task_same}
use Rattle.head.proofs.Fields.{head_same}

module _ (b d : List ℕ) (lb : length b ≡ buffer_bytes) (ld : length d ≡ buffer_bytes) (front : take (record_size (count_in b)) b ≡ take (record_size (count_in b)) d) where
  at : (i : ℕ) → i < record_size (count_in b) → get_or b i 0 ≡ get_or d i 0
  at i h = sym (get_or-take (record_size (count_in b)) b i 0 h) ∙ (ap (λ (l : List ℕ). get_or l i 0) front ∙ get_or-take (record_size (count_in b)) d i 0 h)

  count_same : count_in b ≡ count_in d
  count_same = at task_count_at (omega arith)

  codes_same : take coded_size (drop register_size b) ≡ take coded_size (drop register_size d)
  codes_same =
      let bytes : (l : List ℕ) → length l ≡ buffer_bytes → length (take coded_size (drop register_size l)) ≡ coded_size =
      λ l e. length-take-le coded_size (drop register_size l) (rw length-drop (omega arith)) in
      let byte : (l : List ℕ) (i : ℕ) → i < coded_size → get_or (take coded_size (drop register_size l)) i 0 ≡ get_or l (register_size + i) 0 =
      λ l i h. get_or-take coded_size (drop register_size l) i 0 h ∙ get_or-drop register_size l i 0 in
      ext_get_or 0 (take coded_size (drop register_size b)) (take coded_size (drop register_size d)) (bytes b lb ∙ sym (bytes d ld))
      (λ i h.
      let h' : i < coded_size = omega (arith, bytes b lb) in
      byte b i h' ∙ (at (register_size + i) (omega arith) ∙ sym (byte d i h')))

  tasks_same : tasks_in b ≡ tasks_in d
  unfolding tasks_in
  tasks_same =
      rw (← count_same)
      (items_same task_in task_size task_same (count_in b) (drop first_task b) (drop first_task d)
      (λ i h. get_or-drop first_task b i 0 ∙ (at (first_task + i) (omega arith) ∙ sym (get_or-drop first_task d i 0))))

  registers_same : registers_in b ≡ registers_in d
  unfolding registers_in
  registers_same =
      ap (λ (l : List ℕ). 0 ∷ l)
      (items_same word_in register_size word_same 34 (drop register_size b) (drop register_size d)
      (λ i h. get_or-drop register_size b i 0 ∙ (at (register_size + i) (omega arith) ∙ sym (get_or-drop register_size d i 0))))

  -- the same record gives the same refusal and the same head
  pub past_refusal : head_refusal b ≡ head_refusal d
  unfolding head_refusal length_fits tasks_fit
  past_refusal = rw (lb, ld, at 0 (omega arith), at 1 (omega arith), at version_at (omega arith), count_same, codes_same, tasks_same)

  places_same : places_in b ≡ places_in d
  unfolding places_in
  places_same = rw (tasks_same, count_same)

  pub past_head : head_of b ≡ head_of d
  past_head = head_same b d (λ i h. at i (omega arith)) registers_same places_same
