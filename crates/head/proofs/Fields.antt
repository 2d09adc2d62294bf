-- The laws that go through a head field by field.
use Prim.Native.Nat.{ℕ, zero, suc, ◌+◌, ◌-◌, ◌≤◌, ◌<◌}
use mathlib.Core.Path.{◌≡◌, refl, ap, sym, ◌∙◌}
use mathlib.Core.Bool.{Bool, true, false}
use mathlib.Core.List.{List, ◌++◌}
use native.Mathlib.Omega.{arith}
use lib.Dec.{eqb}
use lib.ListN.{length, get_or, take, drop, replicate, get_or-replicate}
use lib.Seq.{get_or-drop}
use Rattle.layout.specs.Layout.{hxt48_ready_at, hrc48_ready_at, lpsys_hxt48_ready_at, boot_mode_at, wake_count_at, task_count_at, most_tasks, first_task, state_size}
use Rattle.record.specs.Bytes.{Bytes, bit}
use Rattle.record.proofs.Lists.{part_by_place}
use Rattle.register.specs.Codes.{fits_register}
use Rattle.register.specs.bytes.{registers_in}
use Rattle.register.proofs.Fits.{zero_fits}
use Rattle.task.specs.declared.Task.{Task}
use Rattle.task.specs.Task.{no_task, all_ok, distinct, InBytes}
use Rattle.task.specs.bytes.{count_in, places_in}
use Rattle.head.specs.declared.Head.{Head}
use Rattle.head.specs.Head.{with_registers, with_ready, with_wake_count, with_tasks}
use Rattle.head.specs.Encodable.{Encodable}
use Rattle.head.specs.Record.{head_of, blank, state_of}

-- a flag is read from its bit, and written as it was read
bit_flag : (t : Bool) → eqb (bit t) 1 ≡ t
bit_flag true = refl
bit_flag false = refl

flag_bit : (x : ℕ) → x ≤ 1 → bit (eqb x 1) ≡ x
flag_bit zero h = refl
flag_bit (suc zero) h = refl
flag_bit (suc (suc x)) h = absurd (omega arith)

bit_byte : (t : Bool) → bit t < 256
bit_byte true = omega arith
bit_byte false = omega arith

-- the bytes between the registers and the tasks
pub state_length : (h : Head) → length (state_of h) ≡ state_size
unfolding state_of
state_length h = refl

pub state_bytes : (h : Head) → Encodable h → Bytes (state_of h)
unfolding state_of
state_bytes h ok zero = bit_byte h.hxt48_ready
state_bytes h ok (suc zero) = bit_byte h.hrc48_ready
state_bytes h ok (suc (suc zero)) = bit_byte h.lpsys_hxt48_ready
state_bytes h ok (suc (suc (suc zero))) = ok.boot
state_bytes h ok (suc (suc (suc (suc zero)))) = ok.wake
state_bytes h ok (suc (suc (suc (suc (suc zero))))) = omega (arith, ok.room)
state_bytes h ok (suc (suc (suc (suc (suc (suc i)))))) = omega arith

-- they are written as they were read, where the flags are 0 or 1
pub state_again : (b : List ℕ) → first_task ≤ length b → get_or b hxt48_ready_at 0 ≤ 1 → get_or b hrc48_ready_at 0 ≤ 1 → get_or b lpsys_hxt48_ready_at 0 ≤ 1 →
    state_of (head_of b) ≡ take state_size (drop hxt48_ready_at b)
unfolding state_of head_of
state_again b l p q r =
    rw (part_by_place b hxt48_ready_at state_size l, flag_bit (get_or b hxt48_ready_at 0) p, flag_bit (get_or b hrc48_ready_at 0) q, flag_bit (get_or b lpsys_hxt48_ready_at 0) r)

-- and read as they were written
module _ (h : Head) (b rest : List ℕ) (from : drop hxt48_ready_at b ≡ state_of h ++ rest) where
  at : (j : ℕ) → get_or b (hxt48_ready_at + j) 0 ≡ get_or (state_of h ++ rest) j 0
  at j = sym (get_or-drop hxt48_ready_at b j 0) ∙ ap (λ (l : List ℕ). get_or l j 0) from

  pub count_again : count_in b ≡ h.count
  unfolding state_of
  count_again = at 5

  pub head_again : registers_in b ≡ h.regs → places_in b ≡ h.tasks → head_of b ≡ h
  unfolding head_of state_of
  head_again regs places =
      rw (
        regs,
        at 0,
        at 1,
        at 2,
        at 3,
        at 4,
        at 5,
        places,
        bit_flag h.hxt48_ready,
        bit_flag h.hrc48_ready,
        bit_flag h.lpsys_hxt48_ready,
      )

-- bytes that agree up to the tasks, and on these, give the same head
pub head_same : (b d : List ℕ) → ((i : ℕ) → i < first_task → get_or b i 0 ≡ get_or d i 0) → registers_in b ≡ registers_in d → places_in b ≡ places_in d → head_of b ≡ head_of d
unfolding head_of
head_same b d at regs places =
    rw (
      regs,
      at hxt48_ready_at (omega arith),
      at hrc48_ready_at (omega arith),
      at lpsys_hxt48_ready_at (omega arith),
      at boot_mode_at (omega arith),
      at wake_count_at (omega arith),
      places,
      at task_count_at (omega arith),
    )

-- what `Encodable` says of the registers and of the tasks
pub record CodedRegisters (regs : List ℕ) : Type 0 where
  pub words : length regs ≡ 35
  pub codes : (n : ℕ) → n < 35 → fits_register n (get_or regs n 0) ≡ true

pub record BookedTasks (ts : List Task) (n : ℕ) : Type 0 where
  pub places : length ts ≡ most_tasks
  pub room : n ≤ most_tasks
  pub each : all_ok (take n ts) ≡ true
  pub apart : distinct (take n ts) ≡ true
  pub in_bytes : (k : ℕ) → k < n → InBytes (get_or ts k no_task)
  pub rest : drop n ts ≡ replicate (most_tasks - n) no_task

encodable : {h : Head} → CodedRegisters h.regs → BookedTasks h.tasks h.count → h.boot_mode < 256 → h.wake_count < 256 → Encodable h
encodable coded tasks boot wake = record {
  words = coded.words;
  codes = coded.codes;
  boot = boot;
  wake = wake;
  places = tasks.places;
  room = tasks.room;
  each = tasks.each;
  apart = tasks.apart;
  in_bytes = tasks.in_bytes;
  rest = tasks.rest;
}

-- the head of bytes is encodable by its registers and its tasks, and the blank head is
pub head_encodable : (b : List ℕ) → Bytes b → CodedRegisters (registers_in b) → BookedTasks (places_in b) (count_in b) → Encodable (head_of b)
unfolding head_of
head_encodable b bytes coded tasks = encodable coded tasks (bytes boot_mode_at) (bytes wake_count_at)

pub blank_encodable : Encodable blank
unfolding blank all_ok distinct
blank_encodable =
    encodable
    (record { words = refl; codes = λ n l. rw (get_or-replicate {A = ℕ} 35 n 0 0 l) (zero_fits n l) })
    (record { places = refl; room = omega arith; each = refl; apart = refl; in_bytes = λ k l. absurd (omega arith); rest = refl })
    (omega arith)
    (omega arith)

-- a head with one part changed is encodable by that part
module _ {h : Head} (ok : Encodable h) where
  coded : CodedRegisters h.regs
  coded = record { words = ok.words; codes = ok.codes }

  tasks : BookedTasks h.tasks h.count
  tasks = record { places = ok.places; room = ok.room; each = ok.each; apart = ok.apart; in_bytes = ok.in_bytes; rest = ok.rest }

  pub with_registers_encodable : {regs : List ℕ} → CodedRegisters regs → Encodable (with_registers regs h)
  with_registers_encodable fit = encodable fit tasks ok.boot ok.wake

  pub with_ready_encodable : (hxt48 hrc48 lpsys_hxt48 : Bool) → Encodable (with_ready hxt48 hrc48 lpsys_hxt48 h)
  with_ready_encodable hxt48 hrc48 lpsys_hxt48 = encodable coded tasks ok.boot ok.wake

  pub with_wake_count_encodable : {n : ℕ} → n < 256 → Encodable (with_wake_count n h)
  with_wake_count_encodable small = encodable coded tasks ok.boot small

  pub with_tasks_encodable : {places : List Task} {n : ℕ} → BookedTasks places n → Encodable (with_tasks places n h)
  with_tasks_encodable fit = encodable coded fit ok.boot ok.wake
