-- The head record and its refusals.
use Rattle.std.specs.Prelude.{ℕ, ◌/◌, ◌%◌, Bool, false, not, ◌&&◌, List, [], ◌∷◌, ◌++◌, eqb, leb, length, get_or, take, drop, replicate}
use Rattle.record.specs.Bytes.{two_bytes, is_within, bit}
use Rattle.record.specs.Refusals.{refuse, first_of}
use Rattle.record.specs.Items.{joined}
use Rattle.register.specs.Word.{word_bytes}
use Rattle.register.specs.Codes.{largest}
use Rattle.register.specs.bytes.{registers_in}
use Rattle.layout.specs.Layout.{version_at, register_size, hxt48_ready_at, hrc48_ready_at, lpsys_hxt48_ready_at, boot_mode_at, wake_count_at, coded_size, most_tasks}
pub use Rattle.layout.specs.Layout.{length_of, buffer_bytes}
use Rattle.task.specs.Task.{no_task}
use Rattle.task.specs.bytes.{task_bytes, count_in, tasks_fit, places_in}
use Rattle.head.specs.declared.Head.{Head}
use Rattle.head.specs.Head.{booked}

-- 1 refuses a "record or buffer length", "or one that does not fit the task count"
unfoldable pub length_fits : List ℕ → Bool
length_fits b = eqb (length b) buffer_bytes && (leb (count_in b) most_tasks && eqb (two_bytes (get_or b 0 0) (get_or b 1 0)) (length_of (count_in b)))

-- "1 record or buffer length ..; 2 version; 3 a byte outside its codes, .., or a head's task that 16 or 40 would refuse"
unfoldable pub head_refusal : List ℕ → ℕ
head_refusal b =
    first_of
    (refuse 1 (not (length_fits b)) ∷
    refuse 2 (not (eqb (get_or b version_at 0) 1)) ∷
    refuse 3 (not (is_within (take coded_size (drop register_size b)) (drop register_size largest))) ∷
    refuse 3 (not (tasks_fit b)) ∷ [])

-- "After them: HXT48, HRC48 and LPSYS HXT48 ready flags, boot mode, wake count, task count 0 to 16"
unfoldable pub head_of : List ℕ → Head
head_of b =
    record {
      regs = registers_in b;
      hxt48_ready = eqb (get_or b hxt48_ready_at 0) 1;
      hrc48_ready = eqb (get_or b hrc48_ready_at 0) 1;
      lpsys_hxt48_ready = eqb (get_or b lpsys_hxt48_ready_at 0) 1;
      boot_mode = get_or b boot_mode_at 0;
      wake_count = get_or b wake_count_at 0;
      tasks = places_in b;
      count = count_in b;
    }

-- a head of zeros, with no task
unfoldable pub blank : Head
blank =
    record {
      regs = replicate 35 0;
      hxt48_ready = false;
      hrc48_ready = false;
      lpsys_hxt48_ready = false;
      boot_mode = 0;
      wake_count = 0;
      tasks = replicate most_tasks no_task;
      count = 0;
    }

-- the length, high byte first, and "version 1"
unfoldable pub front_of : ℕ → List ℕ
front_of count = (length_of count) / 256 ∷ (length_of count) % 256 ∷ 1 ∷ []

-- the bytes after the registers, up to the tasks
unfoldable pub state_of : Head → List ℕ
state_of h = bit h.hxt48_ready ∷ bit h.hrc48_ready ∷ bit h.lpsys_hxt48_ready ∷ h.boot_mode ∷ h.wake_count ∷ h.count ∷ []

-- the record of a head
unfoldable pub record_of : Head → List ℕ
record_of h = front_of h.count ++ (joined word_bytes (drop 1 h.regs) ++ (state_of h ++ joined task_bytes (booked h)))

-- "A head record, at the front of a lent buffer": the buffer's bytes past the record stay
unfoldable pub written : Head → List ℕ → List ℕ
written h b = record_of h ++ drop (length (record_of h)) b
