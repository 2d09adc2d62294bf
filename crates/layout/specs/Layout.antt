-- The layout of a head record: the places of its bytes, its sizes and its lengths, as `layout` has them in src.
use Rattle.std.specs.Prelude.{ℕ, ◌+◌, ◌*◌, ◌-◌}

-- "a 2-byte big-endian length .., version 1"
abbrev pub version_at : ℕ
version_at = 2

-- "then registers 1 to 34, three bytes a, b, c each": register n stands at n times this size
abbrev pub register_size : ℕ
register_size = 3

abbrev pub registers_size : ℕ
registers_size = register_size * 34

-- "After them: HXT48, HRC48 and LPSYS HXT48 ready flags, boot mode, wake count, task count 0 to 16"
abbrev pub hxt48_ready_at : ℕ
hxt48_ready_at = register_size * 35

abbrev pub hrc48_ready_at : ℕ
hrc48_ready_at = hxt48_ready_at + 1

abbrev pub lpsys_hxt48_ready_at : ℕ
lpsys_hxt48_ready_at = hrc48_ready_at + 1

abbrev pub boot_mode_at : ℕ
boot_mode_at = lpsys_hxt48_ready_at + 1

abbrev pub wake_count_at : ℕ
wake_count_at = boot_mode_at + 1

abbrev pub task_count_at : ℕ
task_count_at = wake_count_at + 1

abbrev pub most_tasks : ℕ
most_tasks = 16

abbrev pub first_task : ℕ
first_task = task_count_at + 1

-- the bytes that have codes, the registers and the ready flags; and those from the ready flags to the tasks
abbrev pub coded_size : ℕ
coded_size = boot_mode_at - register_size

abbrev pub state_size : ℕ
state_size = first_task - hxt48_ready_at

-- "then per task id .., cycles and period in microseconds, four big-endian bytes each": the places in a task, and where its period ends
abbrev pub cycles_at : ℕ
cycles_at = 1

abbrev pub period_at : ℕ
period_at = cycles_at + 4

abbrev pub period_end : ℕ
period_end = period_at + 4

-- "a 2-byte big-endian length (109 + 9 × tasks)"
abbrev pub task_size : ℕ
task_size = 9

abbrev pub length_of : ℕ → ℕ
length_of count = 109 + task_size * count

-- a record's bytes with its length
abbrev pub record_size : ℕ → ℕ
record_size count = first_task + task_size * count

-- "at the front of a lent buffer of 255 bytes"
abbrev pub buffer_bytes : ℕ
buffer_bytes = 255
