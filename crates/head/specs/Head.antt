-- What a head has booked, and a head with one part of it changed. Nothing else writes a changed head out field by field.
use Rattle.std.specs.Prelude.{ℕ, Bool, List, take, set}
use Rattle.task.specs.declared.Task.{Task}
use Rattle.head.specs.declared.Head.{Head}

-- the tasks that a head has booked
abbrev pub booked : Head → List Task
booked h = take h.count h.tasks

-- a head with other registers
abbrev pub with_registers : List ℕ → Head → Head
with_registers regs h =
    record {
      regs = regs;
      hxt48_ready = h.hxt48_ready;
      hrc48_ready = h.hrc48_ready;
      lpsys_hxt48_ready = h.lpsys_hxt48_ready;
      boot_mode = h.boot_mode;
      wake_count = h.wake_count;
      tasks = h.tasks;
      count = h.count;
    }

-- with other ready flags: HXT48, HRC48 and LPSYS HXT48
abbrev pub with_ready : Bool → Bool → Bool → Head → Head
with_ready hxt48 hrc48 lpsys_hxt48 h =
    record {
      regs = h.regs;
      hxt48_ready = hxt48;
      hrc48_ready = hrc48;
      lpsys_hxt48_ready = lpsys_hxt48;
      boot_mode = h.boot_mode;
      wake_count = h.wake_count;
      tasks = h.tasks;
      count = h.count;
    }

-- with another wake count
abbrev pub with_wake_count : ℕ → Head → Head
with_wake_count n h =
    record {
      regs = h.regs;
      hxt48_ready = h.hxt48_ready;
      hrc48_ready = h.hrc48_ready;
      lpsys_hxt48_ready = h.lpsys_hxt48_ready;
      boot_mode = h.boot_mode;
      wake_count = n;
      tasks = h.tasks;
      count = h.count;
    }

-- with other places of tasks, the first `n` of them booked
abbrev pub with_tasks : List Task → ℕ → Head → Head
with_tasks places n h =
    record {
      regs = h.regs;
      hxt48_ready = h.hxt48_ready;
      hrc48_ready = h.hrc48_ready;
      lpsys_hxt48_ready = h.lpsys_hxt48_ready;
      boot_mode = h.boot_mode;
      wake_count = h.wake_count;
      tasks = places;
      count = n;
    }

-- a head with the value `v` stored in register `n`
abbrev pub stored : Head → ℕ → ℕ → Head
stored h n v = with_registers (set h.regs n v) h
