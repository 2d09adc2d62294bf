-- Heads that have a record.
use Rattle.std.specs.Prelude.{ℕ, ◌-◌, ◌≤◌, ◌<◌, ◌≡◌, true, length, get_or, drop, replicate}
use Rattle.layout.specs.Layout.{most_tasks}
use Rattle.head.specs.declared.Head.{Head}
use Rattle.task.specs.Task.{no_task, all_ok, distinct, InBytes}
use Rattle.register.specs.Codes.{fits_register}
use Rattle.head.specs.Head.{booked}

-- a head that a record holds: each register within its codes, the booked tasks in order at the front, the other places empty
pub record Encodable (h : Head) : Type 0 where
  pub words : length h.regs ≡ 35
  pub codes : (n : ℕ) → n < 35 → fits_register n (get_or h.regs n 0) ≡ true
  pub boot : h.boot_mode < 256
  pub wake : h.wake_count < 256
  pub places : length h.tasks ≡ most_tasks
  pub room : h.count ≤ most_tasks
  pub each : all_ok (booked h) ≡ true
  pub apart : distinct (booked h) ≡ true
  pub in_bytes : (k : ℕ) → k < h.count → InBytes (get_or h.tasks k no_task)
  pub rest : drop h.count h.tasks ≡ replicate (most_tasks - h.count) no_task
