-- The count of wakes of the LPSYS core, rcc/clock_lpsys.rs, as effects on a running call.
use Rattle.std.specs.Prelude.{ℕ, ◌+◌, ◌%◌}
use Rattle.head.specs.declared.Head.{Head}
use Rattle.head.specs.Head.{with_wake_count}
use Rattle.journal.specs.Run.{Run, Effect, unless_ended, with_head}

-- another wake count
abbrev pub counted : ℕ → Head → Head
counted n h = with_wake_count n h

-- "The count wraps at 8 bits."
unfoldable pub count_up : Effect
count_up = unless_ended (λ (r : Run). with_head (counted ((r.head.wake_count + 1) % 256) r.head) r)

unfoldable pub count_down : Effect
count_down = unless_ended (λ (r : Run). with_head (counted ((r.head.wake_count + 255) % 256) r.head) r)
