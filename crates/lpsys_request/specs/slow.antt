-- `ensure_safe_lcpu_frequency` of rcc/clock_lpsys.rs, as an effect on a running call, and its refusal as another.
use Rattle.std.specs.Prelude.{cond, ltb, Option, Some, None}
use Rattle.time.specs.declared.Hertz.{Hertz}
use Rattle.time.specs.Frequency.{hz_or}
use Rattle.head.specs.declared.Head.{Head}
use Rattle.clock_read.specs.lpsys.{lpsys_hclk_of}
use Rattle.journal.specs.Run.{Effect, idle, halted}
use Rattle.lpsys_request.specs.Request.{request}

-- "43 `ensure_safe_lcpu_frequency` with LPSYS HCLK unreadable", in the middle of a call
abbrev pub unless_read : Option Hertz → Effect
unless_read (Some f) = idle
unless_read None = halted 43

unfoldable pub refuse_unread : Effect
refuse_unread r = unless_read (lpsys_hclk_of r.head) r

-- a request of 24 MHz where LPSYS HCLK is above it
abbrev pub slow_down_on : Head → Effect
slow_down_on h = cond (ltb 24000000 (hz_or 0 (lpsys_hclk_of h))) (request 24) idle

unfoldable pub slow_down : Effect
slow_down r = slow_down_on r.head r
