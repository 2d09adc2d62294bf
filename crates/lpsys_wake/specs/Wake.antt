-- Waking the LPSYS core, rcc/clock_lpsys.rs, as effects on a running call.
use Rattle.std.specs.Prelude.{ℕ, cond, List, eqb}
use Rattle.head.specs.declared.Head.{Head}
use Rattle.journal.specs.Run.{Effect, idle, ◌▸◌, store, delay, wait}
use Rattle.lpsys_wake.specs.count.{count_up, count_down}
use Rattle.register.specs.Numbers.{HP2LP_REQUEST}

-- `wake_lcpu`: the request and a first wait, a second one, the count
unfoldable pub wake_first : List ℕ → Effect
wake_first a = store HP2LP_REQUEST 1 ▸ delay 230 ▸ wait 6 a

unfoldable pub wake : List ℕ → Effect
wake a = wake_first a ▸ delay 30 ▸ wait 6 a ▸ count_up

-- `cancel_lcpu_active_request`: the request is cleared where the count was 1
abbrev pub cancel_on : Head → Effect
cancel_on h = count_down ▸ cond (eqb h.wake_count 1) (store HP2LP_REQUEST 0) idle

unfoldable pub cancel : Effect
cancel r = cancel_on r.head r
