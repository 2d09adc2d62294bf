-- The LPSYS request of rcc/clock_lpsys.rs, as an effect on a running call.
use Rattle.std.specs.Prelude.{ℕ}
use Rattle.head.specs.declared.Head.{Head}
use Rattle.journal.specs.Run.{Effect, ◌▸◌}
use Rattle.dvfs_lpsys.specs.LpsysModes.{lpsys_first, lpsys_second}
use Rattle.lpsys_request.specs.modes.{divider_for, present_mode, request_mode}
use Rattle.lpsys_request.specs.hdiv.{set_hdiv}

-- `config_lpsys_hclk_mhz`, "an LPSYS request": the transition's first half, the divider, its second half
abbrev pub request_on : ℕ → Head → Effect
request_on f h =
    lpsys_first (present_mode h) (request_mode f)
    ▸ set_hdiv (divider_for f h)
    ▸ lpsys_second (present_mode h) (request_mode f)

unfoldable pub request : ℕ → Effect
request f r = request_on f r.head r
