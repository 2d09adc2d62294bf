-- The divider of LPSYS HCLK, as an effect on a running call.
use Rattle.std.specs.Prelude.{ℕ}
use Rattle.register.specs.Word.{word_of, byte_b, byte_c}
use Rattle.head.specs.declared.Head.{Head}
use Rattle.clock_read.specs.Hpsys.{reg}
use Rattle.journal.specs.Run.{Effect, store}
use Rattle.register.specs.Numbers.{LPSYS_CFGR}

-- `set_lpsys_hdiv`: hdiv1 a of register 26
abbrev pub set_hdiv_on : ℕ → Head → Effect
set_hdiv_on hdiv h = store LPSYS_CFGR (word_of hdiv (byte_b (reg h LPSYS_CFGR)) (byte_c (reg h LPSYS_CFGR)))

unfoldable pub set_hdiv : ℕ → Effect
set_hdiv hdiv r = set_hdiv_on hdiv r.head r
