-- What each setter of a divider of rcc/clock_lpsys.rs leaves, on the bytes lent to it.
use Rattle.std.specs.Prelude.{ℕ, List, [], ◌∷◌}
use Rattle.register.specs.Word.{word_of}
use Rattle.journal.specs.Run.{store}
use Rattle.call.specs.Call.{Left, journal_call}
use Rattle.lpsys_tests.specs.Tests.{div_refusal}
use Rattle.lpsys_request.specs.hdiv.{set_hdiv}
use Rattle.register.specs.Numbers.{LPSYS_CFGR, LPSYS_MAC}

-- `set_lpsys_hdiv`
unfoldable pub set_lpsys_hdiv : ℕ → List ℕ → List ℕ → Left
set_lpsys_hdiv hdiv b j = journal_call [] (set_hdiv hdiv) 0 b j

-- `set_lpsys_div`
unfoldable pub set_lpsys_div : ℕ → ℕ → ℕ → List ℕ → List ℕ → Left
set_lpsys_div hdiv pdiv1 pdiv2 b j = journal_call (div_refusal pdiv1 pdiv2 ∷ []) (store LPSYS_CFGR (word_of hdiv pdiv1 pdiv2)) 0 b j

-- `config_lpsys_mac_clock`: macdiv b and macfreq c of register 34
unfoldable pub config_mac : ℕ → ℕ → List ℕ → List ℕ → Left
config_mac macdiv macfreq b j = journal_call [] (store LPSYS_MAC (word_of 0 macdiv macfreq)) 0 b j
