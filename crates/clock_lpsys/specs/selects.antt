-- What each setter of a source of rcc/clock_lpsys.rs leaves, on the bytes lent to it.
use Rattle.std.specs.Prelude.{ℕ, List, [], ◌∷◌}
use Rattle.register.specs.Numbers.{LPSYS_PERI, LPSYS_SYSCLK}
use Rattle.journal.specs.Run.{store}
use Rattle.call.specs.Call.{Left, journal_call}
use Rattle.lpsys_tests.specs.Tests.{source_refusal}

-- `select_lpsys_sysclk` and `select_lpsys_peri`: a source, 0 HRC48 or 1 HXT48, in the register that selects it; 3 for any other
unfoldable pub select : ℕ → ℕ → List ℕ → List ℕ → Left
select n source b j = journal_call (source_refusal source ∷ []) (store n source) 0 b j

abbrev pub select_sysclk : ℕ → List ℕ → List ℕ → Left
select_sysclk = select LPSYS_SYSCLK

abbrev pub select_peri : ℕ → List ℕ → List ℕ → Left
select_peri = select LPSYS_PERI
