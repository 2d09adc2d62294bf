-- What the LPSYS calls leave, given an argument's bytes.
use Rattle.std.specs.Prelude.{ℕ, List, get_or}
use Rattle.record.specs.Four.{four_in}
use Rattle.call.specs.Call.{Left}
use Rattle.lpsys_request.specs.frequency.{lpsys_request, safe_frequency}
use Rattle.clock_lpsys.specs.dividers.{set_lpsys_hdiv, set_lpsys_div, config_mac}
use Rattle.clock_lpsys.specs.selects.{select_sysclk, select_peri}
use Rattle.clock_lpsys.specs.Calls.{wake_lcpu, cancel_lcpu, ensure_hxt48}
use Rattle.recorded_call.specs.declared.lpsys.Call.{Call}
use Rattle.recorded_call.specs.declared.lpsys.Call.TheVariants.{Request, Safe, Wake, Cancel, Hxt48, Hdiv, Div, Mac, Sysclk, Peri}

-- what a call leaves of a head's buffer and a journal, given an argument and answers: a frequency in MHz is four bytes, a divider and a
-- source one
abbrev pub result_of : Call → List ℕ → List ℕ → List ℕ → List ℕ → Left
result_of Request x b j a = lpsys_request (four_in x) b j
result_of Safe x b j a = safe_frequency b j
result_of Wake x b j a = wake_lcpu b j a
result_of Cancel x b j a = cancel_lcpu b j
result_of Hxt48 x b j a = ensure_hxt48 b j a
result_of Hdiv x b j a = set_lpsys_hdiv (get_or x 0 0) b j
result_of Div x b j a = set_lpsys_div (get_or x 0 0) (get_or x 1 0) (get_or x 2 0) b j
result_of Mac x b j a = config_mac (get_or x 0 0) (get_or x 1 0) b j
result_of Sysclk x b j a = select_sysclk (get_or x 0 0) b j
result_of Peri x b j a = select_peri (get_or x 0 0) b j
