-- What every call leaves: its entries lie in the journal.
use Prim.Native.Nat.{ℕ, ◌≤◌}
use mathlib.Core.List.{List}
use lib.ListN.{length}
use Rattle.call.proofs.Entries.{performed_within}
use Rattle.clock_lpsys.specs.dividers.{set_lpsys_hdiv, set_lpsys_div, config_mac}
use Rattle.clock_lpsys.specs.selects.{select}
use Rattle.lpsys_request.specs.frequency.{lpsys_request, safe_frequency}
use Rattle.clock_lpsys.specs.Calls.{wake_lcpu, cancel_lcpu, ensure_hxt48}
use Rattle.recorded_call.specs.declared.lpsys.Call.{Call}
use Rattle.recorded_call.specs.declared.lpsys.Call.TheVariants.{Request, Safe, Wake, Cancel, Hxt48, Hdiv, Div, Mac, Sysclk, Peri}
use Rattle.recorded_call.specs.lpsys.{result_of}

-- the entries of a call lie in the journal that it leaves
pub result_within : (call : Call) (x b j a : List ℕ) → (result_of call x b j a).entries ≤ length (result_of call x b j a).journal
unfolding lpsys_request safe_frequency wake_lcpu cancel_lcpu ensure_hxt48 set_lpsys_hdiv set_lpsys_div config_mac select
result_within Request x b j a = performed_within _ _ _ b j
result_within Safe x b j a = performed_within _ _ _ b j
result_within Wake x b j a = performed_within _ _ _ b j
result_within Cancel x b j a = performed_within _ _ _ b j
result_within Hxt48 x b j a = performed_within _ _ _ b j
result_within Hdiv x b j a = performed_within _ _ _ b j
result_within Div x b j a = performed_within _ _ _ b j
result_within Mac x b j a = performed_within _ _ _ b j
result_within Sysclk x b j a = performed_within _ _ _ b j
result_within Peri x b j a = performed_within _ _ _ b j
