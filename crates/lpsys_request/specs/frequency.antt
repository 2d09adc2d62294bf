-- What the calls that set the frequency of LPSYS leave, on the bytes lent to them.
use Rattle.std.specs.Prelude.{ℕ, Bool, true, false, List, [], ◌∷◌, Option, Some, None}
use Rattle.time.specs.declared.Hertz.{Hertz}
use Rattle.time.specs.Frequency.{hz_or}
use Rattle.record.specs.Refusals.{refuse}
use Rattle.head.specs.Record.{head_of}
use Rattle.clock_read.specs.lpsys.{lpsys_hclk_of}
use Rattle.call.specs.Call.{Left, journal_call}
use Rattle.lpsys_tests.specs.Tests.{request_refusal}
use Rattle.lpsys_request.specs.Request.{request}
use Rattle.lpsys_request.specs.slow.{slow_down}

-- `config_lpsys_hclk_mhz`
abbrev pub request_tests : ℕ → List ℕ
request_tests f = request_refusal f ∷ []

unfoldable pub lpsys_request : ℕ → List ℕ → List ℕ → Left
lpsys_request f b j = journal_call (request_tests f) (request f) 0 b j

-- `ensure_safe_lcpu_frequency`, "answers the old frequency"; "43 `ensure_safe_lcpu_frequency` with LPSYS HCLK unreadable"
abbrev pub is_none : Option Hertz → Bool
is_none (Some f) = false
is_none None = true

abbrev pub safe_tests : List ℕ → List ℕ
safe_tests b = refuse 43 (is_none (lpsys_hclk_of (head_of b))) ∷ []

unfoldable pub safe_frequency : List ℕ → List ℕ → Left
safe_frequency b j = journal_call (safe_tests b) slow_down (hz_or 0 (lpsys_hclk_of (head_of b))) b j
