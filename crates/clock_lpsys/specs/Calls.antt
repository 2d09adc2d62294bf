-- What waking the LPSYS core, cancelling that, HXT48, and waking and slowing leave, on the bytes lent to each; the other LPSYS calls are in
-- `lpsys_request::frequency`, `clock_lpsys::dividers` and `clock_lpsys::selects`.
use Rattle.std.specs.Prelude.{ℕ, List, []}
use Rattle.time.specs.Frequency.{hz_or}
use Rattle.record.specs.Refusals.{first_of}
use Rattle.head.specs.Record.{head_of}
use Rattle.clock_read.specs.lpsys.{lpsys_hclk_of}
use Rattle.journal.specs.Run.{Effect, ◌▸◌}
use Rattle.call.specs.Call.{Left, answers_tests, performed, journal_call, answers_call}
use Rattle.lpsys_request.specs.slow.{refuse_unread, slow_down}
use Rattle.lpsys_wake.specs.Wake.{wake, cancel}
use Rattle.lpsys_wake.specs.hxt48.{hxt48_ready}

-- `wake_lcpu` and `cancel_lcpu_active_request`
unfoldable pub wake_lcpu : List ℕ → List ℕ → List ℕ → Left
wake_lcpu b j a = answers_call (wake a) b j a

unfoldable pub cancel_lcpu : List ℕ → List ℕ → Left
cancel_lcpu b j = journal_call [] cancel 0 b j

-- `ensure_hxt48_ready`
unfoldable pub ensure_hxt48 : List ℕ → List ℕ → List ℕ → Left
ensure_hxt48 b j a = answers_call (hxt48_ready a) b j a

-- `wake_lcpu`, then `ensure_safe_lcpu_frequency`, document 02: "the stores of the wake, then those of the slowing"; "Where the wake is refused
-- 34 or 36, nothing of the second half is stored", since a call that has ended does nothing more; "43 comes after the wake here, and the
-- wake's stores and its raised count are kept", where document 01 has that "every other refusal changes neither"
unfoldable pub wake_and_slow : List ℕ → Effect
wake_and_slow a = wake a ▸ refuse_unread ▸ slow_down

-- "It answers the LPSYS frequency before the call."
unfoldable pub wake_and_slow_lcpu : List ℕ → List ℕ → List ℕ → Left
wake_and_slow_lcpu b j a = performed (first_of (answers_tests b j a)) (wake_and_slow a) (hz_or 0 (lpsys_hclk_of (head_of b))) b j
