-- The crystal HXT48 of both domains, rcc/clock_lpsys.rs, as effects on a running call.
use Rattle.std.specs.Prelude.{ℕ, Bool, cond, List}
use Rattle.journal.specs.Run.{Effect, idle, ◌▸◌, store, wait_hxt48, wait_lpsys_hxt48}
use Rattle.register.specs.Numbers.{HXT48_REQUEST, LPSYS_HXT48_REQUEST}

-- `ensure_hxt48_ready`: each domain's crystal is requested and waited for where its flag is 0
abbrev pub request_hxt48_unless : List ℕ → Bool → Effect
request_hxt48_unless a ready = cond ready idle (store HXT48_REQUEST 1 ▸ wait_hxt48 a)

unfoldable pub request_hxt48 : List ℕ → Effect
request_hxt48 a r = request_hxt48_unless a r.head.hxt48_ready r

abbrev pub request_lpsys_hxt48_unless : List ℕ → Bool → Effect
request_lpsys_hxt48_unless a ready = cond ready idle (store LPSYS_HXT48_REQUEST 1 ▸ wait_lpsys_hxt48 a)

unfoldable pub request_lpsys_hxt48 : List ℕ → Effect
request_lpsys_hxt48 a r = request_lpsys_hxt48_unless a r.head.lpsys_hxt48_ready r

unfoldable pub hxt48_ready : List ℕ → Effect
hxt48_ready a = request_hxt48 a ▸ request_lpsys_hxt48 a
