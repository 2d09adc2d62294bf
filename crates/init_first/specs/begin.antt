-- What `init` of rcc/clock_config.rs begins with.
use Rattle.std.specs.Prelude.{ℕ, cond, List, eqb}
use Rattle.head.specs.declared.Head.{Head}
use Rattle.clock_read.specs.Hpsys.{reg}
use Rattle.journal.specs.Run.{Effect, idle, ◌▸◌, store, wait_hxt48}
use Rattle.register.specs.Numbers.{HXT48_REQUEST, PERI, SYSCLK}

-- where the core runs on HXT48 (1), its request and the wait for it
abbrev pub start_hxt48_on : List ℕ → Head → Effect
start_hxt48_on a h = cond (eqb (reg h SYSCLK) 1) (store HXT48_REQUEST 1 ▸ wait_hxt48 a) idle

unfoldable pub start_hxt48 : List ℕ → Effect
start_hxt48 a r = start_hxt48_on a r.head r

-- on every boot: that, and the peripheral clock on HXT48 (1)
unfoldable pub init_begin : List ℕ → Effect
init_begin a = start_hxt48 a ▸ store PERI 1
