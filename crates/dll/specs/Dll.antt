-- A DLL set anew: `configure_dll1` of rcc/clock_config.rs, and the same stores for DLL2 in `init`.
use Rattle.std.specs.Prelude.{ℕ, cond, List, eqb}
use Rattle.clock.specs.declared.Dll.{Dll}
use Rattle.register.specs.Word.{word_of, byte_b, byte_c}
use Rattle.record.specs.Bytes.{bit}
use Rattle.clock_read.specs.Hpsys.{reg}
use Rattle.journal.specs.Run.{Effect, idle, ◌▸◌, store, delay, wait}
use Rattle.register.specs.Numbers.{HPBG}

-- `hpbg_en` b of register 11 is turned on where it is off, then `hpbg_vddpsw_en` c
unfoldable pub hpbg_on : Effect
hpbg_on r = cond (eqb (byte_b (reg r.head HPBG)) 0) (store HPBG (word_of 0 1 (byte_c (reg r.head HPBG)))) idle r

unfoldable pub vddpsw_on : Effect
vddpsw_on r = cond (eqb (byte_c (reg r.head HPBG)) 0) (store HPBG (word_of 0 (byte_b (reg r.head HPBG)) 1)) idle r

-- a DLL by its register, 3 or 4, "on a, half b, stage c": off, with half and stage as they are
unfoldable pub dll_off : ℕ → Effect
dll_off n r = store n (word_of 0 (byte_b (reg r.head n)) (byte_c (reg r.head n))) r

-- on, with the half and the stage of `d`
unfoldable pub dll_on : ℕ → Dll → Effect
dll_on n d = store n (word_of 1 (bit d.half) d.stage)

unfoldable pub relocked : ℕ → Dll → Effect
relocked n d = dll_off n ▸ dll_on n d

-- `configure_dll1`, where `n` is 3: the bandgap, the setting, 10 us, and a wait of the kind that the register has for a number:
-- "3 DLL1, 4 DLL2"
unfoldable pub set_dll : ℕ → Dll → Effect
set_dll n d = hpbg_on ▸ vddpsw_on ▸ relocked n d

unfoldable pub configure_dll : ℕ → Dll → List ℕ → Effect
configure_dll n d a = set_dll n d ▸ delay 10 ▸ wait n a
