-- What `init` of rcc/clock_config.rs sets after the core clock: DLL2, USB, the other selects.
use Rattle.std.specs.Prelude.{ℕ, Bool, cond, ◌&&◌, List, eqb, Option, None, Some}
use Rattle.clock.specs.declared.Dll.{Dll}
use Rattle.plan.specs.declared.Plan.{Plan}
use Rattle.record.specs.Bytes.{bit}
use Rattle.register.specs.Word.{byte_a, byte_b, byte_c}
use Rattle.head.specs.declared.Head.{Head}
use Rattle.clock_read.specs.Hpsys.{reg}
use Rattle.journal.specs.Run.{Effect, idle, ◌▸◌, store}
use Rattle.dll.specs.Dll.{configure_dll}
use Rattle.init_rest.specs.flash.{flash_back}
use Rattle.init_rest.specs.selects.{planned_usb, planned_muxes}
use Rattle.register.specs.Numbers.{DLL2, FLASH}

-- DLL2 is on already, at the plan's stage and half
unfoldable pub is_set : Dll → ℕ → Bool
is_set d word = eqb (byte_a word) 1 && (eqb (byte_c word) d.stage && eqb (byte_b word) (bit d.half))

-- DLL2 set anew: both flash selects away to Peri, DLL2, the flash selects back
unfoldable pub move_dll2 : Dll → ℕ → List ℕ → Effect
move_dll2 d back a = store FLASH 0 ▸ configure_dll DLL2 d a ▸ store FLASH back

-- where the plan has DLL2 and it is not set so already
abbrev pub set_dll2_on : Dll → List ℕ → Head → Effect
set_dll2_on d a h = cond (is_set d (reg h DLL2)) idle (move_dll2 d (flash_back (reg h FLASH)) a)

unfoldable pub set_dll2 : Dll → List ℕ → Effect
set_dll2 d a r = set_dll2_on d a r.head r

abbrev pub planned_dll2 : Option Dll → List ℕ → Effect
planned_dll2 None a = idle
planned_dll2 (Some d) a = set_dll2 d a

-- all of it; no flash select of the plan is stored
unfoldable pub init_rest : Plan → List ℕ → Effect
init_rest p a = planned_dll2 p.dll2 a ▸ planned_usb p ▸ planned_muxes p
