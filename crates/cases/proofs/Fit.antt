-- Heads that miss one clause of fit each, beside the same head with that clause met, computed from the definitions.
use Prim.Native.Nat.{ℕ}
use mathlib.Core.Path.{◌≡◌, refl}
use mathlib.Core.Bool.{true, false}
use mathlib.Core.List.{[], ◌∷◌}
use lib.ListN.{replicate}
use Rattle.record.specs.Bytes.{is_within}
use Rattle.record.specs.Items.{items, joined}
use Rattle.record.specs.Refusals.{first_of}
use Rattle.clock.specs.Clock.{dll_hz, divided, shifted}
use Rattle.plan.specs.Plan.{encoded, legal}
use Rattle.plan.specs.bytes.{record_refusal, plan_of, decoded, default_record}
use Rattle.plan.specs.codes.{dll_bytes_legal, coded, dll_of}
use Rattle.plan_clocks.specs.Clocks.{sys_hz, hclk_hz, pclk1_hz, pclk2_hz, usb_hz}
use Rattle.limits.specs.Limits.{core_on_absent_dll1, core_on_dbl96, flash_on_absent_dll, usb_on_absent_dll2}
use Rattle.limits.specs.Limits.{usb_not60, dll1_core_too_slow, hclk_too_fast, pclk1_too_fast, pclk2_too_fast, dll2_too_fast}
use Rattle.verdict.specs.tests.{plan_refusal}
use Rattle.verdict.specs.Verdict.{verdict_of, verdict}
use Rattle.register.specs.Codes.{largest}
use Rattle.register.specs.Numbers.{SYSCLK, DLL1, DLL2, FLASH, BUCK_VOUT, HPSYS_VOUT, LPSYS_CFGR, LPSYS_SUPPLY}
use Rattle.register.specs.Word.{word_of, word_in, word_bytes}
use Rattle.register.specs.bytes.{registers_in}
use Rattle.task.specs.Task.{all_ok, distinct}
use Rattle.task.specs.bytes.{tasks_in, tasks_fit}
use Rattle.head.specs.declared.Head.{Head}
use Rattle.head.specs.Head.{with_ready, stored}
use Rattle.head.specs.Record.{buffer_bytes, blank, length_fits, head_refusal, head_of, front_of, state_of, record_of, written}
use Rattle.clock_read.specs.Hpsys.{dll_reading, sys_of, hclk_of}
use Rattle.clock_read.specs.lpsys.{lpsys_sys_of, lpsys_hclk_of}
use Rattle.journal.specs.Run.{store, delay, poll, wait, unless_ended}
use Rattle.call.specs.Call.{performed}
use Rattle.load.specs.Load.{load_of}
use Rattle.dll.specs.Dll.{hpbg_on, vddpsw_on, dll_off, dll_on, relocked, set_dll, configure_dll}
use Rattle.dvfs.specs.Hpsys.{mode_of}
use Rattle.dvfs_hpsys.specs.volts.{sx_mode_volt, timing}
use Rattle.fit.specs.rail.{met, higher, rail_limit}
use Rattle.fit.specs.Fit.{source_is_on, fits}
use Rattle.core_clock.specs.dividers.{dividers}
use Rattle.guard_steps.specs.peak.{mode_at, highest, peak_of}
use Rattle.guard_steps.specs.supply.{raise}
use Rattle.guard_steps.specs.Steps.{leave_dll1, to_hxt48, to_planned, back_to}
use Rattle.guard_change.specs.Change.{change}
use Rattle.guard.specs.Guard.{change_call}

-- the word of bytes a, b, c put into register `n` of a head
abbrev pub put : ℕ → ℕ → ℕ → ℕ → Head → Head
put n a b c h = stored h n (word_of a b c)

-- a fit head: the core at 240 MHz from DLL1 on supply S with the volts of S1, LPSYS at 48 MHz from HRC48 on supply S, flash on Peri
abbrev pub sound : Head
sound = put SYSCLK 0 0 3 (put DLL1 1 0 9 (put BUCK_VOUT 0 0 15 (put HPSYS_VOUT 0 0 13 (put LPSYS_SUPPLY 0 0 1 (with_ready true true false blank)))))

-- the same with the core on HXT48
abbrev on_hxt48 : Head
on_hxt48 = put SYSCLK 0 0 1 sound

-- what a guarded change with the default plan answers on the head's bytes, where DLL1 is ready at once
abbrev answer : Head → ℕ
answer h = (change_call default_record (written h (replicate buffer_bytes 0)) (replicate 128 0) (1 ∷ [])).refusal

-- a head that misses one clause is not fit and its change is refused 37; with the clause met it is fit and its change is done
abbrev Only : Head → Head → Type 0
Only missed met = ((fits missed ≡ false) × (answer missed ≡ 37)) × ((fits met ≡ true) × (answer met ≡ 0))

fit_cases :
    -- "HCLK reads": DBL96 reads as none
    Only (put SYSCLK 0 0 2 sound) sound
    -- "is at most the rail limit": an ldo of 12 carries 144 MHz
    × Only (put HPSYS_VOUT 0 0 12 sound) sound
    -- "no flash select names a DLL that is off": the first on DLL1, the second on DLL2
    × Only (put FLASH 0 1 0 (put DLL1 0 0 9 on_hxt48)) (put FLASH 0 1 0 (put DLL1 1 0 9 on_hxt48))
    × Only (put FLASH 0 0 2 (put DLL2 0 0 0 sound)) (put FLASH 0 0 2 (put DLL2 1 0 0 sound))
    -- "the LPSYS source is ready"
    × Only (with_ready true false false sound) sound
    -- "LPSYS HCLK above 24 MHz has supply S": 48 MHz on supply D, and on S; 48 MHz on D, and 24 MHz
    × Only (put LPSYS_SUPPLY 0 0 0 sound) (put LPSYS_SUPPLY 0 0 1 sound)
    × Only (put LPSYS_CFGR 1 0 0 (put LPSYS_SUPPLY 0 0 0 sound)) (put LPSYS_CFGR 2 0 0 (put LPSYS_SUPPLY 0 0 0 sound))
unfolding fits source_is_on rail_limit higher met hclk_of sys_of dll_reading lpsys_hclk_of lpsys_sys_of blank
    change_call performed first_of head_refusal length_fits is_within largest tasks_fit tasks_in items
    all_ok distinct head_of registers_in word_in written record_of front_of state_of joined word_bytes
    verdict decoded record_refusal coded dll_bytes_legal plan_of dll_of verdict_of plan_refusal legal encoded
    core_on_absent_dll1 core_on_dbl96 flash_on_absent_dll usb_on_absent_dll2 usb_not60 dll1_core_too_slow hclk_too_fast pclk1_too_fast
    pclk2_too_fast dll2_too_fast usb_hz sys_hz hclk_hz pclk1_hz pclk2_hz dll_hz divided shifted
    load_of change peak_of highest mode_at mode_of raise sx_mode_volt timing leave_dll1 to_hxt48 to_planned back_to dividers
    hpbg_on vddpsw_on dll_off dll_on relocked set_dll configure_dll store delay poll wait unless_ended
fit_cases = (
  ((refl, refl), (refl, refl)),
  ((refl, refl), (refl, refl)),
  ((refl, refl), (refl, refl)),
  ((refl, refl), (refl, refl)),
  ((refl, refl), (refl, refl)),
  ((refl, refl), (refl, refl)),
  ((refl, refl), (refl, refl)),
)
