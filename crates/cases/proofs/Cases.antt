-- The starred cases of document 01, and one of document 02, each computed from the definitions that the contracts cite.
use Prim.Native.Nat.{ℕ, zero, suc, ◌/◌, ◌%◌}
use mathlib.Core.Path.{◌≡◌, refl}
use mathlib.Core.Bool.{true, false, cond}
use mathlib.Core.List.{List, [], ◌∷◌}
use lib.Dec.{eqb}
use lib.ListN.{set, replicate}
use Rattle.std.specs.Prelude.{Some, None, Ok}
use Rattle.record.specs.Bytes.{is_within}
use Rattle.record.specs.Refusals.{first_of}
use Rattle.clock.specs.Clock.{dll_hz, divided, shifted}
use Rattle.dvfs.specs.declared.hpsys.HpsysDvfsMode.TheVariants.{D0, D1, S0, S1}
use Rattle.dvfs.specs.Hpsys.{mode_of}
use Rattle.journal.specs.Run.{Run, begin, unless_ended, halted, store, entry, delay, poll, measure}
use Rattle.head.specs.declared.Head.{Head}
use Rattle.head.specs.Head.{with_registers, with_ready}
use Rattle.lpsys_request.specs.modes.{divider_for}
use Rattle.lpsys_request.proofs.modes.Divider.{source_48}
use Rattle.head.specs.Record.{buffer_bytes, blank, length_fits, head_refusal, head_of, front_of, state_of, record_of, written}
use Rattle.record.specs.Items.{items, joined}
use Rattle.register.specs.Word.{word_in, word_bytes}
use Rattle.register.specs.Codes.{largest}
use Rattle.register.specs.bytes.{registers_in}
use Rattle.task.specs.declared.Task.{Task}
use Rattle.task.specs.Task.{task_ok, all_ok, has_id, distinct}
use Rattle.record.specs.Four.{four_in, four_bytes}
use Rattle.task.specs.bytes.{task_in, task_bytes, tasks_in, tasks_fit, places_in}
use Rattle.load.specs.Load.{share_of, load_of}
use Rattle.call.specs.Call.{Left, performed}
use Rattle.booking.specs.Booking.{book}
use Rattle.clock_read.specs.Hpsys.{dll_reading, sys_of, hclk_of}
use Rattle.calibration.specs.measure.{measurement, difference, judged_difference}
use Rattle.calibration.specs.search.{next_trim, adjusted, search}
use Rattle.calibration.specs.Calibration.{calibrate, calibrate_hrc48}
use Rattle.plan.specs.codes.{dll_bytes_legal, coded, dll_of}
use Rattle.plan.specs.Plan.{encoded, legal}
use Rattle.plan.specs.bytes.{record_refusal, plan_of, decoded, default_record}
use Rattle.plan_clocks.specs.Clocks.{sys_hz, hclk_hz, pclk1_hz, pclk2_hz, usb_hz, usb_divider, target_of}
use Rattle.limits.specs.Limits.{core_on_absent_dll1, core_on_dbl96, flash_on_absent_dll, usb_on_absent_dll2}
use Rattle.limits.specs.Limits.{usb_not60, dll1_core_too_slow, hclk_too_fast, pclk1_too_fast, pclk2_too_fast, dll2_too_fast}
use Rattle.verdict.specs.tests.{plan_refusal}
use Rattle.verdict.specs.Verdict.{verdict_of, verdict, number_of}

-- the number that the plan check answers
abbrev number : List ℕ → ℕ
number b = number_of (verdict b)

-- plans: the default plan with other bytes, at the places of document 01's record
plan_cases :
    -- "Default plan: HCLK 240, PCLK1 120, PCLK2 3.75 MHz, USB divider 4."
    (verdict default_record ≡ Ok (record {
      hclk = record { 0 = 240000000 };
      pclk1 = record { 0 = 120000000 };
      pclk2 = record { 0 = 3750000 };
      usb_div = 4;
    }))
    -- "pdiv1 0: 12."
    × (number (set default_record 5 0) ≡ 12)
    -- "pdiv2 4: 13; 5: accepted."
    × (number (set default_record 6 4) ≡ 13)
    × (number (set default_record 6 5) ≡ 0)
    -- "DLL1 stage 10: 9; without usb 11."
    × (number (set default_record 8 10) ≡ 9)
    × (number (set (set default_record 8 10) 14 0) ≡ 11)
    -- "DLL1 stage 0 halved, no usb: 10."
    × (number (set (set (set default_record 8 0) 9 1) 14 0) ≡ 10)
    -- "DLL2 stage 12: 14."
    × (number (set default_record 11 12) ≡ 14)
unfolding verdict decoded record_refusal first_of coded is_within dll_bytes_legal plan_of dll_of verdict_of plan_refusal legal
    encoded core_on_absent_dll1 core_on_dbl96 flash_on_absent_dll usb_on_absent_dll2 usb_not60 dll1_core_too_slow hclk_too_fast
    pclk1_too_fast pclk2_too_fast dll2_too_fast usb_hz sys_hz hclk_hz pclk1_hz pclk2_hz dll_hz divided shifted target_of usb_divider
plan_cases = (refl, refl, refl, refl, refl, refl, refl, refl)

mode_cases :
    -- "Modes: 24 D0, 25 and 48 D1, 49 and 144 S0, 145 and 240 S1, 241 none."
    (mode_of 24 ≡ Some D0)
    × (mode_of 25 ≡ Some D1)
    × (mode_of 48 ≡ Some D1)
    × (mode_of 49 ≡ Some S0)
    × (mode_of 144 ≡ Some S0)
    × (mode_of 145 ≡ Some S1)
    × (mode_of 240 ≡ Some S1)
    × (mode_of 241 ≡ None)
unfolding mode_of
mode_cases = (refl, refl, refl, refl, refl, refl, refl, refl)

-- a head whose core is at 240 MHz: DLL1 at stage 9, undivided
abbrev at240 : Head
at240 = with_ready true true false (with_registers (set (set (set (replicate 35 0) 1 3) 2 65536) 3 65545) blank)

-- "250 us at 240 MHz: 60,000 cycles.": the one entry of a delay, and the call goes on
delay_case : delay 250 (begin at240) ≡ record { entries = entry 48 60000 ∷ []; head = at240; taken = 0; stop = 0 }
unfolding delay unless_ended blank hclk_of sys_of dll_reading dll_hz divided
delay_case = refl

-- document 02: "a core at 188,235 Hz waits 0 cycles for 3 us. The cycles are now rounded up.": HXT48 divided by 255
abbrev pub at188235 : Head
at188235 = with_ready true true false (with_registers (set (set (replicate 35 0) 1 1) 2 16711680) blank)

slow_delay_case : delay 3 (begin at188235) ≡ record { entries = entry 48 1 ∷ []; head = at188235; taken = 0; stop = 0 }
unfolding delay unless_ended blank hclk_of sys_of dll_reading divided
slow_delay_case = refl

-- "LPSYS 48, 25, 24, 7, 1 give dividers 0, 1, 2, 6, 48.": whatever the head, since its source gives 48 MHz or does not read
lpsys_cases : (h : Head) →
    (divider_for 48 h ≡ 0)
    × (divider_for 25 h ≡ 1)
    × (divider_for 24 h ≡ 2)
    × (divider_for 7 h ≡ 6)
    × (divider_for 1 h ≡ 48)
unfolding divider_for
lpsys_cases h = (rw (source_48 h), rw (source_48 h), rw (source_48 h), rw (source_48 h), rw (source_48 h))

-- a head whose core runs on HXT48, which is ready
abbrev on_hxt48 : Head
on_hxt48 = with_ready true false false (with_registers (set (replicate 35 0) 1 1) blank)

-- the answers of `n` measurements, each ready at once and with the same counts
abbrev counted : ℕ → ℕ → ℕ → List ℕ
counted zero hxt hrc = []
counted (suc n) hxt hrc = 1 ∷ hxt ∷ hrc ∷ counted n hxt hrc

-- what calibration leaves of that head, and the trims that entries store
abbrev calibrated : List ℕ → Run
calibrated a = calibrate_hrc48 a (begin on_hxt48)

abbrev trims : List ℕ → List ℕ
trims [] = []
trims (e ∷ es) = cond (eqb (e / 16777216) 19) (e % 16777216 ∷ trims es) (trims es)

calibration_cases :
    -- "Difference 63 first: trim 512, one measurement.": of two there, the first
    (trims (calibrated (counted 2 63 0)).entries ≡ 512 ∷ [])
    × ((calibrated (counted 2 63 0)).taken ≡ 3)
    -- "Always 64 with hxt_cnt larger: trims 512, 768, 896, 960, 992, 1008, 1016, 1020, 1022, 1023, 1023."
    × (trims (calibrated (counted 12 64 0)).entries ≡ 512 ∷ 768 ∷ 896 ∷ 960 ∷ 992 ∷ 1008 ∷ 1016 ∷ 1020 ∷ 1022 ∷ 1023 ∷ 1023 ∷ [])
    -- "160 done, 161 is 33."
    × ((calibrated (counted 11 160 0)).stop ≡ 0)
    × ((calibrated (counted 11 161 0)).stop ≡ 33)
unfolding blank calibrate_hrc48 calibrate search adjusted judged_difference measurement next_trim difference halted store delay measure poll unless_ended hclk_of sys_of divided
calibration_cases = (refl, refl, refl, refl, refl)

-- bookings with a period of 1,000 us, one after the other, of these cycles: what the last one leaves
abbrev task : ℕ → ℕ → Task
task id cycles = record { id = id; cycles = cycles; period = 1000 }

abbrev buffer : List ℕ
buffer = written at240 (replicate buffer_bytes 0)

abbrev first : Left
first = book (task 1 120000) buffer

abbrev second : Left
second = book (task 2 80000) first.buffer

task_cases :
    -- "Period 1,000, cycles 120,000, 80,000: done at 240 MHz; then 40,000 done, or 64,000 refused 39."
    (first.refusal ≡ 0)
    × (second.refusal ≡ 0)
    × ((book (task 3 40000) second.buffer).refusal ≡ 0)
    × ((book (task 3 64000) second.buffer).refusal ≡ 39)
unfolding blank book performed first_of head_refusal length_fits is_within largest tasks_fit tasks_in items task_in four_in
    all_ok task_ok distinct has_id head_of registers_in word_in places_in hclk_of sys_of dll_reading dll_hz divided written
    record_of front_of state_of joined word_bytes task_bytes four_bytes load_of share_of
task_cases = (refl, refl, refl, refl)
