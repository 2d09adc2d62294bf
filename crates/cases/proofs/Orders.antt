-- What a call answers where two of its tests find a fault: the number of the one that document 01 lists first. Each is computed from the
-- definitions.
use Prim.Native.Nat.{ℕ, zero, suc}
use mathlib.Core.Path.{◌≡◌, refl}
use mathlib.Core.Bool.{true, false}
use mathlib.Core.List.{List, [], ◌∷◌}
use lib.ListN.{set, replicate}
use Rattle.std.specs.Prelude.{Err}
use Rattle.record.specs.Bytes.{is_within}
use Rattle.record.specs.Four.{four_in, four_bytes}
use Rattle.record.specs.Items.{items, joined}
use Rattle.record.specs.Refusals.{first_of}
use Rattle.clock.specs.Clock.{dll_hz, divided, shifted}
use Rattle.plan.specs.Plan.{encoded, legal}
use Rattle.plan.specs.bytes.{record_refusal, plan_of, decoded, default_record}
use Rattle.plan.specs.codes.{dll_bytes_legal, coded, dll_of}
use Rattle.plan_clocks.specs.Clocks.{sys_hz, hclk_hz, pclk1_hz, pclk2_hz, usb_hz}
use Rattle.limits.specs.Limits.{core_on_absent_dll1, core_on_dbl96, flash_on_absent_dll, usb_on_absent_dll2}
use Rattle.limits.specs.Limits.{usb_not60, dll1_core_too_slow, hclk_too_fast, pclk1_too_fast, pclk2_too_fast, dll2_too_fast}
use Rattle.verdict.specs.tests.{plan_refusal}
use Rattle.verdict.specs.Verdict.{verdict_of, verdict}
use Rattle.register.specs.Codes.{largest}
use Rattle.register.specs.Numbers.{SYSCLK}
use Rattle.register.specs.Word.{word_in, word_bytes}
use Rattle.register.specs.bytes.{registers_in}
use Rattle.task.specs.declared.Task.{Task}
use Rattle.task.specs.Task.{task_ok, all_ok, has_id, distinct}
use Rattle.task.specs.bytes.{task_in, task_bytes, tasks_in, tasks_fit, places_in}
use Rattle.load.specs.Load.{share_of, load_of}
use Rattle.load.specs.check.{listed_tasks, check_refusal, load_check}
use Rattle.head.specs.declared.Head.{Head}
use Rattle.head.specs.Head.{with_ready, with_tasks}
use Rattle.head.specs.Record.{buffer_bytes, blank, length_fits, head_refusal, head_of, front_of, state_of, record_of, written}
use Rattle.clock_read.specs.Hpsys.{dll_reading, sys_of, hclk_of}
use Rattle.clock_read.specs.lpsys.{lpsys_sys_of, lpsys_hclk_of}
use Rattle.call.specs.Call.{performed}
use Rattle.booking.specs.Booking.{book}
use Rattle.fit.specs.rail.{met, higher, rail_limit}
use Rattle.fit.specs.Fit.{source_is_on, fits}
use Rattle.guard.specs.Guard.{change_call}
use Rattle.cases.proofs.Fit.{put, sound}

load_orders :
    -- 17 tasks and a byte: 1, not 41
    (load_check (replicate 154 0) ≡ Err 1)
    -- 17 tasks of id 0: 41, not 16
    × (load_check (replicate 153 0) ≡ Err 41)
    -- two tasks of id 0: 16, not 40
    × (load_check (replicate 18 0) ≡ Err 16)
unfolding load_check check_refusal first_of listed_tasks items task_in four_in all_ok task_ok distinct has_id
load_orders = (refl, refl, refl)

-- a task of an id and cycles, and those of the ids up to a number
abbrev task : ℕ → ℕ → Task
task id cycles = record { id = id; cycles = cycles; period = 1000 }

abbrev up_to : ℕ → List Task
up_to zero = []
up_to (suc n) = task (suc n) 1 ∷ up_to n

-- a fit head that is full, and its record
abbrev full : Head
full = with_tasks (up_to 16) 16 sound

abbrev buffer : Head → List ℕ
buffer h = written h (replicate buffer_bytes 0)

booking_orders :
    -- cycles 0 and an id in use: 16, not 40
    ((book (task 1 0) (buffer full)).refusal ≡ 16)
    -- an id in use on a full head: 40, not 41
    × ((book (task 1 1) (buffer full)).refusal ≡ 40)
    -- a full head on DBL96, which does not read: 41, not 34
    × ((book (task 17 1) (buffer (put SYSCLK 0 0 2 full))).refusal ≡ 41)
unfolding blank book performed first_of head_refusal length_fits is_within largest tasks_fit tasks_in items task_in four_in
    all_ok task_ok distinct has_id head_of registers_in word_in places_in hclk_of sys_of dll_reading dll_hz divided written
    record_of front_of state_of joined word_bytes task_bytes four_bytes load_of share_of
booking_orders = (refl, refl, refl)

-- what a guarded change to a plan answers on a head's bytes
abbrev answer : List ℕ → Head → ℕ
answer plan h = (change_call plan (buffer h) (replicate 128 0) []).refusal

-- a head that is not fit, and one whose load is 300 MHz
abbrev unfit : Head
unfit = put SYSCLK 0 0 2 sound

abbrev loaded : Head
loaded = with_tasks (task 1 300000 ∷ []) 1 sound

change_orders :
    -- a plan refused 12 on a head that is not fit: 12, not 37
    (answer (set default_record 5 0) unfit ≡ 12)
    -- not fit, and HXT48 not ready: 37, not 38
    × (answer default_record (with_ready false true false unfit) ≡ 37)
    -- HXT48 not ready, and the load above the plan's HCLK: 38, not 39
    × (answer default_record (with_ready false true false loaded) ≡ 38)
    × (answer default_record loaded ≡ 39)
unfolding fits source_is_on rail_limit higher met hclk_of sys_of dll_reading lpsys_hclk_of lpsys_sys_of blank
    change_call performed first_of head_refusal length_fits is_within largest tasks_fit tasks_in items task_in four_in all_ok task_ok
    distinct has_id head_of registers_in word_in places_in written record_of front_of state_of joined word_bytes task_bytes four_bytes
    verdict decoded record_refusal coded dll_bytes_legal plan_of dll_of verdict_of plan_refusal legal encoded
    core_on_absent_dll1 core_on_dbl96 flash_on_absent_dll usb_on_absent_dll2 usb_not60 dll1_core_too_slow hclk_too_fast pclk1_too_fast
    pclk2_too_fast dll2_too_fast usb_hz sys_hz hclk_hz pclk1_hz pclk2_hz dll_hz divided shifted load_of share_of
change_orders = (refl, refl, refl, refl)
