-- The claim is not empty: a fit head, a list in which every kind of call is answered done, and one with each refusal that a list from a fit
-- head can meet. Computed from the definitions.
use Prim.Native.Nat.{ℕ, zero, suc}
use mathlib.Core.Path.{◌≡◌, refl}
use mathlib.Core.Bool.{true, false}
use mathlib.Core.List.{List, [], ◌∷◌}
use lib.ListN.{set, replicate}
use Rattle.record.specs.Bytes.{is_within}
use Rattle.record.specs.Refusals.{first_of}
use Rattle.record.specs.Items.{items, joined}
use Rattle.clock.specs.Clock.{dll_hz, divided, shifted}
use Rattle.plan.specs.codes.{dll_bytes_legal, coded, dll_of}
use Rattle.plan.specs.Plan.{encoded, legal}
use Rattle.plan.specs.bytes.{record_refusal, plan_of, decoded, default_record}
use Rattle.plan_clocks.specs.Clocks.{sys_hz, hclk_hz, pclk1_hz, pclk2_hz, usb_hz, usb_divider, target_of}
use Rattle.limits.specs.Limits.{core_on_absent_dll1, core_on_dbl96, flash_on_absent_dll, usb_on_absent_dll2}
use Rattle.limits.specs.Limits.{usb_not60, dll1_core_too_slow, hclk_too_fast, pclk1_too_fast, pclk2_too_fast, dll2_too_fast}
use Rattle.verdict.specs.tests.{plan_refusal}
use Rattle.verdict.specs.Verdict.{verdict_of, verdict}
use Rattle.register.specs.Word.{word_in, word_bytes}
use Rattle.register.specs.Codes.{largest}
use Rattle.register.specs.bytes.{registers_in}
use Rattle.task.specs.declared.Task.{Task}
use Rattle.task.specs.Task.{task_ok, all_ok, has_id, distinct}
use Rattle.record.specs.Four.{four_in, four_bytes}
use Rattle.task.specs.bytes.{task_in, task_bytes, tasks_in, tasks_fit, places_in}
use Rattle.load.specs.Load.{share_of, load_of}
use Rattle.head.specs.declared.Head.{Head}
use Rattle.head.specs.Head.{with_registers, with_ready}
use Rattle.head.specs.Record.{buffer_bytes, blank, length_fits, head_refusal, head_of, front_of, state_of, record_of, written}
use Rattle.clock_read.specs.Hpsys.{dll_reading, sys_of, hclk_of}
use Rattle.clock_read.specs.lpsys.{lpsys_sys_of, lpsys_hclk_of}
use Rattle.journal.specs.Run.{unless_ended, store, delay, poll, wait}
use Rattle.dvfs.specs.Hpsys.{mode_of}
use Rattle.dvfs.specs.lpsys.{lpsys_mode_of}
use Rattle.dvfs_lpsys.specs.switch.{lpsys_d2s_first, lpsys_s2d_first, lpsys_s2d_second}
use Rattle.dvfs_hpsys.specs.volts.{vref_of, sx_mode_volt, timing}
use Rattle.dvfs_hpsys.specs.switch.{d2s_first, s2d_first, s2d_second}
use Rattle.fit.specs.rail.{met, higher, rail_limit}
use Rattle.fit.specs.Fit.{source_is_on, fits}
use Rattle.dll.specs.Dll.{hpbg_on, vddpsw_on, dll_off, dll_on, relocked, set_dll, configure_dll}
use Rattle.core_clock.specs.dividers.{dividers}
use Rattle.guard_steps.specs.peak.{mode_at, highest, peak_of}
use Rattle.guard_steps.specs.supply.{raise}
use Rattle.guard_steps.specs.Steps.{leave_dll1, to_hxt48, to_planned, back_to}
use Rattle.guard_change.specs.Change.{change}
use Rattle.guard.specs.Guard.{change_call}
use Rattle.lpsys_request.specs.modes.{divider_for, present_mode, request_mode}
use Rattle.lpsys_request.specs.hdiv.{set_hdiv}
use Rattle.lpsys_request.specs.Request.{request}
use Rattle.lpsys_request.specs.frequency.{lpsys_request}
use Rattle.call.specs.Call.{performed}
use Rattle.head.specs.tasks.{holding, without}
use Rattle.booking.specs.Booking.{book}
use Rattle.booking.specs.Release.{release}
use Rattle.claim.specs.Claim.{Call, changing, booking, releasing, requesting, perform, entries_of}

-- a head at 48 MHz on D: the core on HXT48, D1's buck and ldo, LPSYS on HXT48 at 24 MHz
abbrev head48 : Head
head48 = with_ready true false false (with_registers (set (set (set (set (set (set (set (replicate 35 0) 1 1) 2 65536) 12 1) 15 10) 16 8) 25 1) 26 131072) blank)

abbrev bytes48 : List ℕ
bytes48 = written head48 (replicate buffer_bytes 0)

abbrev journal : List ℕ
journal = replicate 128 0

abbrev task : ℕ → ℕ → Task
task id cycles = record { id = id; cycles = cycles; period = 1000 }

-- what the calls of a list answer
abbrev answers : List ℕ → List Call → List ℕ
answers b [] = []
answers b (c ∷ cs) = (perform c b).refusal ∷ answers (perform c b).buffer cs

abbrev Fit : Type 0
Fit = (head_refusal bytes48 ≡ 0) × (fits (head_of bytes48) ≡ true)

-- to 240 MHz by the default plan, DLL1 ready at the second answer
abbrev planned : Call
planned = changing default_record journal (0 ∷ 1 ∷ [])

-- 240 MHz by the default plan, two tasks, LPSYS at 48 MHz, and a task released
abbrev Done : Type 0
Done =
    answers bytes48
    (planned ∷ booking (task 1 120000) ∷ booking (task 2 80000) ∷ requesting 48 journal ∷ releasing 1 ∷ [])
    ≡ 0 ∷ 0 ∷ 0 ∷ 0 ∷ 0 ∷ []

-- the journal of the first of these calls, and of the same call made again, when HCLK is as planned: steps 6 and 8 are made all the same
abbrev Order : Type 0
Order =
    (entries_of (perform planned bytes48) ≡
    -- (1) the peak is 240 MHz: S1's buck and ldo, the supply to S, 250 us at 48 MHz, the timing
    0x0d00000f ∷ 0x0e00000d ∷ 0x0c000000 ∷ 0x30002ee0 ∷ 0x11003043
    -- (2) no flash select is on DLL1, (3) the core is on HXT48: no store; (4) the bandgap, DLL1 off and on, 10 us, the wait with two answers
    ∷ 0x0b000100 ∷ 0x0b000101 ∷ 0x03000000 ∷ 0x03010009 ∷ 0x300001e0 ∷ 0x31030002
    -- (5) the dividers, (6) the core on DLL1, (7) no select to put back, (8) the target's rails
    ∷ 0x02010106 ∷ 0x01000003 ∷ 0x0d00000f ∷ 0x0e00000d ∷ 0x11003043 ∷ 0x0c000000 ∷ [])
    × (entries_of (perform planned (perform planned bytes48).buffer) ≡
    -- (3) to HXT48, (4) DLL1 off and on, (5), (6), (8)
    0x01000001 ∷ 0x03000009 ∷ 0x03010009 ∷ 0x300001e0 ∷ 0x31030002 ∷ 0x02010106 ∷ 0x01000003
    ∷ 0x0d00000f ∷ 0x0e00000d ∷ 0x11003043 ∷ 0x0c000000 ∷ [])

-- each refusal that such a list can meet, on one head: the head's 1 to 3, 34 and 37 are not among them
abbrev with : List ℕ → ℕ → ℕ → List ℕ
with plan at v = set plan at v

abbrev without_dll1 : List ℕ → List ℕ
without_dll1 plan = with (with (with plan 7 0) 8 0) 9 0

abbrev without_dll2 : List ℕ → List ℕ
without_dll2 plan = with (with (with plan 10 0) 11 0) 12 0

abbrev without_usb : List ℕ → List ℕ
without_usb plan = with plan 14 0

-- the core on a crystal at 48 MHz, and on HXT48 at 24 MHz
abbrev on : ℕ → List ℕ
on select = with (without_usb (without_dll1 default_record)) 3 select

abbrev tried : List ℕ → Call
tried plan = changing plan journal (1 ∷ [])

abbrev Refused : Type 0
Refused =
    answers bytes48
    (changing default_record (replicate 127 0) []
    ∷ changing default_record journal (replicate 4097 0)
    ∷ tried []
    ∷ tried (with default_record 2 2)
    ∷ tried (with default_record 3 4)
    ∷ tried (without_dll1 default_record)
    ∷ tried (with default_record 3 2)
    ∷ tried (with (on 1) 18 1)
    ∷ tried (without_dll2 default_record)
    ∷ tried (with (with (without_dll2 default_record) 19 0) 16 1)
    ∷ tried (with default_record 8 10)
    ∷ tried (without_usb (with (with default_record 8 0) 9 1))
    ∷ tried (without_usb (with default_record 8 10))
    ∷ tried (with default_record 5 0)
    ∷ tried (with default_record 6 4)
    ∷ tried (with default_record 11 12)
    ∷ tried (on 0)
    ∷ requesting 20 []
    ∷ requesting 0 journal
    ∷ requesting 49 journal
    ∷ booking (task 0 1)
    ∷ booking (task 1 64000)
    ∷ booking (task 1 40000)
    ∷ booking (task 1 1)
    ∷ tried (with (on 1) 4 2)
    ∷ releasing 9
    ∷ changing default_record journal (0 ∷ 0 ∷ [])
    ∷ [])
    ≡ 17 ∷ 18 ∷ 1 ∷ 2 ∷ 3 ∷ 4 ∷ 5 ∷ 6 ∷ 7 ∷ 8 ∷ 9 ∷ 10 ∷ 11 ∷ 12 ∷ 13 ∷ 14 ∷ 38 ∷ 17 ∷ 15 ∷ 15 ∷ 16 ∷ 39 ∷ 0 ∷ 40 ∷ 39 ∷ 42 ∷ 36 ∷ []

-- and 41, on a head with sixteen tasks
abbrev sixteen : ℕ → List Task
sixteen zero = []
sixteen (suc n) = task (suc n) 1 ∷ sixteen n

abbrev Full : Type 0
Full = answers (written (holding (sixteen 16) head48) (replicate buffer_bytes 0)) (booking (task 17 1) ∷ []) ≡ 41 ∷ []

-- all of them, by computing what the definitions say
examples : Fit × (Done × (Order × (Refused × Full)))
unfolding blank head_refusal first_of length_fits is_within largest tasks_fit tasks_in items task_in four_in all_ok task_ok distinct
    has_id head_of registers_in word_in places_in written record_of front_of state_of joined word_bytes task_bytes four_bytes
    fits source_is_on rail_limit higher met vref_of hclk_of sys_of dll_reading dll_hz divided lpsys_hclk_of lpsys_sys_of verdict decoded
    record_refusal coded dll_bytes_legal plan_of dll_of verdict_of plan_refusal legal encoded core_on_absent_dll1 core_on_dbl96
    flash_on_absent_dll usb_on_absent_dll2 usb_not60 dll1_core_too_slow hclk_too_fast pclk1_too_fast pclk2_too_fast dll2_too_fast usb_hz
    sys_hz hclk_hz pclk1_hz pclk2_hz shifted target_of usb_divider change_call performed change peak_of highest mode_at mode_of
    raise leave_dll1 to_hxt48 to_planned back_to dividers configure_dll set_dll relocked dll_off dll_on hpbg_on vddpsw_on
    d2s_first s2d_first s2d_second sx_mode_volt timing store unless_ended delay wait poll load_of share_of book release without
    lpsys_request request set_hdiv divider_for present_mode request_mode lpsys_mode_of lpsys_d2s_first lpsys_s2d_first
    lpsys_s2d_second
examples = ((refl, refl), (refl, ((refl, refl), (refl, refl))))
