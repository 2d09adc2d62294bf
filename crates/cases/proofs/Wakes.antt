-- Waking the LPSYS core and slowing it down, computed from the definitions: done on a fast LPSYS and on a slow one, and each way to be refused.
use Prim.Native.Nat.{ℕ}
use mathlib.Core.Path.{◌≡◌, refl}
use mathlib.Core.Bool.{true, false}
use mathlib.Core.List.{List, [], ◌∷◌}
use lib.ListN.{set, replicate}
use Rattle.clock.specs.Clock.{divided}
use Rattle.head.specs.declared.Head.{Head}
use Rattle.head.specs.Head.{with_registers, with_ready}
use Rattle.head.specs.Record.{blank}
use Rattle.clock_read.specs.Hpsys.{sys_of, hclk_of}
use Rattle.clock_read.specs.lpsys.{lpsys_sys_of, lpsys_hclk_of}
use Rattle.journal.specs.Run.{Run, begin, unless_ended, halted, store, delay, poll, wait}
use Rattle.dvfs.specs.lpsys.{lpsys_mode_of}
use Rattle.dvfs_lpsys.specs.switch.{lpsys_d2s_first, lpsys_s2d_first, lpsys_s2d_second}
use Rattle.lpsys_request.specs.modes.{divider_for, present_mode, request_mode}
use Rattle.lpsys_request.specs.hdiv.{set_hdiv}
use Rattle.lpsys_request.specs.Request.{request}
use Rattle.lpsys_request.specs.slow.{refuse_unread, slow_down}
use Rattle.lpsys_wake.specs.count.{count_up}
use Rattle.lpsys_wake.specs.Wake.{wake_first, wake}
use Rattle.clock_lpsys.specs.Calls.{wake_and_slow}

-- the core by its select, at 48 MHz where that is HXT48, 1, LPSYS by its source and register 26, on supply S; HXT48 is ready, HRC48 is not
abbrev head : ℕ → ℕ → ℕ → Head
head core source hdiv = with_ready true false true (with_registers (set (set (set (set (replicate 35 0) 1 core) 25 source) 26 hdiv) 28 1) blank)

-- what a call leaves: its entries, its refusal, the answers taken, the wake count
abbrev Left : Type 0
Left = List ℕ × (ℕ × (ℕ × ℕ))

abbrev left : Run → Left
left r = (r.entries, (r.stop, (r.taken, r.head.wake_count)))

abbrev woken : Head → List ℕ → Left
woken h a = left (wake_and_slow a (begin h))

wake_cases :
    -- "the stores of the wake, then those of the slowing": HP2LP, 230 us, a wait, 30 us, a wait; ldo, divider 2, timing, supply D
    (woken (head 1 1 0) (0 ∷ 1 ∷ 5 ∷ []) ≡
    (0x21000001 ∷ 0x30002b20 ∷ 0x31060002 ∷ 0x300005a0 ∷ 0x31060001 ∷ 0x1e000006 ∷ 0x1a020000 ∷ 0x1f000162 ∷ 0x1c000000 ∷ [], (0, (3, 1))))
    -- at 24 MHz LPSYS is slow enough
    × (woken (head 1 1 0x20000) (1 ∷ 1 ∷ []) ≡ (0x21000001 ∷ 0x30002b20 ∷ 0x31060001 ∷ 0x300005a0 ∷ 0x31060001 ∷ [], (0, (2, 1))))
    -- "Where the wake is refused 34 or 36, nothing of the second half is stored and the count is not raised."
    × (woken (head 2 1 0) (1 ∷ 1 ∷ []) ≡ (0x21000001 ∷ [], (34, (0, 0))))
    × (woken (head 1 1 0) (0 ∷ 0 ∷ []) ≡ (0x21000001 ∷ 0x30002b20 ∷ [], (36, (2, 0))))
    × (woken (head 1 1 0) (1 ∷ 0 ∷ []) ≡ (0x21000001 ∷ 0x30002b20 ∷ 0x31060001 ∷ 0x300005a0 ∷ [], (36, (2, 0))))
    -- "43 comes after the wake here, and the wake's stores and its raised count are kept."
    × (woken (head 1 0 0) (1 ∷ 1 ∷ 1 ∷ []) ≡ (0x21000001 ∷ 0x30002b20 ∷ 0x31060001 ∷ 0x300005a0 ∷ 0x31060001 ∷ [], (43, (2, 1))))
    × (woken (head 1 0 0) (1 ∷ []) ≡ (0x21000001 ∷ 0x30002b20 ∷ 0x31060001 ∷ 0x300005a0 ∷ [], (36, (1, 0))))
unfolding blank wake_and_slow wake wake_first count_up refuse_unread slow_down request set_hdiv divider_for present_mode request_mode
    lpsys_mode_of lpsys_d2s_first lpsys_s2d_first lpsys_s2d_second lpsys_hclk_of lpsys_sys_of halted store delay wait poll unless_ended hclk_of sys_of divided
wake_cases = (refl, refl, refl, refl, refl, refl, refl)
