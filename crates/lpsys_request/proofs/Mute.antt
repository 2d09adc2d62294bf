-- An LPSYS request and the slowing take no answers, and do in the middle of a run what they do from a beginning.
use Prim.Native.Nat.{ℕ}
use native.Mathlib.Omega.{arith}
use lib.Dec.{ltb}
use Rattle.std.specs.Prelude.{Option, Some, None}
use Rattle.time.specs.declared.Hertz.{Hertz}
use Rattle.time.specs.Frequency.{hz_or}
use Rattle.head.specs.declared.Head.{Head}
use Rattle.clock_read.specs.lpsys.{lpsys_hclk_of}
use Rattle.journal.proofs.Mute.{Mute, mute_idle, mute_store, mute_delay, mute_halted, mute_then, mute_if, mute_on_head}
use Rattle.dvfs.specs.declared.lpsys.LpsysDvfsMode.{LpsysDvfsMode}
use Rattle.dvfs.specs.declared.lpsys.LpsysDvfsMode.TheVariants.{D, S}
use Rattle.dvfs_lpsys.specs.switch.{lpsys_d2s_first, lpsys_s2d_first, lpsys_s2d_second}
use Rattle.dvfs_lpsys.specs.LpsysModes.{lpsys_first, lpsys_second}
use Rattle.lpsys_request.specs.modes.{divider_for, present_mode, request_mode}
use Rattle.lpsys_request.specs.hdiv.{set_hdiv_on, set_hdiv}
use Rattle.lpsys_request.specs.Request.{request_on, request}
use Rattle.lpsys_request.specs.slow.{unless_read, refuse_unread, slow_down_on, slow_down}

first : (from to : LpsysDvfsMode) → Mute (lpsys_first from to)
unfolding lpsys_d2s_first lpsys_s2d_first
first D D = mute_idle
first D S = mute_then (mute_then (mute_store 29 8) (mute_store 28 1)) (mute_delay 250)
first S D = mute_store 30 6
first S S = mute_idle

second : (from to : LpsysDvfsMode) → Mute (lpsys_second from to)
unfolding lpsys_s2d_second
second D to = mute_idle
second S D = mute_then (mute_store 31 0x162) (mute_store 28 0)
second S S = mute_idle

divider : (hdiv : ℕ) → Mute (set_hdiv hdiv)
unfolding set_hdiv
divider hdiv = mute_on_head (set_hdiv_on hdiv) (λ h. mute_store 26 _)

pub mute_request : (f : ℕ) → Mute (request f)
unfolding request
mute_request f =
    mute_on_head (request_on f)
    (λ h. mute_then (mute_then (first (present_mode h) (request_mode f)) (divider (divider_for f h))) (second (present_mode h) (request_mode f)))

pub mute_refuse_unread : Mute refuse_unread
unfolding refuse_unread
mute_refuse_unread = mute_on_head (λ (h : Head). unless_read (lpsys_hclk_of h)) (λ h. by (lpsys_hclk_of h))
  where
    by : (f : Option Hertz) → Mute (unless_read f)
    by (Some f) = mute_idle
    by None = mute_halted 43 (λ q. omega (arith, q))

pub mute_slow_down : Mute slow_down
unfolding slow_down
mute_slow_down = mute_on_head slow_down_on (λ h. mute_if (ltb 24000000 (hz_or 0 (lpsys_hclk_of h))) (mute_request 24) mute_idle)
