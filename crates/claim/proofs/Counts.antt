-- How many entries a guarded change and an LPSYS request write, and how many answers a change takes: the word that C gets has room for both.
use Prim.Native.Nat.{ℕ, suc, ◌+◌, ◌≤◌}
use mathlib.Core.Bool.{Bool, true, false, cond}
use mathlib.Core.List.{List, [], ◌∷◌}
use native.Mathlib.Omega.{arith}
use lib.Dec.{eqb, ltb}
use lib.ListN.{length, drop, length-append}
use Rattle.std.specs.Prelude.{Option, Some, None}
use Rattle.time.specs.declared.Hertz.{Hertz}
use Rattle.time.specs.Frequency.{hz_or}
use Rattle.clock.specs.declared.Dll.{Dll}
use Rattle.plan.specs.declared.Plan.{Plan}
use Rattle.plan_clocks.specs.Clocks.{hclk_hz}
use Rattle.register.specs.Word.{byte_b, byte_c}
use Rattle.clock_read.specs.Hpsys.{reg, hclk_of}
use Rattle.clock_read.specs.lpsys.{lpsys_hclk_of}
use Rattle.journal.specs.Run.{Run, Effect, ◌▸◌, idle, unless_ended, halted, delayed, store, delay, Poll, ready_after, never_ready, more, poll, waited, wait}
use Rattle.dvfs.specs.declared.hpsys.HpsysDvfsMode.{HpsysDvfsMode}
use Rattle.dvfs.specs.declared.hpsys.HpsysDvfsMode.TheVariants.{D0, D1, S0, S1}
use Rattle.dvfs.specs.declared.lpsys.LpsysDvfsMode.{LpsysDvfsMode}
use Rattle.dvfs.specs.declared.lpsys.LpsysDvfsMode.TheVariants.{D, S}
use Rattle.dvfs_hpsys.specs.volts.{sx_mode_volt, timing}
use Rattle.dvfs_hpsys.specs.switch.{d2s_first, s2d_first, s2d_second}
use Rattle.dvfs_lpsys.specs.switch.{lpsys_d2s_first, lpsys_s2d_first, lpsys_s2d_second}
use Rattle.dvfs_lpsys.specs.LpsysModes.{lpsys_first, lpsys_second}
use Rattle.dll.specs.Dll.{hpbg_on, vddpsw_on, dll_off, dll_on, relocked, set_dll, configure_dll}
use Rattle.core_clock.specs.dividers.{dividers}
use Rattle.core_clock.specs.CoreClock.{planned_dll1}
use Rattle.fit.specs.rail.{limit_hz, rail_limit}
use Rattle.guard_steps.specs.flash.{on_dll1}
use Rattle.guard_steps.specs.peak.{mode_at}
use Rattle.guard_steps.specs.supply.{raising, raise, target_rails}
use Rattle.guard_steps.specs.Steps.{leave_dll1, to_hxt48, to_planned, back_to}
use Rattle.guard_change.specs.Change.{steps, change}
use Rattle.lpsys_request.specs.modes.{divider_for, present_mode, request_mode}
use Rattle.lpsys_request.specs.hdiv.{set_hdiv}
use Rattle.lpsys_request.specs.Request.{request}
use Rattle.lpsys_request.specs.slow.{unless_read, refuse_unread, slow_down}
use Rattle.lpsys_wake.specs.count.{count_up}
use Rattle.lpsys_wake.specs.Wake.{wake_first, wake}
use Rattle.clock_lpsys.specs.Calls.{wake_and_slow}
use Rattle.claim.specs.Moment.{taken_of, taken_for}

-- an effect writes at most `k` entries
abbrev Writes : ℕ → Effect → Type 0
Writes k f = (r : Run) → length (f r).entries ≤ length r.entries + k

-- one effect after another; one of two
then : (k l : ℕ) (f g : Effect) → Writes k f → Writes l g → Writes (k + l) (f ▸ g)
then k l f g x y r = omega (arith, x r, y (f r))

either : (k : ℕ) (t : Bool) (f g : Effect) → Writes k f → Writes k g → Writes k (cond t f g)
either k true f g x y = x
either k false f g x y = y

none : (k : ℕ) → Writes k idle
none k r = omega arith

unless : (k : ℕ) (f : Effect) → Writes k f → Writes k (unless_ended f)
unfolding unless_ended
unless k f x r = by (eqb r.stop 0)
  where
    by : (t : Bool) → length (cond t (f r) r).entries ≤ length r.entries + k
    by true = x r
    by false = omega arith

stores : (n v : ℕ) → Writes 1 (store n v)
unfolding store
stores n v = unless 1 _ (λ r. simp length-append (omega arith))

delays : (us : ℕ) → Writes 1 (delay us)
unfolding delay
delays us = unless 1 _ (λ r. by (hclk_of r.head) r)
  where
    by : (h : Option Hertz) → Writes 1 (delayed h us)
    by (Some f) r = simp length-append (omega arith)
    by None r = omega arith

waits : (kind : ℕ) (a : List ℕ) → Writes 1 (wait kind a)
unfolding wait
waits kind a = unless 1 _ (λ r. by (poll (drop r.taken a)) r)
  where
    by : (p : Poll) → Writes 1 (waited kind a p)
    by (ready_after n) r = simp length-append (omega arith)
    by never_ready r = omega arith

-- (1) and (8): the supply
volts : (m : HpsysDvfsMode) → Writes 2 (sx_mode_volt m)
unfolding sx_mode_volt
volts m = then 1 1 (store 13 _) (store 14 _) (stores 13 _) (stores 14 _)

first : (m : HpsysDvfsMode) → Writes 2 (s2d_first m)
unfolding s2d_first
first m = then 1 1 (store 15 _) (store 16 _) (stores 15 _) (stores 16 _)

timed : (m : HpsysDvfsMode) → Writes 1 (timing m)
unfolding timing
timed m = stores 17 _

up_to_s : (m : HpsysDvfsMode) → Writes 5 (d2s_first m)
unfolding d2s_first
up_to_s m r = omega (arith, volts m r, stores 12 0 (sx_mode_volt m r), delays 250 (store 12 0 (sx_mode_volt m r)), timed m (delay 250 (store 12 0 (sx_mode_volt m r))))

up_to_d : (m : HpsysDvfsMode) → Writes 5 (s2d_first m ▸ delay 250)
up_to_d m r = omega (arith, first m r, delays 250 (s2d_first m r))

raises : (m : HpsysDvfsMode) → Writes 5 (raise m)
unfolding raise
raises m r = either 5 (ltb (rail_limit r.head) (limit_hz m)) (raising m) idle (by m) (none 5) r
  where
    by : (m : HpsysDvfsMode) → Writes 5 (raising m)
    by D0 = up_to_d D0
    by D1 = up_to_d D1
    by S0 = up_to_s S0
    by S1 = up_to_s S1

settles_d : (m : HpsysDvfsMode) → Writes 4 (s2d_first m ▸ s2d_second m)
unfolding s2d_second
settles_d m r = omega (arith, first m r, timed m (s2d_first m r), stores 12 1 (timing m (s2d_first m r)))

settles_s : (m : HpsysDvfsMode) → Writes 4 (sx_mode_volt m ▸ timing m ▸ store 12 0)
settles_s m r = omega (arith, volts m r, timed m (sx_mode_volt m r), stores 12 0 (timing m (sx_mode_volt m r)))

settles : (m : HpsysDvfsMode) → Writes 4 (target_rails m)
settles D0 = settles_d D0
settles D1 = settles_d D1
settles S0 = settles_s S0
settles S1 = settles_s S1

-- (2) to (4): flash and core away from DLL1, and DLL1
leaves : Writes 1 leave_dll1
unfolding leave_dll1
leaves r = either 1 (on_dll1 (reg r.head 5)) (store 5 _) idle (stores 5 _) (none 1) r

to_hxt48_lem : Writes 1 to_hxt48
unfolding to_hxt48
to_hxt48_lem r = either 1 (eqb (reg r.head 1) 1) idle (store 1 1) (none 1) (stores 1 1) r

bandgap : Writes 2 (hpbg_on ▸ vddpsw_on)
unfolding hpbg_on vddpsw_on
bandgap = then 1 1 hpbg_on vddpsw_on hpbg vddpsw
  where
    hpbg : Writes 1 hpbg_on
    hpbg r = either 1 (eqb (byte_b (reg r.head 11)) 0) (store 11 _) idle (stores 11 _) (none 1) r

    vddpsw : Writes 1 vddpsw_on
    vddpsw r = either 1 (eqb (byte_c (reg r.head 11)) 0) (store 11 _) idle (stores 11 _) (none 1) r

relocks : (d : Dll) → Writes 2 (relocked 3 d)
unfolding relocked dll_off dll_on
relocks d = then 1 1 (dll_off 3) (dll_on 3 d) (λ r. stores 3 _ r) (stores 3 _)

dll1 : (m : Option Dll) (a : List ℕ) → Writes 6 (planned_dll1 m a)
unfolding configure_dll set_dll
dll1 None a r = none 6 r
dll1 (Some d) a r =
    let r1 = vddpsw_on (hpbg_on r) in
    let r2 = relocked 3 d r1 in
    omega (arith, bandgap r, relocks d r1, delays 10 r2, waits 3 a (delay 10 r2))

-- (5) to (7)
divides : (p : Plan) → Writes 1 (dividers p)
unfolding dividers
divides p = stores 2 _

to_planned_lem : (p : Plan) → Writes 1 (to_planned p)
unfolding to_planned
to_planned_lem p = stores 1 p.sys

goes_back : (w : ℕ) → Writes 1 (back_to w)
unfolding back_to
goes_back w = either 1 (on_dll1 w) (store 5 w) idle (stores 5 w) (none 1)

-- the guarded change
all_steps : (m : HpsysDvfsMode) (w : ℕ) (p : Plan) (a : List ℕ) → Writes 20 (steps m w p a)
all_steps m w p a r =
    let r1 = raise m r in
    let r2 = leave_dll1 r1 in
    let r3 = to_hxt48 r2 in
    let r4 = planned_dll1 p.dll1 a r3 in
    let r5 = dividers p r4 in
    let r6 = to_planned p r5 in
    let r7 = back_to w r6 in
    let four : length r4.entries ≤ length r.entries + 13 = omega (arith, raises m r, leaves r1, to_hxt48_lem r2, dll1 p.dll1 a r3) in
    omega (arith, four, divides p r4, to_planned_lem p r5, goes_back w r6, settles (mode_at (hclk_hz p)) r7)

pub change_writes : (p : Plan) (a : List ℕ) → Writes 20 (change p a)
unfolding change
change_writes p a r = all_steps _ _ p a r

-- the LPSYS request
pub request_writes : (f : ℕ) → Writes 6 (request f)
unfolding request set_hdiv lpsys_d2s_first lpsys_s2d_first lpsys_s2d_second
request_writes f r =
    let from = present_mode r.head in
    let to = request_mode f in
    let r1 = lpsys_first from to r in
    let r2 = set_hdiv (divider_for f r.head) r1 in
    omega (arith, before from to r, divider r1, behind from to r2)
  where
    divider : Writes 1 (set_hdiv (divider_for f r.head))
    divider q = stores 26 _ q

    before : (from to : LpsysDvfsMode) → Writes 3 (lpsys_first from to)
    before D D r = none 3 r
    before D S r = omega (arith, stores 29 8 r, stores 28 1 (store 29 8 r), delays 250 (store 28 1 (store 29 8 r)))
    before S D r = omega (arith, stores 30 6 r)
    before S S r = none 3 r

    behind : (from to : LpsysDvfsMode) → Writes 2 (lpsys_second from to)
    behind D to r = none 2 r
    behind S D r = omega (arith, stores 31 0x162 r, stores 28 0 (store 31 0x162 r))
    behind S S r = none 2 r

-- a wake with its slowing
counts_up : Writes 0 count_up
unfolding count_up
counts_up = unless 0 _ (λ r. omega arith)

wakes : (a : List ℕ) → Writes 5 (wake a)
unfolding wake wake_first
wakes a r =
    let r1 = store 33 1 r in
    let r2 = delay 230 r1 in
    let r3 = wait 6 a r2 in
    let r4 = delay 30 r3 in
    omega (arith, stores 33 1 r, delays 230 r1, waits 6 a r2, delays 30 r3, waits 6 a r4, counts_up (wait 6 a r4))

refuses : Writes 0 refuse_unread
unfolding refuse_unread halted
refuses r = by (lpsys_hclk_of r.head) r
  where
    by : (f : Option Hertz) → Writes 0 (unless_read f)
    by (Some f) = none 0
    by None = unless 0 _ (λ r. omega arith)

slows : Writes 6 slow_down
unfolding slow_down
slows r = either 6 (ltb 24000000 (hz_or 0 (lpsys_hclk_of r.head))) (request 24) idle (request_writes 24) (none 6) r

pub wake_and_slow_writes : (a : List ℕ) → Writes 11 (wake_and_slow a)
unfolding wake_and_slow
wake_and_slow_writes a r = omega (arith, wakes a r, refuses (wake a r), slows (refuse_unread (wake a r)))

-- a wait takes no more answers than are lent
pub taken_most : (a : List ℕ) → taken_of a (poll a) ≤ length a
unfolding poll
taken_most [] = omega arith
taken_most (x ∷ a) = by (eqb x 0) (poll a) (taken_most a)
  where
    by : (t : Bool) (q : Poll) → taken_of a q ≤ length a → taken_of (x ∷ a) (cond t (more q) (ready_after 1)) ≤ suc (length a)
    by true (ready_after n) e = omega (arith, e)
    by true never_ready e = omega arith
    by false q e = omega arith

pub taken_within : (m : Option Dll) (a : List ℕ) → taken_for m a ≤ length a
taken_within None a = omega arith
taken_within (Some d) a = taken_most a
