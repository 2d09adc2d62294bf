-- Every call that waits, part by part: with more answers it goes on from where it came with fewer.
use Prim.Native.Nat.{ℕ, zero, suc, ◌+◌, ◌-◌, ◌/◌, ◌%◌, ◌≤◌}
use mathlib.Core.Path.{◌≡◌, refl, ap, sym, ◌∙◌, subst}
use mathlib.Core.Bool.{Bool, true, false, cond}
use mathlib.Core.List.{List, ◌++◌}
use native.Mathlib.Omega.{arith}
use lib.Dec.{eqb, leb, ltb}
use lib.ListN.{length, drop, get_or-append}
use borrow.Author.Tests.{eqb-true, eqb-false}
use Rattle.std.specs.Prelude.{Option, Some, None}
use Rattle.time.specs.Frequency.{hz_or, megahertz}
use Rattle.clock.specs.declared.Dll.{Dll}
use Rattle.plan.specs.declared.Plan.{Plan}
use Rattle.plan_clocks.specs.Clocks.{hclk_hz}
use Rattle.register.specs.Word.{word_of, byte_b, byte_c}
use Rattle.record.specs.Bytes.{bit}
use Rattle.head.specs.declared.Head.{Head}
use Rattle.head.specs.Head.{stored}
use Rattle.clock_read.specs.Hpsys.{reg, hclk_of}
use Rattle.journal.specs.Run.{Run, Effect, ◌▸◌, idle, unless_ended, ended, entry, with_entry, with_head, store, delay, Poll, ready_after, never_ready, poll, waited, measured, measure}
use Rattle.journal.proofs.Ended.{Still}
use Rattle.journal.proofs.Mute.{Mute, mute_takes, mute_idle, mute_store, mute_delay, mute_halted, mute_head, mute_then, mute_if, mute_on_head}
use Rattle.dvfs.specs.declared.hpsys.HpsysDvfsMode.{HpsysDvfsMode}
use Rattle.dvfs.specs.declared.hpsys.HpsysDvfsMode.TheVariants.{D0, D1, S0, S1}
use Rattle.dvfs.specs.Hpsys.{mode_of}
use Rattle.dvfs_hpsys.specs.volts.{sx_mode_volt, timing}
use Rattle.dvfs_hpsys.specs.switch.{s2s_first, d2s_first, s2d_first, s2d_second}
use Rattle.dvfs_hpsys.specs.HpsysModes.{is_s, same_mode, hpsys_first, hpsys_second}
use Rattle.dll.specs.Dll.{hpbg_on, vddpsw_on, dll_off, dll_on, relocked, set_dll, configure_dll}
use Rattle.core_clock.specs.dividers.{dividers}
use Rattle.core_clock.specs.CoreClock.{switch_away, planned_dll1, dividers_and_sysclk}
use Rattle.core_clock.specs.switch.{config_clock, transition, to_plan}
use Rattle.fit.specs.rail.{limit_hz, rail_limit}
use Rattle.guard_steps.specs.flash.{on_dll1}
use Rattle.guard_steps.specs.peak.{mode_at, peak_of}
use Rattle.guard_steps.specs.supply.{raising, raise, target_rails}
use Rattle.guard_steps.specs.Steps.{leave_dll1, to_hxt48, to_planned, back_to}
use Rattle.guard_change.specs.Change.{steps, change}
use Rattle.calibration.specs.measure.{measurement, hxt_cnt, hrc_cnt, difference, judged_difference}
use Rattle.calibration.specs.search.{next_trim, adjusted, search}
use Rattle.calibration.specs.Calibration.{calibrate, calibrate_hrc48_on, calibrate_hrc48}
use Rattle.calibration.proofs.search.Laws.{still_adjusted, still_search}
use Rattle.init_first.specs.begin.{start_hxt48_on, start_hxt48, init_begin}
use Rattle.init_first.specs.warning.{is_warning, swallowed}
use Rattle.init_first.specs.First.{boot_stores, leave_hrc48_on, leave_hrc48, calibrating, init_first}
use Rattle.init_rest.specs.selects.{planned_usb, planned_muxes}
use Rattle.init_rest.specs.Rest.{is_set, move_dll2, set_dll2_on, set_dll2, planned_dll2, init_rest}
use Rattle.clock_init.specs.from_core.{init_clock}
use Rattle.clock_init.specs.Init.{boot, init_on, init}
use Rattle.lpsys_wake.specs.count.{counted, count_up}
use Rattle.lpsys_wake.specs.hxt48.{request_hxt48_unless, request_hxt48, request_lpsys_hxt48_unless, request_lpsys_hxt48, hxt48_ready}
use Rattle.lpsys_wake.specs.Wake.{wake_first, wake}
use Rattle.play.proofs.Plays.{Adds, adds_none, adds_then, further, Onward, same, out, Plays, plays_then, plays_if, plays_on_head, plays_mute}
use Rattle.play.proofs.Plays.{plays_wait, plays_measure, plays_wait_hxt48, plays_wait_lpsys_hxt48}

-- the supply of HPSYS
volts : (m : HpsysDvfsMode) → Mute (sx_mode_volt m)
unfolding sx_mode_volt
volts m = mute_then (mute_store 13 _) (mute_store 14 _)

timed : (m : HpsysDvfsMode) → Mute (timing m)
unfolding timing
timed m = mute_store 17 _

to_s : (m : HpsysDvfsMode) → Mute (d2s_first m)
unfolding d2s_first
to_s m = mute_then (mute_then (mute_then (volts m) (mute_store 12 0)) (mute_delay 250)) (timed m)

within_s : (m : HpsysDvfsMode) → Mute (s2s_first m)
unfolding s2s_first
within_s m = mute_then (volts m) (mute_delay 250)

to_d : (m : HpsysDvfsMode) → Mute (s2d_first m)
unfolding s2d_first
to_d m = mute_then (mute_store 15 _) (mute_store 16 _)

after_d : (m : HpsysDvfsMode) → Mute (s2d_second m)
unfolding s2d_second
after_d m = mute_then (timed m) (mute_store 12 1)

first : (current target : HpsysDvfsMode) → Mute (hpsys_first current target)
unfolding hpsys_first
first current target = mute_if (same_mode current target) mute_idle (mute_if (is_s target) (mute_if (is_s current) (within_s target) (to_s target)) (to_d target))

second : (current target : HpsysDvfsMode) → Mute (hpsys_second current target)
unfolding hpsys_second
second current target = mute_if (same_mode current target) mute_idle (mute_if (is_s target) mute_idle (after_d target))

-- a DLL
pub sets : (n : ℕ) (d : Dll) → Mute (set_dll n d)
unfolding set_dll relocked dll_off dll_on hpbg_on vddpsw_on
sets n d =
    mute_then (mute_then
    (mute_on_head (λ (h : Head). cond (eqb (byte_b (reg h 11)) 0) (store 11 (word_of 0 1 (byte_c (reg h 11)))) idle) (λ h. mute_if (eqb (byte_b (reg h 11)) 0) (mute_store 11 _) mute_idle))
    (mute_on_head (λ (h : Head). cond (eqb (byte_c (reg h 11)) 0) (store 11 (word_of 0 (byte_b (reg h 11)) 1)) idle) (λ h. mute_if (eqb (byte_c (reg h 11)) 0) (mute_store 11 _) mute_idle)))
    (mute_then (mute_on_head (λ (h : Head). store n (word_of 0 (byte_b (reg h n)) (byte_c (reg h n)))) (λ h. mute_store n _)) (mute_store n _))

dll : (n : ℕ) (d : Dll) → Plays (configure_dll n d)
unfolding configure_dll
dll n d = plays_then (plays_mute (mute_then (sets n d) (mute_delay 10))) (plays_wait n)

dll1 : (m : Option Dll) → Plays (planned_dll1 m)
dll1 None = plays_mute mute_idle
dll1 (Some d) = dll 3 d

-- the guarded change
pub raises : (m : HpsysDvfsMode) → Mute (raise m)
unfolding raise
raises m = mute_on_head (λ (h : Head). cond (ltb (rail_limit h) (limit_hz m)) (raising m) idle) (λ h. mute_if (ltb (rail_limit h) (limit_hz m)) (by m) mute_idle)
  where
    by : (m : HpsysDvfsMode) → Mute (raising m)
    by D0 = mute_then (to_d D0) (mute_delay 250)
    by D1 = mute_then (to_d D1) (mute_delay 250)
    by S0 = to_s S0
    by S1 = to_s S1

pub leaves : Mute leave_dll1
unfolding leave_dll1
leaves = mute_on_head _ (λ h. mute_if (on_dll1 (reg h 5)) (mute_store 5 _) mute_idle)

pub to_hxt48_lem : Mute to_hxt48
unfolding to_hxt48
to_hxt48_lem = mute_on_head _ (λ h. mute_if (eqb (reg h 1) 1) mute_idle (mute_store 1 1))

rails : (m : HpsysDvfsMode) → Mute (target_rails m)
rails D0 = mute_then (to_d D0) (after_d D0)
rails D1 = mute_then (to_d D1) (after_d D1)
rails S0 = mute_then (mute_then (volts S0) (timed S0)) (mute_store 12 0)
rails S1 = mute_then (mute_then (volts S1) (timed S1)) (mute_store 12 0)

divides : (p : Plan) → Mute (dividers p)
unfolding dividers
divides p = mute_store 2 _

-- (5) to (8), without answers
pub behind : (w : ℕ) (p : Plan) → Mute (dividers p ▸ to_planned p ▸ back_to w ▸ target_rails (mode_at (hclk_hz p)))
unfolding to_planned back_to
behind w p = mute_then (mute_then (mute_then (divides p) (mute_store 1 p.sys)) (mute_if (on_dll1 w) (mute_store 5 w) mute_idle)) (rails (mode_at (hclk_hz p)))

pub plays_change : (p : Plan) → Plays (change p)
unfolding change
plays_change p = plays_on_head (λ (h : Head). steps (peak_of (hz_or 0 (hclk_of h)) (hclk_hz p)) (reg h 5) p) (λ h. by (peak_of (hz_or 0 (hclk_of h)) (hclk_hz p)) (reg h 5))
  where
    by : (m : HpsysDvfsMode) (w : ℕ) → Plays (steps m w p)
    by m w = plays_then (plays_then (plays_mute (mute_then (mute_then (raises m) leaves) to_hxt48_lem)) (dll1 p.dll1)) (plays_mute (behind w p))

-- `reconfigure_sysclk`, and the core clock in `init`
configures : (p : Plan) → Plays (config_clock p)
unfolding config_clock switch_away dividers_and_sysclk
configures p =
    plays_then (plays_then (plays_mute (mute_on_head (λ (h : Head). cond (eqb (reg h 1) 3) (store 1 (bit h.hxt48_ready)) idle) (λ h. mute_if (eqb (reg h 1) 3) (mute_store 1 _) mute_idle)))
    (dll1 p.dll1)) (plays_mute (mute_then (divides p) (mute_store 1 p.sys)))

pub plays_to_plan : (p : Plan) → Plays (to_plan p)
unfolding to_plan
plays_to_plan p =
    plays_on_head (λ (h : Head). transition (mode_of (megahertz (hz_or 48000000 (hclk_of h)))) (mode_of (megahertz (hclk_hz p))) p)
    (λ h. by (mode_of (megahertz (hz_or 48000000 (hclk_of h)))) (mode_of (megahertz (hclk_hz p))))
  where
    by : (x y : Option HpsysDvfsMode) → Plays (transition x y p)
    by (Some current) (Some target) = plays_then (plays_then (plays_mute (first current target)) (configures p)) (plays_mute (second current target))
    by (Some current) None = plays_mute (mute_halted 35 (λ q. omega (arith, q)))
    by None target = plays_mute (mute_halted 35 (λ q. omega (arith, q)))

-- the calibration: a measurement that came to its end has taken two answers, which are the same with more
measures : (trim : ℕ) → Plays (measurement trim)
unfolding measurement
measures trim = plays_then (plays_then (plays_mute (mute_then (mute_then (mute_store 19 trim) (mute_delay 3)) (mute_store 21 1))) plays_measure) (plays_mute (mute_store 21 0))

-- a measurement that ends the call, or takes two answers at least
measured_two : (a : List ℕ) (r : Run) → (measure a r).stop ≡ 0 → 2 ≤ (measure a r).taken
unfolding measure unless_ended
measured_two a r = by (eqb r.stop 0) refl
  where
    counted : (t : Bool) (n : ℕ) → (cond t (waited 5 a (ready_after (n + 2)) r) (ended 36 (length a) r)).stop ≡ 0 →
        2 ≤ (cond t (waited 5 a (ready_after (n + 2)) r) (ended 36 (length a) r)).taken
    counted true n z = omega arith
    counted false n z = absurd (omega (arith, z))

    one : (q : Poll) → (measured a q r).stop ≡ 0 → 2 ≤ (measured a q r).taken
    one (ready_after n) z = counted (leb (r.taken + n + 2) (length a)) n z
    one never_ready z = absurd (omega (arith, z))

    by : (t : Bool) → eqb r.stop 0 ≡ t → (cond t (measured a (poll (drop r.taken a)) r) r).stop ≡ 0 → 2 ≤ (cond t (measured a (poll (drop r.taken a)) r) r).taken
    by true e z = one (poll (drop r.taken a)) z
    by false e z = absurd (eqb-false r.stop 0 e z)

store_stop : (n v : ℕ) (r : Run) → (store n v r).stop ≡ r.stop
unfolding store unless_ended
store_stop n v r = by (eqb r.stop 0)
  where
    by : (t : Bool) → (cond t (with_entry (entry n v) (with_head (stored r.head n v) r)) r).stop ≡ r.stop
    by true = refl
    by false = refl

two_taken : (trim : ℕ) (a : List ℕ) (r : Run) → (measurement trim a r).stop ≡ 0 → 2 ≤ (measurement trim a r).taken
unfolding measurement
two_taken trim a r z =
    let q = measure a ((store 19 trim ▸ delay 3 ▸ store 21 1) r) in
    let two = measured_two a ((store 19 trim ▸ delay 3 ▸ store 21 1) r) (sym (store_stop 21 0 q) ∙ z) in
    omega (arith, two, mute_takes (mute_store 21 0) q)

judged : (d : ℕ) → Mute (judged_difference d)
unfolding judged_difference
judged d = mute_if (ltb 160 d) (mute_halted 33 (λ q. omega (arith, q))) mute_idle

-- one turn of the search, whose turns left are `more`
module _ (trim step : ℕ) (more : ℕ → ℕ → List ℕ → Effect) (plays : (t d : ℕ) → Plays (more t d)) (still : (t d : ℕ) (a : List ℕ) → Still (more t d a)) where
  abbrev turned : List ℕ → Effect
  turned a = adjusted trim step a (λ (t d : ℕ). more t d a)

  stays : (a : List ℕ) (r : Run) → (r.stop ≡ 0 → ⊥) → turned a r ≡ r
  stays a r e = (still_adjusted trim step a (λ (t d : ℕ). more t d a) (λ t d. still t d a)).stays r e

  turned_adds : (a : List ℕ) (r : Run) → Adds r (turned a r)
  unfolding adjusted
  turned_adds a r =
      let d = difference (hxt_cnt a r) (hrc_cnt a r) in
      let t = next_trim trim step (hxt_cnt a r) (hrc_cnt a r) in
      by (ltb d 64) ((plays_mute (judged d)).adds a r) ((plays t d).adds a r)
    where
      by : {x y : Run} (t : Bool) → Adds r x → Adds r y → Adds r (cond t x y)
      by true p q = p
      by false p q = q

  -- where the counts are the same with more answers
  turned_onward : (a x : List ℕ) (r : Run) → r.taken ≤ length a → (r.stop ≡ 36 → ⊥) → hxt_cnt (a ++ x) r ≡ hxt_cnt a r → hrc_cnt (a ++ x) r ≡ hrc_cnt a r → Onward a x (turned a r) (turned (a ++ x) r)
  unfolding adjusted
  turned_onward a x r k z e f =
      let d = difference (hxt_cnt a r) (hrc_cnt a r) in
      let t = next_trim trim step (hxt_cnt a r) (hrc_cnt a r) in
      rw (e, f) (by (ltb d 64) ((plays_mute (judged d)).onward a x r k z) ((plays t d).onward a x r k z))
    where
      by : {p q p' q' : Run} (t : Bool) → Onward a x p p' → Onward a x q q' → Onward a x (cond t p q) (cond t p' q')
      by true u v = u
      by false u v = v

  goes_on : (a x : List ℕ) (r : Run) → r.taken ≤ length a → (r.stop ≡ 36 → ⊥) → (r.stop ≡ 0 → 2 ≤ r.taken) → Onward a x (turned a r) (turned (a ++ x) r)
  goes_on a x r k y two = by (eqb r.stop 0) refl
    where
      by : (t : Bool) → eqb r.stop 0 ≡ t → Onward a x (turned a r) (turned (a ++ x) r)
      by true e =
          let more-than-two = two (eqb-true r.stop 0 e) in
          turned_onward a x r k y
          (get_or-append a x 0 (r.taken - 2) (omega (arith, k, more-than-two)))
          (get_or-append a x 0 (r.taken - 1) (omega (arith, k, more-than-two)))
      by false e =
          let z = eqb-false r.stop 0 e in
          rw (stays a r z, stays (a ++ x) r z) (same refl k y)

  turn : Plays (λ (a : List ℕ). measurement trim a ▸ turned a)
  turn = record {
    ends = λ a r e. ap (turned a) ((measures trim).ends a r e) ∙ stays a r (λ z. omega (arith, e, z));
    adds = λ a r. adds_then r (measurement trim a r) (turned a (measurement trim a r)) ((measures trim).adds a r) (turned_adds a (measurement trim a r));
    onward = λ a x r t z. by a x r ((measures trim).onward a x r t z);
  }
    where
      by : (a x : List ℕ) (r : Run) → Onward a x (measurement trim a r) (measurement trim (a ++ x) r) → Onward a x (turned a (measurement trim a r)) (turned (a ++ x) (measurement trim (a ++ x) r))
      by a x r (same e k y) = subst (λ (q : Run). Onward a x (turned a (measurement trim a r)) (turned (a ++ x) q)) (sym e) (goes_on a x (measurement trim a r) k y (two_taken trim a r))
      by a x r (out s q w) =
          let r' = measurement trim (a ++ x) r in
          further (stays a (measurement trim a r) (λ z. omega (arith, s, z))) s q w (turned_adds (a ++ x) r')

searches : (n trim step d : ℕ) → Plays (search n trim step d)
unfolding search
searches zero trim step d = plays_mute (judged d)
searches (suc n) trim step d = turn trim step (λ (t d : ℕ). search n t (step / 2) d) (λ t d. searches n t (step / 2) d) (λ t d a. still_search n t (step / 2) d a)

pub plays_calibrate : Plays calibrate_hrc48
unfolding calibrate_hrc48 calibrate
plays_calibrate =
    plays_on_head (λ (h : Head) (a : List ℕ). calibrate_hrc48_on a h)
    (λ h. plays_if h.hxt48_ready (plays_then (plays_mute (mute_then (mute_store 20 0x3fff) (mute_store 18 _))) (searches 11 0x200 0x100 0)) (plays_mute (mute_halted 31 (λ q. omega (arith, q)))))

-- `init`
swallows : Plays (λ (a : List ℕ). swallowed)
unfolding swallowed
swallows = record { ends = λ a r e. rw e; adds = λ a r. adds_none r _ refl; onward = λ a x r t z. same refl t (λ q. kept (is_warning r.stop) r z q) }
  where
    kept : (t : Bool) (r : Run) → (r.stop ≡ 36 → ⊥) → cond t 0 r.stop ≡ 36 → ⊥
    kept true r z q = omega (arith, q)
    kept false r z q = z q

begins : Plays init_begin
unfolding init_begin start_hxt48
begins =
    plays_then (plays_on_head (λ (h : Head) (a : List ℕ). start_hxt48_on a h)
    (λ h. plays_if (eqb (reg h 1) 1) (plays_then (plays_mute (mute_store 22 1)) plays_wait_hxt48) (plays_mute mute_idle))) (plays_mute (mute_store 6 1))

leaves_hrc48 : Mute leave_hrc48
unfolding leave_hrc48
leaves_hrc48 = mute_on_head leave_hrc48_on (λ h. mute_if (eqb (reg h 1) 0) (mute_if h.hxt48_ready (mute_store 1 1) (mute_halted 32 (λ q. omega (arith, q)))) mute_idle)

init_first_lem : (p : Plan) → Plays (init_first p)
unfolding init_first boot_stores calibrating
init_first_lem p =
    plays_then (plays_then (plays_mute (mute_then (mute_then (mute_store 23 1) (mute_store 10 1)) (mute_store 24 1)))
    (plays_if p.hrc48_calibrate (plays_then (plays_mute leaves_hrc48) plays_calibrate) (plays_mute mute_idle))) swallows

dll2 : (m : Option Dll) → Plays (planned_dll2 m)
unfolding set_dll2 move_dll2
dll2 None = plays_mute mute_idle
dll2 (Some d) =
    plays_on_head (λ (h : Head) (a : List ℕ). set_dll2_on d a h)
    (λ h. plays_if (is_set d (reg h 4)) (plays_mute mute_idle) (plays_then (plays_then (plays_mute (mute_store 5 0)) (dll 4 d)) (plays_mute (mute_store 5 _))))

init_rest_lem : (p : Plan) → Plays (init_rest p)
unfolding init_rest planned_usb planned_muxes
init_rest_lem p =
    plays_then (plays_then (dll2 p.dll2) (plays_mute (mute_if p.usb (mute_then (mute_store 8 _) (mute_store 7 _)) mute_idle)))
    (plays_mute (mute_then (mute_then (mute_store 6 _) (mute_store 10 _)) (mute_store 9 0)))

pub plays_init : (p : Plan) → Plays (init p)
unfolding init boot init_clock
plays_init p =
    plays_on_head (λ (h : Head) (a : List ℕ). init_on p a h)
    (λ h. plays_then begins (plays_if (eqb h.boot_mode 3) (plays_mute mute_idle)
    (plays_then (init_first_lem p) (plays_then (plays_then (plays_mute (divides p)) (plays_to_plan p)) (init_rest_lem p)))))

-- LPSYS
pub plays_wake : Plays wake
unfolding wake wake_first count_up
plays_wake =
    plays_then (plays_then (plays_then (plays_then (plays_mute (mute_then (mute_store 33 1) (mute_delay 230))) (plays_wait 6)) (plays_mute (mute_delay 30))) (plays_wait 6))
    (plays_mute (mute_head (λ (h : Head). counted ((h.wake_count + 1) % 256) h)))

pub plays_hxt48 : Plays hxt48_ready
unfolding hxt48_ready request_hxt48 request_lpsys_hxt48
plays_hxt48 =
    plays_then
    (plays_on_head (λ (h : Head) (a : List ℕ). request_hxt48_unless a h.hxt48_ready)
    (λ h. plays_if h.hxt48_ready (plays_mute mute_idle) (plays_then (plays_mute (mute_store 22 1)) plays_wait_hxt48)))
    (plays_on_head (λ (h : Head) (a : List ℕ). request_lpsys_hxt48_unless a h.lpsys_hxt48_ready)
    (λ h. plays_if h.lpsys_hxt48_ready (plays_mute mute_idle) (plays_then (plays_mute (mute_store 32 1)) plays_wait_lpsys_hxt48)))
