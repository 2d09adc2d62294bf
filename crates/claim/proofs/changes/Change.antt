-- Every moment of a guarded change from a fit head is fit, and what the change leaves.
use Prim.Native.Nat.{ℕ, ◌≤◌, ◌<◌}
use mathlib.Core.Path.{◌≡◌, refl, ap, sym, ◌∙◌}
use mathlib.Core.Bool.{true, false}
use mathlib.Core.List.{List}
use native.Mathlib.Omega.{arith}
use Rattle.plan.specs.declared.Plan.{Plan}
use Rattle.plan_clocks.specs.Clocks.{hclk_hz}
use Rattle.verdict.proofs.Passed.{Passed}
use Rattle.register.specs.Numbers.{SYSCLK, HPSYS_CFGR, DLL1}
use Rattle.head.specs.declared.Head.{Head}
use Rattle.head.specs.Encodable.{Encodable}
use Rattle.clock_read.specs.Hpsys.{reg, hertz, sys_of, hclk_of}
use Rattle.fit.specs.Fit.{fits}
use Rattle.journal.specs.Run.{Run, begin}
use Rattle.journal.proofs.Moments.{Moments, moments_begin, moments_now}
use Rattle.dvfs.specs.declared.hpsys.HpsysDvfsMode.{HpsysDvfsMode}
use Rattle.fit.specs.rail.{limit_hz}
use Rattle.core_clock.specs.dividers.{dividers}
use Rattle.core_clock.specs.CoreClock.{planned_dll1}
use Rattle.guard_steps.specs.peak.{mode_at, peak_of}
use Rattle.guard_steps.specs.supply.{raise}
use Rattle.guard_steps.specs.Steps.{leave_dll1, to_hxt48, to_planned, back_to}
use Rattle.guard_change.specs.Change.{steps, change}
use Rattle.claim.specs.Moment.{head_with, SafeAt, Ready, stop_for, taken_for}
use Rattle.claim.proofs.changes.WholeMegahertz.{codes_of_lem, present_clock, target_clock, peak_is}
use Rattle.claim.proofs.changes.Rails.{rail_most}
use Rattle.claim.proofs.changes.View.{Regs, view, Fit, fit_safe, begun}
use Rattle.claim.proofs.changes.Progress.{stored_by_change, Progress}
use Rattle.claim.proofs.changes.Supply.{raise_safe, target_rails_safe}
use Rattle.claim.proofs.changes.Core.{leave_safe, to_hxt48_safe, dll1_safe, dividers_safe, Planned, planned_safe, back_safe}

-- a head's core select, dividers and DLL1 are a plan's
abbrev pub AsPlanned : Plan → Head → Type 0
AsPlanned p h = Planned p (reg h SYSCLK) (reg h HPSYS_CFGR) (reg h DLL1)

-- what a guarded change with the plan `p` and the answers `a` leaves of the head `h`
pub record Changed (h : Head) (p : Plan) (a : List ℕ) (r : Run) : Type 0 where
  -- "At every moment, before the first store and after each one"
  pub moments : Moments (SafeAt h) h.regs r
  -- only registers are changed: flags and tasks are as they were
  pub rest : r.head ≡ head_with h r.head.regs
  -- and of them those that a change stores
  pub others : (k : ℕ) → stored_by_change k ≡ false → reg r.head k ≡ reg h k
  -- the head that is left has a record, and is fit
  pub encodable : Encodable r.head
  pub fit : fits r.head ≡ true
  -- 0 or 36, and the answers taken
  pub stop : r.stop ≡ stop_for p.dll1 a
  pub taken : r.taken ≡ taken_for p.dll1 a
  -- "a change answered done leaves HCLK at its plan's"
  pub clock : r.stop ≡ 0 → hclk_of r.head ≡ hertz (hclk_hz p)
  -- and core select, dividers and DLL1 too
  pub planned : r.stop ≡ 0 → AsPlanned p r.head

module _ (h : Head) (p : Plan) (a : List ℕ) (ok : Encodable h) (fit : fits h ≡ true) (accepted : Passed p) (ready : Ready p h) where
  abbrev w : ℕ
  w = reg h 5

  -- where the steps end: at the plan's HCLK, with its registers
  abbrev Ends : ℕ → Run → Type 0
  Ends top = Progress h (stop_for p.dll1 a) (taken_for p.dll1 a) (hclk_hz p) top (λ (x : Regs). Planned p (x 1) (x 2) (x 3))

  -- the steps, from a peak whose limit is at least each of the three
  steps_safe : (m : HpsysDvfsMode) (f : ℕ) → 0 < f → f ≤ limit_hz m → 48000000 ≤ limit_hz m → limit_hz (mode_at (hclk_hz p)) ≤ limit_hz m → Fit h f f (view h.regs) →
      Ends (limit_hz (mode_at (hclk_hz p))) (steps m w p a (begin h))
  steps_safe m f pos here wide there b =
      let c0 : Progress h 0 0 f f (λ (x : Regs). x 5 ≡ w) (begin h) = record {
        kept = record { moments = moments_begin (SafeAt h) h (fit_safe h h.regs ok.words b); rest = refl; others = λ k q. refl; encodable = ok };
        stops = refl;
        takes = refl;
        here = λ z. (b, refl);
      } in
      let r1 = raise m (begin h) in
      let c1 = raise_safe h (λ (s v d flash : ℕ). flash ≡ w) m pos here wide (begin h) c0 in
      let r2 = leave_dll1 r1 in
      let c2 = leave_safe h w r1 c1 in
      let r3 = to_hxt48 r2 in
      let c3 = to_hxt48_safe h w ready.hxt48 wide r2 c2 in
      let r4 = planned_dll1 p.dll1 a r3 in
      let c4 = dll1_safe h w a p.dll1 (codes_of_lem p accepted.test_3).stage r3 c3 in
      let r5 = dividers p r4 in
      let c5 = dividers_safe h p accepted ready w wide r4 c4 in
      let r6 = to_planned p r5 in
      let c6 = planned_safe h p accepted ready w there r5 c5 in
      let c7 = back_safe h w (Planned p) (ok.codes 5 (omega arith)) r6 c6 in
      target_rails_safe h (λ (s v d flash : ℕ). Planned p s v d) (mode_at (hclk_hz p)) (target_clock p accepted) there wide (back_to w r6) c7

  -- what they come to
  left : {top : ℕ} (r : Run) → Ends top r → Changed h p a r
  unfolding hclk_of sys_of
  left r c = record {
    moments = c.kept.moments;
    rest = c.kept.rest;
    others = c.kept.others;
    encodable = c.kept.encodable;
    fit = ap fits c.kept.rest ∙ (moments_now (SafeAt h) h.regs r c.kept.moments).fit;
    stop = c.stops;
    taken = c.takes;
    clock = λ z. ap hclk_of c.kept.rest ∙ (c.here (sym c.stops ∙ z)).0.reads;
    planned = λ z. (c.here (sym c.stops ∙ z)).1;
  }

  -- From a fit head, with an accepted plan and its sources ready, every moment of the guarded change is fit.
  pub change_moments : Changed h p a (change p a (begin h))
  unfolding change
  change_moments =
      let b = begun h fit in
      let c = present_clock h ok b.hz b.at in
      let k = peak_is b.hz (hclk_hz p) in
      let here : b.hz ≤ limit_hz (peak_of b.hz (hclk_hz p)) = omega (arith, c.clean (omega (arith, rail_most (reg h 12) (reg h 13) (reg h 14) (reg h 15) (reg h 16))), k.from) in
      rw b.at (left _ (steps_safe (peak_of b.hz (hclk_hz p)) b.hz c.positive here k.half k.to b.fit))
