-- `core_clock::switch::config_hcpu_dvfs` meets its contract: the modes pick the case of `transition`.
use native.Mathlib.Omega.{arith}
use mathlib.Core.Path.{◌≡◌, sym}
use mathlib.Core.List.{List}
use Prim.Native.Nat.{ℕ}
use Rattle.head.specs.declared.Head.{Head}
use Rattle.plan.specs.declared.Plan.{Plan}
use Rattle.journal.specs.Run.{Effect}
use Rattle.time.specs.Frequency.{megahertz, hz_or}
use Rattle.plan_clocks.specs.Clocks.{hclk_hz}
use Rattle.clock_read.specs.Hpsys.{hclk_of}
use Rattle.dvfs.specs.Hpsys.{mode_of}
use Rattle.core_clock.specs.switch.{transition, to_plan}
use Rattle.core_clock.proofs.Readings.{hz_or_is}
use Rattle.journal.proofs.Does.{does_within, by_head, takes_none, beside}
use Rattle.core_clock.proofs.switch.config_hcpu_dvfs.Goals.{After-from_hertz-target, in_default-via-in-Some+in_default, in_default-via-in_default}
use Rattle.core_clock.proofs.switch.config_hcpu_dvfs.Goals as goal

-- `to_plan` by the head; the modes that the two calls of `from_hertz` found
abbrev by : Plan → List ℕ → Head → Effect
by p a h = transition (mode_of (megahertz (hz_or 48000000 (hclk_of h)))) (mode_of (megahertz (hclk_hz p))) p a

present : (c : After-from_hertz-target) → mode_of (megahertz (hz_or 48000000 (hclk_of c.args.m.now.head))) ≡ c.from_hertz-current.result
present c =
    simp (← c.get_hclk_freq.ensures, hz_or_is c.get_hclk_freq.result (record { 0 = 48000000 }), ← c.unwrap_or-current_hclk.ensures) (sym c.from_hertz-current.ensures)

planned : (c : After-from_hertz-target) → mode_of (megahertz (hclk_hz c.args.p)) ≡ c.from_hertz-target.result
planned c =
    simp (← c.requires.p_value.1) (sym c.from_hertz-target.ensures)

pub returns-in_default : goal.returns-in_default
unfolding to_plan
returns-in_default c =
    let found = (goal.at.returns-in_default c).After-from_hertz-target in
    let refused = takes_none c.requires.lent (beside {j = c.args.journal.now} c.refuse.ensures) in
    by_head (by c.args.p c.args.answers.now)
    (elim c.in_default.branch [
      | in_default-via-in-Some+in_default w ↦ rw (present found, planned found, w.in_default.is-0, w.in_default.is-1) (does_within (omega arith) refused)
      | in_default-via-in_default w ↦ rw (present found, w.in_default.is-0) (does_within (omega arith) refused)
    ])
