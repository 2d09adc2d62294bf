-- `waits::hxt48::wait_lpsys_hxt48` meets its contract: the flag picks the case of `wait_lpsys_hxt48`.
use native.Mathlib.Omega.{arith}
use mathlib.Core.Path.{◌≡◌, ap, sym, ◌∙◌}
use mathlib.Core.Bool.{true, false}
use Rattle.journal.specs.Run.{Run, wait_lpsys_hxt48}
use Rattle.journal.specs.Machine.{State, state_of, machine_of}
use Rattle.journal.proofs.Does.{◌then◌, does_as, takes_none, beside}
use Rattle.waits.proofs.hxt48.wait_lpsys_hxt48.Goals as goal

pub returns-then-m : goal.returns-then-m
unfolding wait_lpsys_hxt48
returns-then-m c =
    let flag : (r : Run) → state_of c.args.m.now ≡ machine_of r → r.head.lpsys_hxt48_ready ≡ true =
    λ r q. ap (λ (w : State). w.head.lpsys_hxt48_ready) (sym q) ∙ c.if-m.true in
    does_as (λ r q. simp (flag r q)) (omega arith) (takes_none c.requires c.wait_none.ensures)

pub returns : goal.returns
unfolding wait_lpsys_hxt48
returns c =
    let flag : (r : Run) → state_of c.args.m.now ≡ machine_of r → r.head.lpsys_hxt48_ready ≡ false =
    λ r q. ap (λ (w : State). w.head.lpsys_hxt48_ready) (sym q) ∙ c.if-m.false in
    does_as (λ r q. simp (flag r q)) (omega arith) (c.wait_for.ensures then beside c.set_lpsys_hxt48.ensures)
