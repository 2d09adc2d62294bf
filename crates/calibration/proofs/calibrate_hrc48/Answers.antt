-- `calibration::calibrate_hrc48` meets its contract: the flag picks the case.
use native.Mathlib.Omega.{arith}
use Rattle.calibration.specs.Calibration.{calibrate_hrc48_on, calibrate_hrc48}
use Rattle.journal.proofs.Does.{does_within, by_head, takes_none, beside}
use Rattle.calibration.proofs.calibrate_hrc48.Goals as goal

pub returns-then-m : goal.returns-then-m
unfolding calibrate_hrc48
returns-then-m c = by_head (calibrate_hrc48_on _) (simp c.if-m.true c.calibrate.ensures)

pub returns-else-m : goal.returns-else-m
unfolding calibrate_hrc48
returns-else-m c =
    let refused = takes_none c.requires (beside c.refuse.ensures) in
    by_head (calibrate_hrc48_on _) (simp c.if-m.false (does_within (omega arith) refused))
