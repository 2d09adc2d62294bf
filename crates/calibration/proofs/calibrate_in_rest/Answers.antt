-- `calibration::calibrate_in_rest` meets its contract: calibration only appends, so that the rest of the journal serves.
use Prim.Native.Nat.{◌+◌}
use mathlib.Core.Path.{◌≡◌}
use native.Mathlib.Omega.{arith}
use Rattle.journal.proofs.Framed.{ran_lent}
use Rattle.calibration.proofs.Laws.{framed_calibrate}
use Rattle.calibration.proofs.calibrate_in_rest.Goals as goal

pub returns : goal.returns
returns c =
    let done = c.calibrate_hrc48.ensures in
    let place : c.args.m.now.at + c.calibrate_hrc48.new.m.at ≡ c.calibrate_hrc48.new.m.at + c.args.m.now.at = omega arith in
    record { ran = rw place at (ran_lent {j = c.args.journal.now} (framed_calibrate _) done.ran); room = omega (arith, done.room); encodable = done.encodable; answers = done.answers }
