-- `calibration::search::run` meets its contract. The loop's invariant: doing the turns left from here does the search.
use Prim.Native.Nat.{◌-◌}
use Rattle.calibration.proofs.search.Turns.{Searching}
use Rattle.calibration.proofs.search.run.Given as goal

abbrev pub invariant-loop : goal.invariant-loop
invariant-loop l = Searching l.answers l.initial.m l.initial.journal l.m l.journal l.ct_val l.step_unit l.cnt_diff l.counter

abbrev pub decreases-loop : goal.decreases-loop
decreases-loop l = 11 - l.counter
