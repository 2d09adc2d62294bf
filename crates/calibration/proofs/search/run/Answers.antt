-- `calibration::search::run` meets its contract: each turn keeps the invariant, or ends the search.
use native.Mathlib.Omega.{arith}
use mathlib.Core.Path.{sym, ◌∙◌}
use Rattle.calibration.proofs.search.Turns.{last_turn, short_turn, good_turn, next_turn}
use Rattle.calibration.proofs.search.run.Goals.{Else-is_some}
use Rattle.calibration.proofs.search.run.Goals as goal

pub returns-then-is_some : goal.returns-then-is_some
returns-then-is_some c = short_turn c.loop.invariant (omega (arith, c.loop-test.true)) c.measurement.ensures.does (sym c.is_some.ensures ∙ c.if-is_some.true)

pub returns-then-cnt_diff-lt64 : goal.returns-then-cnt_diff-lt64
returns-then-cnt_diff-lt64 c =
    good_turn c.loop.invariant (omega (arith, c.loop-test.true)) c.measurement.ensures.does c.difference-cnt_diff.ensures
    (omega (arith, c.if-cnt_diff-lt64.true)) c.judged.ensures

pub loop-preserved : goal.loop-preserved
loop-preserved c =
    next_turn c.loop.invariant (omega (arith, c.loop-test.true)) c.measurement.ensures.does c.difference-cnt_diff.ensures
    c.next_trim-ct_val.ensures (omega (arith, c.if-cnt_diff-lt64.false))

pub returns : goal.returns
returns c = last_turn c.loop.invariant (omega (arith, c.loop-test.false)) c.judged-2.ensures
