-- `calibration::measure::measurement` meets its contract: a measurement that was not cut short took two answers.
use native.Mathlib.Omega.{arith}
use mathlib.Core.Path.{◌≡◌, sym, ap, ◌∙◌}
use Rattle.refusal.specs.Refusal.{number_or_zero}
use Rattle.refusal.proofs.Numbers.{none_at_0}
use Rattle.journal.proofs.Present.{ran_store_stop}
use Rattle.journal.proofs.Does.{◌then◌, lent_after}
use Rattle.calibration.proofs.measure.measurement.Goals as goal

pub returns-clause-le_taken : goal.returns-clause-le_taken
returns-clause-le_taken c =
    let done = c.store.ensures then c.delay_us.ensures then c.store-2.ensures then c.measure.ensures.does in
    let left = lent_after {n = 1} (omega arith) c.requires.lent done in
    let taken : c.store-3.new.self.taken ≡ c.measure.new.m.taken = c.store-3.ensures.answers in
    let stop = ran_store_stop 21 0 c.store-3.ensures.ran (omega (arith, left.room)) in
    λ z. rw taken (c.measure.ensures.le_taken (none_at_0 (sym stop ∙ ap number_or_zero z)))
