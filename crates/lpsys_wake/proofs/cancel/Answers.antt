-- `lpsys_wake::cancel` meets its contract: the request is cleared where the count was 1.
use native.Mathlib.Omega.{arith}
use borrow.Author.Tests.{eq-eqb, ne_eqb}
use Rattle.journal.proofs.Does.{◌then◌, by_head, does_nothing, beside, lent_after}
use Rattle.lpsys_wake.specs.Wake.{cancel_on, cancel}
use Rattle.lpsys_wake.proofs.cancel.Goals as goal

pub returns-then-count-eq1 : goal.returns-then-count-eq1
unfolding cancel
returns-then-count-eq1 c =
    let one = eq-eqb c.args.m.now.head.wake_count 1 c.if-count-eq1.true in
    by_head cancel_on (rw one (beside c.count_down.ensures then c.store.ensures))

pub returns-else-count-eq1 : goal.returns-else-count-eq1
unfolding cancel
returns-else-count-eq1 c =
    let done = beside c.count_down.ensures in
    let other = ne_eqb c.args.m.now.head.wake_count 1 c.if-count-eq1.false in
    by_head cancel_on (rw other (done then does_nothing {k = 1} (lent_after (omega arith) c.requires done)))
