-- `waits::first_ready` meets its contract: the place of the first ready answer among those left.
use mathlib.Core.Path.{◌∙◌}
use lib.Seq.{take_all}
use lib.ListN.{length, drop, length-drop}
use Rattle.std.proofs.Common.{rules, tests, arith}
use Rattle.std.proofs.lemmas.Iterator.{YieldsList-from_slice}
use Rattle.std.proofs.lemmas.Iterator.Search.{position_from_yields_List}
use Rattle.journal.specs.Run.{poll}
use Rattle.waits.specs.Found.{Found}
use Rattle.waits.proofs.Polls.{ready, place, found_by_place}
use Rattle.waits.proofs.first_ready.Goals.{After-position}
use Rattle.waits.proofs.first_ready.Goals as goal

by_place : (c : After-position) → Found c.args.answers.now c.args.from (place c.args.from (length c.args.answers.now) c.position.result) (poll (drop c.args.from c.args.answers.now))
by_place c =
    let a = c.args.answers.now in
    let from = c.args.from in
    let at = position_from_yields_List ready _ _ _ c.position.ensures.ran
    (YieldsList-from_slice (drop from a) (c.iter.ensures.rest ∙ take_all _ (drop from a) (simp length-drop (omega arith)))) (λ x b q k. search (rules, tests)) in
    rw at (found_by_place a from (omega arith))

pub returns-in-Some : goal.returns-in-Some
returns-in-Some c = rw c.in-Some.is at (by_place (goal.at.returns-in-Some c).After-position)

pub returns-in-None : goal.returns-in-None
returns-in-None c = rw c.in-None.is at (by_place (goal.at.returns-in-None c).After-position)
