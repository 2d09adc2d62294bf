-- `task::look_up::look_up` meets its contract: the place of the first task that has the id says how many were read.
use mathlib.Core.Path.{◌≡◌, ap, ◌∙◌}
use lib.ListN.{length}
use Rattle.task.specs.look_up.{look_up}
use Rattle.std.proofs.Common.{rules, tests}
use Rattle.std.proofs.lemmas.Iterator.{YieldsList-from_slice}
use Rattle.std.proofs.lemmas.Iterator.Search.{position_from_yields_List}
use Rattle.task.proofs.look_up.Walk.{has, told, look_up_by_place}
use Rattle.task.proofs.look_up.look_up.Goals.{After-position}
use Rattle.task.proofs.look_up.look_up.Goals as goal

-- what the place says is the look-up
by_place : (c : After-position) → told (length c.args.tasks.now) c.position.result ≡ look_up c.args.id c.args.tasks.now
by_place c =
    let tasks = c.args.tasks.now in
    let at = position_from_yields_List (has c.args.id) _ _ _ c.position.ensures.ran (YieldsList-from_slice tasks (cc)) (λ x b q k. search (rules, tests)) in
    ap (told (length tasks)) at ∙ look_up_by_place c.args.id tasks

pub returns-in-Some : goal.returns-in-Some
returns-in-Some c = rw c.in-Some.is at (by_place (goal.at.returns-in-Some c).After-position)

pub returns-in-None : goal.returns-in-None
returns-in-None c = rw c.in-None.is at (by_place (goal.at.returns-in-None c).After-position)
