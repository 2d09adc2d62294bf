-- `head::tasks::release` meets its contract: the place is within the booked ones.
use mathlib.Core.Path.{◌∙◌}
use Rattle.head.proofs.tasks.Holding.{less_places, less_count}
use Rattle.head.proofs.tasks.release.Goals as goal

pub returns : goal.returns
returns c =
    let h = c.args.head.now in
    let at = c.args.at in
    rw (c.move_up.ensures ∙ less_places h c.requires.encodable at c.requires.at_lt_count, ← less_count h c.requires.encodable at c.requires.at_lt_count)
