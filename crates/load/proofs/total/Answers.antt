-- `load::total` meets its contract: what is summed are the shares of the tasks.
use mathlib.Core.Path.{◌∙◌}
use Rattle.std.proofs.Common.{rules, tests}
use Rattle.std.proofs.lemmas.Iterator.{YieldsList-from_slice, YieldsList-from_map}
use Rattle.std.proofs.lemmas.Iterator.Consumers.{sum_by_from_yields_List}
use Rattle.load.proofs.Sums.{share_of_task, sum_load}
use Rattle.load.proofs.total.Goals as goal

pub returns : goal.returns
returns c =
    let ts = c.args.tasks.now in
    sum_by_from_yields_List share_of_task ts c.map.result _ c.sum.ensures.ran
    (YieldsList-from_map _ share_of_task (YieldsList-from_slice ts (cc)) c.map.ensures.closure (λ x r q k. search (rules, tests)))
    ∙ sum_load ts
