-- `record::within` meets its contract: the chain gives each byte beside its largest value.
use mathlib.Core.Path.{◌∙◌}
use mathlib.Core.Bool.{true, ◌&&◌}
use lib.Dec.{leb}
use borrow.Author.Tests.{tests}
use Rattle.std.proofs.Common.{rules}
use native.Mathlib.Omega.{arith}
use Rattle.std.proofs.lemmas.Iterator.{YieldsList-from_slice, YieldsList-from_zip}
use Rattle.std.proofs.lemmas.Iterator.Consumers.{fold_from_yields_List}
use Rattle.record.proofs.Bytes.{within_fold, within_apart}
use Rattle.record.proofs.within.Goals as goal

pub returns-then-bytes-largest : goal.returns-then-bytes-largest
returns-then-bytes-largest c =
    let bytes = c.args.bytes.now in
    let largest = c.args.largest.now in
    fold_from_yields_List
    _ (λ all p. all && leb p.0 p.1) true c.fold.result c.fold.ensures.ran
    (YieldsList-from_zip (YieldsList-from_slice bytes cc) (YieldsList-from_slice largest cc))
    (λ a x r q k. search (rules, tests))
    ∙ within_fold true bytes largest c.if-bytes-largest.true

pub returns-else-bytes-largest : goal.returns-else-bytes-largest
returns-else-bytes-largest c = grind (arith, within_apart)
