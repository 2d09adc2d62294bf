-- `task::list::all_ok` meets its contract: each task is tested at its place.
use mathlib.Core.Path.{◌∙◌}
use native.Mathlib.Omega.{arith}
use Prim.Native.Nat.{ℕ, ◌*◌}
use lib.ListN.{drop}
use Rattle.std.proofs.Common.{rules, tests}
use Rattle.std.proofs.lemmas.Iterator.{YieldsList-from_range}
use Rattle.std.proofs.lemmas.Iterator.Search.{all_from_yields_List}
use Rattle.task.specs.Task.{task_ok}
use Rattle.task.specs.bytes.{task_in}
use Rattle.task.proofs.list.Rest.{all_by_place}
use Rattle.task.proofs.list.all_ok.Goals as goal

pub returns : goal.returns
returns c =
    let n = c.args.count in
    let size = c.args.size in
    let b = c.args.bytes.now in
    all_from_yields_List (λ (i : ℕ). task_ok (task_in (drop (size * i) b))) _ _ _ c.all.ensures.ran (YieldsList-from_range 0 n n (cc) (omega arith)) (λ x b q k. search (rules, tests))
    ∙ all_by_place size b n n 0 (omega arith)
