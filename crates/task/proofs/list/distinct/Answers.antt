use Prim.Native.Nat.{◌+◌, ◌*◌}
use mathlib.Core.Path.{◌≡◌, sym, ◌∙◌}
use mathlib.Core.Bool.{true, false}
use native.Mathlib.Omega.{arith}
use lib.ListN.{get_or, drop}
use Rattle.task.specs.Task.{has_id}
use Rattle.task.proofs.list.Rest.{tasks, distinct_step, distinct_none}
use Rattle.task.proofs.list.distinct.Goals as goal

pub returns-then-has_id : goal.returns-then-has_id
returns-then-has_id c =
    let b = c.args.bytes.now in
    let size = c.args.size in
    let found : has_id (get_or b (size * c.loop-i.i) 0) (drop (c.loop-i.i + 1) (tasks size b c.args.count)) ≡ true = sym c.has_id.ensures ∙ c.if-has_id.true in
    sym (sym c.loop-i.invariant ∙ (distinct_step size b c.args.count c.loop-i.i (omega arith) ∙ rw found))

pub loop-i-preserved : goal.loop-i-preserved
loop-i-preserved c =
    let b = c.args.bytes.now in
    let size = c.args.size in
    let none : has_id (get_or b (size * c.loop-i.i) 0) (drop (c.loop-i.i + 1) (tasks size b c.args.count)) ≡ false = sym c.has_id.ensures ∙ c.if-has_id.false in
    sym (rw none at (distinct_step size b c.args.count c.loop-i.i (omega arith))) ∙ c.loop-i.invariant

pub returns : goal.returns
returns c = sym (sym c.loop-i.invariant ∙ distinct_none c.args.size c.args.bytes.now c.args.count c.loop-i.i (omega arith))
