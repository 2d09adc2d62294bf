use mathlib.Core.Path.{sym, ◌∙◌}
use borrow.Author.Tests.{eq-eqb, ne_eqb}
use native.Mathlib.Omega.{arith}
use Prim.Native.Nat.{◌*◌}
use lib.ListN.{get_or}
use Rattle.task.proofs.list.Rest.{has_step, has_none}
use Rattle.task.proofs.list.has_id.Goals as goal

pub returns-then-bytes-size : goal.returns-then-bytes-size
returns-then-bytes-size c =
    let b = c.args.bytes.now in
    let found = eq-eqb (get_or b (c.args.size * c.loop-i.i) 0) c.args.id c.if-bytes-size.true in
    sym (sym c.loop-i.invariant ∙ (has_step c.args.size b c.args.count c.loop-i.i (omega arith) c.args.id ∙ rw found))

pub loop-i-preserved : goal.loop-i-preserved
loop-i-preserved c =
    let b = c.args.bytes.now in
    let other = ne_eqb (get_or b (c.args.size * c.loop-i.i) 0) c.args.id c.if-bytes-size.false in
    sym (rw other at (has_step c.args.size b c.args.count c.loop-i.i (omega arith) c.args.id)) ∙ c.loop-i.invariant

pub returns : goal.returns
returns c = sym (sym c.loop-i.invariant ∙ has_none c.args.size c.args.bytes.now c.args.count c.args.id c.loop-i.i (omega arith))
