-- `waits::wait_for` meets its contract: the place of the first ready answer says how many were taken.
use Prim.Native.Nat.{◌+◌, ◌-◌}
use native.Mathlib.Omega.{arith}
use mathlib.Core.Path.{◌≡◌, sym}
use lib.ListN.{drop}
use Rattle.journal.specs.Run.{poll, wait}
use Rattle.journal.proofs.Does.{does_ended}
use Rattle.waits.proofs.Polls.{found_hit, found_dry, ran_hit, ran_dry}
use borrow.Author.Rules.{rules}
use Rattle.waits.proofs.wait_for.Goals as goal

pub returns-then-is_some : goal.returns-then-is_some
unfolding wait
returns-then-is_some c = does_ended _ c.requires.lent (sym c.if-is_some.ensures)

pub overflow_sub-journal : goal.overflow_sub-journal
overflow_sub-journal c =
    let found = c.first_ready-i in
    let a = c.args.answers.now in
    let taken = c.args.m.now.taken in
    (found_hit a taken found.result (poll (drop taken a)) found.ensures c.if-i-answers.true).0

pub returns-then-i-answers : goal.returns-then-i-answers
returns-then-i-answers c =
    let m = c.args.m.now in
    let a = c.args.answers.now in
    let i = c.first_ready-i.result in
    let found = found_hit a m.taken i (poll (drop m.taken a)) c.first_ready-i.ensures c.if-i-answers.true in
    let count : m.taken + (i + 1 - m.taken) ≡ i + 1 = omega (arith, found.0) in
    record {
      ran = rw count at (ran_hit m c.args.journal.now a (sym c.if-is_some.ensures) c.args.kind (i + 1 - m.taken) (search rules) found.1);
      room = omega arith;
      encodable = c.requires.lent.encodable;
      answers = (omega arith, c.requires.lent.answers.1);
    }

pub returns-else-i-answers : goal.returns-else-i-answers
returns-else-i-answers c =
    let m = c.args.m.now in
    let a = c.args.answers.now in
    let found = found_dry a m.taken c.first_ready-i.result (poll (drop m.taken a)) c.first_ready-i.ensures c.if-i-answers.false in
    record {
      ran = rw found.0 (ran_dry m _ a (sym c.if-is_some.ensures) c.args.kind found.1);
      room = omega arith;
      encodable = c.requires.lent.encodable;
      answers = (omega arith, c.requires.lent.answers.1);
    }
