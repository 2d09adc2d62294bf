-- `waits::measure` meets its contract: the place of the first ready answer says how many were taken, with the two counts.
use Prim.Native.Nat.{◌+◌, ◌-◌}
use native.Mathlib.Omega.{arith}
use mathlib.Core.Path.{◌≡◌, sym}
use lib.ListN.{drop}
use Rattle.journal.specs.Run.{poll, measure}
use Rattle.journal.proofs.Does.{does_ended}
use Rattle.waits.proofs.Polls.{found_hit, found_most, ran_measured, ran_unmeasured}
use borrow.Author.Rules.{rules}
use Rattle.waits.proofs.measure.Goals as goal

pub returns-then-is_some-clause-does : goal.returns-then-is_some-clause-does
unfolding measure
returns-then-is_some-clause-does c = does_ended _ c.requires (sym c.if-is_some.ensures)

pub overflow_add-i : goal.overflow_add-i
overflow_add-i c =
    omega (arith, found_most c.args.answers.now c.args.m.now.taken c.first_ready-i.result (poll (drop c.args.m.now.taken c.args.answers.now)) c.first_ready-i.ensures)

pub overflow_sub-journal : goal.overflow_sub-journal
overflow_sub-journal c =
    let found = c.first_ready-i in
    let a = c.args.answers.now in
    let taken = c.args.m.now.taken in
    omega (arith, (found_hit a taken found.result (poll (drop taken a)) found.ensures (omega arith)).0)

pub returns-then-i-answers-clause-does : goal.returns-then-i-answers-clause-does
returns-then-i-answers-clause-does c =
    let m = c.args.m.now in
    let a = c.args.answers.now in
    let i = c.first_ready-i.result in
    let found = found_hit a m.taken i (poll (drop m.taken a)) c.first_ready-i.ensures (omega arith) in
    let n = i + 1 - m.taken in
    let taken : m.taken + (n + 2) ≡ i + 3 = omega (arith, found.0) in
    let count : n + 2 ≡ i + 3 - m.taken = omega (arith, found.0) in
    let ran = rw (taken, count) at (ran_measured m c.args.journal.now a (sym c.if-is_some.ensures) n (search rules) found.1 (omega (arith, found.0))) in
    record { ran = ran; room = omega arith; encodable = c.requires.encodable; answers = (omega arith, c.requires.answers.1) }

pub returns-else-i-answers-clause-does : goal.returns-else-i-answers-clause-does
returns-else-i-answers-clause-does c =
    let found = c.first_ready-i in
    record {
      ran = ran_unmeasured c.args.m.now _ c.args.answers.now (sym c.if-is_some.ensures) found.result found.ensures c.if-i-answers.false;
      room = omega arith;
      encodable = c.requires.encodable;
      answers = (omega arith, c.requires.answers.1);
    }
