-- `booking::book` meets its contract: the head's tests, the booking's own, then the head with its task.
use mathlib.Core.Path.{sym, ap, ◌∙◌}
use native.Mathlib.Omega.{arith}
use Rattle.record.specs.Refusals.{first_of}
use Rattle.task.specs.declared.Task.{Task}
use Rattle.task.specs.Task.{InBytes}
use Rattle.head.specs.declared.Head.{Head}
use Rattle.head.specs.tasks.{with_task}
use Rattle.call.proofs.Admitting.{head_is}
use Rattle.call.proofs.Ending.{call_unadmitted, call_refused}
use Rattle.call.proofs.Changed.{call_changed}
use Rattle.booking.specs.tests.{book_tests}
use Rattle.booking.specs.Booking.{book}
use Rattle.booking.proofs.Laws.{passed_41, passed_encodable}
use Rattle.booking.proofs.book.Goals as goal

pub returns-in_err-m : goal.returns-in_err-m
unfolding book
returns-in_err-m c = call_unadmitted c.in_err-m.ensures _ _ _ c.from_residual.ensures.1

pub returns-in_err-test : goal.returns-in_err-test
unfolding book
returns-in_err-test c =
    let args = c.args in
    let t : Task = record { id = args.id; cycles = args.cycles; period = args.period } in
    let first = c.in_err-test.ensures ∙ ap (λ (h : Head). first_of (book_tests t h)) (head_is c.in_ok-m.ensures) in
    call_refused c.in_ok-m.ensures _ _ _ _ first c.from_residual-in_err-test.ensures.1

pub book-requires-clause-count_lt_most_tasks : goal.book-requires-clause-count_lt_most_tasks
book-requires-clause-count_lt_most_tasks c = passed_41 _ _ (sym c.in_ok-test.ensures) c.in_ok-m.ensures.encodable

pub finish-requires-clause-encodable : goal.finish-requires-clause-encodable
finish-requires-clause-encodable c =
    let args = c.args in
    let t : Task = record { id = args.id; cycles = args.cycles; period = args.period } in
    let small : InBytes t = record { id = omega arith; cycles = omega arith; period = omega arith } in
    let ok = passed_encodable t _ (sym c.in_ok-test.ensures) c.in_ok-m.ensures.encodable small in
    rw c.book.ensures ok

pub returns : goal.returns
unfolding book
returns c =
    let args = c.args in
    let t : Task = record { id = args.id; cycles = args.cycles; period = args.period } in
    let first = ap (λ (h : Head). first_of (book_tests t h)) (sym (head_is c.in_ok-m.ensures)) ∙ sym c.in_ok-test.ensures in
    call_changed c.in_ok-m.ensures _ (with_task t) first c.book.ensures c.finish.ensures
