-- `booking::look_up` meets its contract: the head's tests, then the look-up among its booked tasks.
use mathlib.Core.Path.{sym, ap, ◌∙◌}
use Rattle.task.specs.look_up.{look_up, value_of}
use Rattle.head.specs.declared.Head.{Head}
use Rattle.head.specs.Head.{booked}
use Rattle.booking.proofs.LookUp.{look_up_refused, look_up_answers}
use Rattle.booking.proofs.look_up.Goals as goal

pub returns-in_err-test : goal.returns-in_err-test
returns-in_err-test c = look_up_refused c.args.id _ c.in_err-test.ensures c.from_residual.ensures.1

pub returns : goal.returns
returns c =
    let found = rw c.booked.ensures at c.look_up.ensures ∙ ap (λ (h : Head). look_up c.args.id (booked h)) c.read-head.ensures in
    look_up_answers c.args.id _ (sym c.in_ok-test.ensures) (c.value.ensures ∙ ap value_of found)
