-- `moment::put` meets its contract: the head's tests, 3, then the head with the stores put in.
use mathlib.Core.Path.{sym}
use Rattle.refusal.specs.declared.Refusal.TheVariants.{Code}
use Rattle.record.proofs.Refusals.{only_test}
use Rattle.call.proofs.Ending.{call_unadmitted, call_refused}
use Rattle.call.proofs.Changed.{call_changed}
use Rattle.moment.specs.Moment.{with_stores, moment}
use Rattle.moment.proofs.Encoded.{stores_encodable}
use Rattle.moment.proofs.put.Goals as goal

pub returns-in_err-m : goal.returns-in_err-m
unfolding moment
returns-in_err-m c = call_unadmitted c.in_err-m.ensures _ _ _ c.from_residual.ensures.1

pub returns-then-not-are_entries : goal.returns-then-not-are_entries
unfolding moment
returns-then-not-are_entries c = call_refused c.in_ok-m.ensures _ Code _ _ (rw (← c.if-not-are_entries.ensures) (sym (only_test 3))) c.from.ensures

pub finish-requires-clause-encodable : goal.finish-requires-clause-encodable
finish-requires-clause-encodable c =
    let ok = stores_encodable c.args.entries.now _ c.in_ok-m.ensures.encodable (sym c.if-not-are_entries.ensures) in
    rw c.with_stores-m.ensures ok

pub returns : goal.returns
unfolding moment
returns c =
    call_changed c.in_ok-m.ensures _ (with_stores c.args.entries.now) (rw (← c.if-not-are_entries.ensures) (only_test 0)) c.with_stores-m.ensures c.finish.ensures
