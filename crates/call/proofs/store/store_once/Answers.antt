-- `call::store::store_once` meets its contract: the shared tests, the caller's, then the store.
use native.Mathlib.Omega.{arith}
use mathlib.Core.Path.{sym, ap, ◌∙◌}
use mathlib.Core.List.{[], ◌∷◌}
use Rattle.refusal.specs.Refusal.{number_of}
use Rattle.record.proofs.Refusals.{only_test}
use Rattle.call.proofs.Admitting.{lent_journal}
use Rattle.call.proofs.Ending.{call_unadmitted, call_refused, call_ran}
use Rattle.call.proofs.store.store_once.Goals as goal

pub returns-in_err-m : goal.returns-in_err-m
returns-in_err-m c = call_unadmitted c.in_err-m.ensures (number_of c.args.test ∷ []) _ _ c.from_residual.ensures.1

pub returns-in_err-test : goal.returns-in_err-test
returns-in_err-test c =
    call_refused c.in_ok-m.ensures (number_of c.args.test ∷ []) _ _ _ (sym (only_test _ ∙ ap number_of c.in_err-test.was)) c.from_residual-in_err-test.ensures.1

pub store-requires-clause-lent : goal.store-requires-clause-lent
store-requires-clause-lent c = lent_journal c.in_ok-m.ensures (omega arith)

pub returns : goal.returns
returns c =
    call_ran c.in_ok-m.ensures (number_of c.args.test ∷ []) (only_test _ ∙ ap number_of c.in_ok-test.was) c.store.ensures.ran c.finish.ensures
