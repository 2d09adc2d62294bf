-- `plan::bytes::decode` meets its contract: a record that is not refused has the 20 bytes that its fields are read from.
use borrow.Author.Tests.{ne_eqb}
use mathlib.Core.Path.{refl, sym}
use Rattle.refusal.proofs.Exits.{handed_on}
use Rattle.refusal.proofs.Numbers.{not_0}
use Rattle.plan.specs.bytes.{decoded}
use Rattle.plan.proofs.bytes.WellFormed.{well_formed}
use Rattle.plan.proofs.bytes.decode.Goals as goal

pub returns-in_err-test : goal.returns-in_err-test
unfolding decoded
returns-in_err-test c =
    rw (handed_on _ _ c.from_residual.ensures.1, ← c.in_err-test.ensures, ne_eqb _ _ (not_0 c.in_err-test.field-0.0)) refl

pub fields-requires : goal.fields-requires
fields-requires c = (well_formed _ (sym c.in_ok-test.ensures)).bytes

pub returns : goal.returns
unfolding decoded
returns c = simp (← c.in_ok-test.ensures, c.fields.ensures)
