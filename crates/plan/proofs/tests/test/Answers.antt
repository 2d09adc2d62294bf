-- `plan::tests::test` meets its contract: the tests passed on the way pick the case of `record_refusal`.
use borrow.Author.Tests.{eq-eqb, ne_eqb}
use Rattle.record.specs.Refusals.{first_of}
use Rattle.plan.specs.tests.{record_refusal}
use Rattle.plan.proofs.tests.test.Goals as goal

pub returns-then-bytes-ne-BYTES : goal.returns-then-bytes-ne-BYTES
unfolding record_refusal first_of
returns-then-bytes-ne-BYTES c = simp (ne_eqb _ _ c.if-bytes-ne-BYTES.true)

pub returns-then-two_bytes-ne-LENGTH : goal.returns-then-two_bytes-ne-LENGTH
unfolding record_refusal first_of
returns-then-two_bytes-ne-LENGTH c = simp (eq-eqb _ _ c.if-bytes-ne-BYTES.false, ← c.two_bytes.ensures, ne_eqb _ _ c.if-two_bytes-ne-LENGTH.true)

pub returns-then-bytes-ne-VERSION : goal.returns-then-bytes-ne-VERSION
unfolding record_refusal first_of
returns-then-bytes-ne-VERSION c =
    simp (eq-eqb _ _ c.if-bytes-ne-BYTES.false, ← c.two_bytes.ensures, eq-eqb _ _ c.if-two_bytes-ne-LENGTH.false, ne_eqb _ _ c.if-bytes-ne-VERSION.true)

pub returns-then-not-is_coded : goal.returns-then-not-is_coded
unfolding record_refusal first_of
returns-then-not-is_coded c =
    simp (eq-eqb _ _ c.if-bytes-ne-BYTES.false, ← c.two_bytes.ensures, eq-eqb _ _ c.if-two_bytes-ne-LENGTH.false, eq-eqb _ _ c.if-bytes-ne-VERSION.false, ← c.is_coded.ensures, c.if-not-is_coded.true)

pub returns : goal.returns
unfolding record_refusal first_of
returns c =
    simp (eq-eqb _ _ c.if-bytes-ne-BYTES.false, ← c.two_bytes.ensures, eq-eqb _ _ c.if-two_bytes-ne-LENGTH.false, eq-eqb _ _ c.if-bytes-ne-VERSION.false, ← c.is_coded.ensures, c.if-not-is_coded.false)
