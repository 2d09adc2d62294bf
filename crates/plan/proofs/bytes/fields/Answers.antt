-- `plan::bytes::fields` meets its contract: each field is what `plan_of` reads at its place.
use Rattle.plan.specs.bytes.{plan_of}
use Rattle.plan.proofs.bytes.fields.Goals as goal

pub returns : goal.returns
unfolding plan_of
returns c = simp (c.dll-2.ensures, c.dll.ensures)
