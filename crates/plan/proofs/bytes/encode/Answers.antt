-- `plan::bytes::encode` meets its contract: each element is what `encoded` has at its place.
use Rattle.plan.specs.Plan.{encoded}
use Rattle.plan.proofs.codes.Laws.{bool_byte_is}
use Rattle.plan.proofs.bytes.encode.Goals as goal

pub returns : goal.returns
unfolding encoded
returns c =
    simp (
      c.from-2.ensures,
      c.from.ensures,
      bool_byte_is,
      c.half-2.ensures,
      c.stage-2.ensures,
      c.present-2.ensures,
      c.half.ensures,
      c.stage.ensures,
      c.present.ensures,
    )
