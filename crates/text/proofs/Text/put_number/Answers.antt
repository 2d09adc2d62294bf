use Rattle.text.proofs.DecimalLaws.{decimal_is}
use native.Mathlib.Omega.{arith}
use mathlib.Core.Path.{◌∙◌}
use Rattle.text.proofs.Text.put_number.Goals as goal

pub returns : goal.returns
returns c = rw (c.as_bytes.ensures.value ∙ c.format.ensures.text ∙ decimal_is c.args.number (omega arith)) at c.put.ensures
