-- `head::to_bytes::encode` meets its contract: the four parts of the record, written one after the other.
use mathlib.Core.Path.{◌∙◌}
use Rattle.head.proofs.from_bytes.Parts.{record_laid}
use native.Mathlib.Omega.{arith}
use borrow.Author.Rules.{rules}
use Rattle.head.proofs.to_bytes.encode.Goals as goal

pub returns : goal.returns
returns c =
    c.write-2.ensures
    ∙ rw (c.booked.ensures, c.write_state.ensures, c.write.ensures, c.write_front.ensures)
    (record_laid c.args.head.now (search rules) (omega (arith, c.requires)) c.args.buffer.now (omega (arith, c.requires)))
