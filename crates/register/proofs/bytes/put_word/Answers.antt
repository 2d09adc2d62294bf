-- `register::bytes::put_word` meets its contract: three stores in a row.
use native.Mathlib.Omega.{arith}
use native.Mathlib.Numerals.{add-one, add-two}
use Rattle.register.specs.Word.{word_bytes}
use Rattle.record.proofs.Laid.{laid_sets}
use Rattle.register.proofs.bytes.put_word.Goals as goal

pub returns : goal.returns
unfolding word_bytes
returns c = simp (c.to_be_bytes.ensures, add-one, add-two) (laid_sets c.args.at (word_bytes c.args.word) c.args.buffer.now (omega arith))
