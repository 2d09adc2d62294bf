use borrow.Author.Tests.{eqb-true, eqb-false}
use mathlib.Core.Path.{sym}
use Rattle.text.proofs.Putting.{puts_none}
use Rattle.text.proofs.HexLaws.{field_none, puts_hex, puts_field}
use Rattle.text.specs.Hex.{hex_of}
use native.Mathlib.Omega.{arith}
use Rattle.text.proofs.Text.put_words.Goals as goal

pub returns-then-is_empty : goal.returns-then-is_empty
returns-then-is_empty c = rw (field_none 8 c.args.words.now (eqb-true _ _ (sym c.if-is_empty.ensures))) c.put.ensures

pub loop-word-init : goal.loop-word-init
unfolding hex_of
loop-word-init c = puts_none _ _ (omega arith)

pub loop-word-preserved : goal.loop-word-preserved
loop-word-preserved c =
    let l = c.loop-word in
    puts_hex 8 c.args.words.now l.word-index l.invariant (rw c.digits.ensures at c.put-in-loop-word.ensures) (omega arith)

pub returns : goal.returns
returns c =
    puts_field 8 c.args.words.now c.loop-word.word-index c.put-2.ensures c.loop-word.invariant (omega (arith, eqb-false _ _ (sym c.if-is_empty.ensures))) (omega arith)
