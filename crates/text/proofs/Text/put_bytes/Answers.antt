use borrow.Author.Tests.{eqb-true, eqb-false}
use mathlib.Core.Path.{sym}
use Rattle.text.proofs.Putting.{puts_none}
use Rattle.text.proofs.HexLaws.{field_none, puts_hex, puts_field}
use Rattle.text.specs.Hex.{hex_of}
use native.Mathlib.Omega.{arith}
use Rattle.text.proofs.Text.put_bytes.Goals as goal

pub returns-then-is_empty : goal.returns-then-is_empty
returns-then-is_empty c = rw (field_none 2 c.args.bytes.now (eqb-true _ _ (sym c.if-is_empty.ensures))) c.put.ensures

pub loop-byte-init : goal.loop-byte-init
unfolding hex_of
loop-byte-init c = puts_none _ _ (omega arith)

pub loop-byte-preserved : goal.loop-byte-preserved
loop-byte-preserved c =
    let l = c.loop-byte in
    puts_hex 2 c.args.bytes.now l.byte-index l.invariant (rw (c.digits.ensures, c.from.ensures) at c.put-in-loop-byte.ensures) (omega arith)

pub returns : goal.returns
returns c =
    puts_field 2 c.args.bytes.now c.loop-byte.byte-index c.put-2.ensures c.loop-byte.invariant (omega (arith, eqb-false _ _ (sym c.if-is_empty.ensures))) (omega arith)
