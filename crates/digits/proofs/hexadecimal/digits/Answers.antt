use Rattle.std.proofs.Common.{arith, ◌∙◌, sym, length-set}
use Rattle.digits.proofs.Glyphs.{put_digit, none_put}
use Rattle.digits.proofs.hexadecimal.digits.Goals as goal

pub loop-i-preserved : goal.loop-i-preserved
loop-i-preserved g c =
    let l = c.loop-i in
    (simp length-set (omega arith), rw c.glyph.ensures (put_digit _ _ l.rest l.glyphs (omega arith) (omega arith) ∙ l.invariant.1))

pub returns : goal.returns
returns g c = let l = c.loop-i in sym (none_put l.i l.rest l.glyphs (omega arith)) ∙ l.invariant.1
