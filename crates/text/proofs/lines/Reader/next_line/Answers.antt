use Rattle.std.proofs.Common.{arith}
use Rattle.text.proofs.Taking.{takes_byte, no_feed_byte}
use Rattle.text.proofs.lines.Reader.next_line.Goals as goal

pub loop-length-preserved : goal.loop-length-preserved
loop-length-preserved g c =
    let l = c.loop-length in
    let plain = no_feed_byte l.line l.length c.in-Some.byte (omega arith) l.invariant.2 (omega arith) in
    let byte = c.in_ok-next_byte.ensures.byte in (
      omega arith,
      (omega arith, omega arith),
      plain,
      λ h. takes_byte _ _ _ _ _ _ l.line l.length c.in-Some.byte (omega arith) (l.invariant.3 (omega arith)) (rw c.in-Some.is at (byte (omega arith))),
    )
