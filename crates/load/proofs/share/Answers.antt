-- `load::share` meets its contract: the test says which case of `share_of` holds.
use Prim.Native.Nat.{◌*◌}
use borrow.Author.Tests.{eq-eqb, ne_eqb}
use Rattle.load.specs.Load.{share_of}
use Rattle.load.proofs.Sums.{rounded_up}
use Rattle.load.proofs.share.Goals as goal

pub returns-then-period-eq0-clause-share : goal.returns-then-period-eq0-clause-share
unfolding share_of
returns-then-period-eq0-clause-share c = simp (eq-eqb _ _ c.if-period-eq0.true)

pub returns-clause-share : goal.returns-clause-share
unfolding share_of
returns-clause-share c =
    let up = rounded_up (c.args.cycles * 1000000) c.args.period c.if-period-eq0.false in
    rw (ne_eqb _ _ c.if-period-eq0.false) cc
