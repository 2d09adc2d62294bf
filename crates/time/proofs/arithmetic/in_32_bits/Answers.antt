-- `time::arithmetic::in_32_bits` meets its contract: the test picks the case of `exact`.
use native.Mathlib.Omega.{arith}
use borrow.Author.Tests.{lt-ltb, le-ltb}
use Rattle.time.specs.arithmetic.{exact}
use Rattle.time.proofs.arithmetic.in_32_bits.Goals as goal

pub returns-then-hertz-lt4294967296 : goal.returns-then-hertz-lt4294967296
unfolding exact
returns-then-hertz-lt4294967296 c = simp (lt-ltb c.args.hertz 4294967296 (omega (arith, c.if-hertz-lt4294967296.true)))

pub returns-else-hertz-lt4294967296 : goal.returns-else-hertz-lt4294967296
unfolding exact
returns-else-hertz-lt4294967296 c = simp (le-ltb c.args.hertz 4294967296 (omega (arith, c.if-hertz-lt4294967296.false)))
