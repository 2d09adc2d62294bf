-- `call::clocks::clocks_after` meets its contract: the test picks the case.
use mathlib.Core.Path.{sym, ◌∙◌}
use borrow.Author.Tests.{eq-eqb}
use Rattle.refusal.proofs.Numbers.{none_is_0}
use Rattle.call.proofs.clocks.clocks_after.Goals as goal

pub returns : goal.returns
returns c = rw (eq-eqb _ _ (none_is_0 c.args.m.now.stop (sym c.if-is_some.ensures))) (c.numbers.ensures ∙ c.read_hpsys_clocks_from_hw.ensures)
