-- `clock_lpsys::dividers::set_lpsys_div` meets its contract: exponents that are not refused fit their register.
use mathlib.Core.Path.{sym, ◌∙◌}
use Rattle.clock_lpsys.specs.dividers.{set_lpsys_div}
use Rattle.lpsys_tests.proofs.words.Fits.{div_fits}
use borrow.Author.Rules.{rules}
use Rattle.clock_lpsys.proofs.dividers.set_lpsys_div.Goals as goal

pub store_once-requires : goal.store_once-requires
store_once-requires c = (search rules, λ z. rw c.div_word-word.ensures (div_fits _ _ _ (search rules) (sym c.test_div-test.ensures ∙ z)))

pub returns : goal.returns
unfolding set_lpsys_div
returns c = rw (c.div_word-word.ensures, c.test_div-test.ensures) at c.store_once.ensures
