-- `clock_lpsys::dividers::config_lpsys_mac_clock` meets its contract: it has no test of its own.
use Rattle.call.proofs.store.Tests.{no_own_test}
use Rattle.clock_lpsys.specs.dividers.{config_mac}
use Rattle.lpsys_tests.proofs.words.Fits.{mac_fits}
use borrow.Author.Rules.{rules}
use Rattle.clock_lpsys.proofs.dividers.config_lpsys_mac_clock.Goals as goal

pub store_once-requires : goal.store_once-requires
store_once-requires c = (search rules, λ z. rw c.mac_word-word.ensures (mac_fits _ _ (search rules) (search rules)))

pub returns : goal.returns
unfolding config_mac
returns c = rw (c.mac_word-word.ensures, no_own_test) at c.store_once.ensures
