-- `lpsys_request::hdiv::set_hdiv` meets its contract: the two exponents stay.
use Rattle.journal.proofs.Does.{by_head}
use Rattle.lpsys_request.specs.hdiv.{set_hdiv_on, set_hdiv}
use Rattle.lpsys_request.proofs.hdiv.set_hdiv.Goals as goal

pub returns : goal.returns
unfolding set_hdiv
returns c = by_head (set_hdiv_on c.args.hdiv) (simp (c.word-word.ensures, c.from.ensures, c.b.ensures, c.c.ensures) at c.store.ensures)
