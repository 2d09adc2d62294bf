-- `lpsys_request::slow::refuse_unread` meets its contract: 43 where LPSYS HCLK does not read, else nothing.
use Rattle.head.specs.declared.Head.{Head}
use Rattle.clock_read.specs.lpsys.{lpsys_hclk_of}
use Rattle.journal.proofs.Does.{alone_nothing}
use Rattle.lpsys_request.specs.slow.{unless_read, refuse_unread}
use Rattle.lpsys_request.proofs.slow.Laws.{alone_by_head}
use Rattle.lpsys_request.proofs.slow.refuse_unread.Goals as goal

pub returns-in-Some : goal.returns-in-Some
unfolding refuse_unread
returns-in-Some c = alone_by_head (λ (h : Head). unless_read (lpsys_hclk_of h)) (rw (← c.in-Some.ensures) (alone_nothing c.requires))

pub returns-in-None : goal.returns-in-None
unfolding refuse_unread
returns-in-None c = alone_by_head (λ (h : Head). unless_read (lpsys_hclk_of h)) (rw (← c.in-None.ensures) c.refuse.ensures)
