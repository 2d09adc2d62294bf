-- `journal::delay_us` meets its contract: the cycles where HCLK reads, 34 where it does not.
use native.Mathlib.Omega.{arith}
use mathlib.Core.Path.{sym, subst, ◌∙◌}
use Rattle.clock_read.proofs.Most.{Most, most_at, most_hclk}
use Rattle.journal.proofs.Does.{does_as, beside}
use Rattle.journal.proofs.Delays.{delay_reads, delay_unread}
use Rattle.journal.proofs.delay_us.Goals as goal

pub returns-in_default : goal.returns-in_default
returns-in_default c =
    let unread = sym c.get_hclk_freq.ensures ∙ c.in_default.is in
    does_as (delay_unread _ _ unread) (omega arith) (beside c.refuse.ensures)

pub cycles-requires : goal.cycles-requires
cycles-requires c =
    let reads = sym c.get_hclk_freq.ensures ∙ c.in-Some.is in
    (most_at (subst (Most 384000000) reads (most_hclk _ c.requires.lent.encodable)), c.requires.us_bound)

pub returns : goal.returns
returns c =
    let reads = sym c.get_hclk_freq.ensures ∙ c.in-Some.is in
    does_as (λ r q. rw c.cycles.ensures.0 (delay_reads _ _ _ reads r q)) (omega arith) c.write.ensures
