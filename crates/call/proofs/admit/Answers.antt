-- `call::admit` meets its contract: 17 before the head's tests.
use borrow.Author.Tests.{lt-ltb, le-ltb}
use Rattle.record.specs.Refusals.{first_of}
use Rattle.call.proofs.Admitting.{admits_refused, admits_as}
use Rattle.call.proofs.admit.Goals as goal

pub returns-then-journal-lt-JOURNAL_WORDS : goal.returns-then-journal-lt-JOURNAL_WORDS
unfolding first_of
returns-then-journal-lt-JOURNAL_WORDS c = admits_refused (simp (lt-ltb _ _ c.if-journal-lt-JOURNAL_WORDS.true))

pub returns : goal.returns
unfolding first_of
returns c = admits_as (simp (le-ltb _ _ c.if-journal-lt-JOURNAL_WORDS.false)) c.admit_head.ensures
