-- `call::admit_with_answers` meets its contract: 17 and 18 before the head's tests.
use borrow.Author.Tests.{lt-ltb, le-ltb}
use Rattle.record.specs.Refusals.{first_of}
use Rattle.call.proofs.Admitting.{admits_refused, admits_as}
use Rattle.call.proofs.admit_with_answers.Goals as goal

pub returns-then-journal-lt-JOURNAL_WORDS : goal.returns-then-journal-lt-JOURNAL_WORDS
unfolding first_of
returns-then-journal-lt-JOURNAL_WORDS c = admits_refused (simp (lt-ltb _ _ c.if-journal-lt-JOURNAL_WORDS.true))

pub returns-then-answers-gt-MOST_ANSWERS : goal.returns-then-answers-gt-MOST_ANSWERS
unfolding first_of
returns-then-answers-gt-MOST_ANSWERS c =
    admits_refused (simp (le-ltb _ _ c.if-journal-lt-JOURNAL_WORDS.false, lt-ltb _ _ c.if-answers-gt-MOST_ANSWERS.true))

pub returns : goal.returns
unfolding first_of
returns c = admits_as (simp (le-ltb _ _ c.if-journal-lt-JOURNAL_WORDS.false, le-ltb _ _ c.if-answers-gt-MOST_ANSWERS.false)) c.admit_head.ensures
