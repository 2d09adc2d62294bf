-- A call on a head's bytes: its tests, its run, and what it leaves.
use Rattle.std.specs.Prelude.{ℕ, ◌≡◌, cond, List, [], ◌∷◌, ◌++◌, eqb, ltb, length, drop, Result, Ok, Err, IfOk}
use Rattle.refusal.specs.declared.Refusal.{Refusal}
use Rattle.refusal.specs.Refusal.{number, number_of, number_or_zero}
use Rattle.record.specs.Refusals.{refuse, first_of}
use Rattle.head.specs.Record.{buffer_bytes, head_refusal, head_of, written}
use Rattle.head.specs.Encodable.{Encodable}
use Rattle.head.specs.declared.Head.{Head}
use Rattle.journal.specs.declared.Machine.{Machine}
use Rattle.journal.specs.Run.{Run, Effect, begin, with_head}
use Rattle.journal.specs.Machine.{state_of, machine_of}
use Rattle.call.specs.declared.answer.Done.{Done}
use Rattle.call.specs.declared.answer.Refused.{Refused}

-- "Calls test 17, 18, the head's 1 to 3, then the rest." Of a call that is lent neither a journal nor answers:
abbrev pub head_tests : List ℕ → List ℕ
head_tests b = head_refusal b ∷ []

-- "17 journal under 128 words; .. Calls test 17, 18, the head's 1 to 3, then the rest." Of a call that is lent no answers:
abbrev pub journal_tests : List ℕ → List ℕ → List ℕ
journal_tests b j = refuse 17 (ltb (length j) 128) ∷ head_refusal b ∷ []

-- "18 more than 4,096 answers"; of a call that is lent answers:
abbrev pub answers_tests : List ℕ → List ℕ → List ℕ → List ℕ
answers_tests b j a = refuse 17 (ltb (length j) 128) ∷ refuse 18 (ltb 4096 (length a)) ∷ head_refusal b ∷ []

-- what a call leaves: 0 or its refusal, its value, the entries written and the answers taken, the head's buffer and the journal
pub record Left : Type 0 where
  pub refusal : ℕ
  pub value : ℕ
  pub entries : ℕ
  pub taken : ℕ
  pub buffer : List ℕ
  pub journal : List ℕ

-- a refusal that "changes neither" head nor journal
abbrev pub refused : ℕ → List ℕ → List ℕ → Left
refused n b j = record { refusal = n; value = 0; entries = 0; taken = 0; buffer = b; journal = j }

-- a run that came to its end, or to the refusal that ended it, with its stores kept; "journal words past the last entry keep their content"
abbrev pub finished : Run → ℕ → List ℕ → List ℕ → Left
finished r value b j = record {
  refusal = r.stop;
  value = cond (eqb r.stop 0) value 0;
  entries = length r.entries;
  taken = r.taken;
  buffer = written r.head b;
  journal = r.entries ++ drop (length r.entries) j;
}

-- a call whose tests, in their order, come to `refusal`, and which then runs the effect `f` and answers `value`
unfoldable pub performed : ℕ → Effect → ℕ → List ℕ → List ℕ → Left
performed refusal f value b j = cond (eqb refusal 0) (finished (f (begin (head_of b))) value b j) (refused refusal b j)

-- a call that is lent a journal, with tests of its own after the shared ones
abbrev pub journal_call : List ℕ → Effect → ℕ → List ℕ → List ℕ → Left
journal_call tests f value b j = performed (first_of (journal_tests b j ++ tests)) f value b j

-- a call that is also lent answers
abbrev pub answers_call : Effect → List ℕ → List ℕ → List ℕ → Left
answers_call f b j a = performed (first_of (answers_tests b j a ++ [])) f 0 b j

-- a call that is lent neither, and gives the head as `f` changes it
abbrev pub changing_head : (Head → Head) → Effect
changing_head f r = with_head (f r.head) r

abbrev pub head_call : List ℕ → (Head → Head) → List ℕ → Left
head_call tests f b = performed (first_of (head_tests b ++ tests)) (changing_head f) 0 b []

-- the code's answer: done, or refused
abbrev pub Answer : Type 0
Answer = Result Done Refused

-- its four numbers
abbrev pub refusal_of : Answer → ℕ
refusal_of (Ok done) = 0
refusal_of (Err refused) = number refused.refusal

abbrev pub value_of : Answer → ℕ
value_of (Ok done) = done.value
value_of (Err refused) = 0

abbrev pub entries_of : Answer → ℕ
entries_of (Ok done) = done.entries
entries_of (Err refused) = refused.entries

abbrev pub taken_of : Answer → ℕ
taken_of (Ok done) = done.taken
taken_of (Err refused) = refused.taken

-- the code's answer, the buffer and the journal that it leaves are those that a call leaves
pub record Answers (o : Left) (r : Answer) (b' j' : List ℕ) : Type 0 where
  pub refusal : refusal_of r ≡ o.refusal
  pub value : value_of r ≡ o.value
  pub entries : entries_of r ≡ o.entries
  pub taken : taken_of r ≡ o.taken
  pub buffer : b' ≡ o.buffer
  pub journal : j' ≡ o.journal

-- what the first tests of a call leave: the refusal, or where there is none the call as it begins on the head, which its record holds
pub record Admits (tests : List ℕ) (b : List ℕ) (r : Result Machine Refusal) : Type 0 where
  pub refusal_is : number_of r ≡ first_of tests
  pub begun : IfOk r (λ m. state_of m ≡ machine_of (begin (head_of b)))
  pub encodable : IfOk r (λ m. Encodable m.head)
  pub bytes : first_of tests ≡ 0 → length b ≡ buffer_bytes

-- the answer of an ended call, with its head written back
pub record Finishes (m : Machine) (value : ℕ) (r : Answer) (b b' : List ℕ) : Type 0 where
  pub refusal : refusal_of r ≡ number_or_zero m.stop
  pub value_is : value_of r ≡ cond (eqb (number_or_zero m.stop) 0) value 0
  pub entries : entries_of r ≡ m.at
  pub taken : taken_of r ≡ m.taken
  pub buffer : b' ≡ written m.head b
