-- The code's state of a running call, and what it means that code does an effect.
use Rattle.std.specs.Prelude.{ℕ, ◌+◌, ◌≤◌, ◌≡◌, List, ◌++◌, length, drop}
use Rattle.refusal.specs.Refusal.{number_or_zero}
use Rattle.head.specs.declared.Head.{Head}
use Rattle.head.specs.Encodable.{Encodable}
use Rattle.journal.specs.declared.Machine.{Machine}
use Rattle.journal.specs.Run.{Run, Effect}

-- what a machine holds, its refusal by number
pub record State : Type 0 where
  pub head : Head
  pub at : ℕ
  pub taken : ℕ
  pub stop : ℕ

abbrev pub state_of : Machine → State
state_of m = record { head = m.head; at = m.at; taken = m.taken; stop = number_or_zero m.stop }

-- the machine of a run
abbrev pub machine_of : Run → State
machine_of r = record { head = r.head; at = length r.entries; taken = r.taken; stop = r.stop }

-- the machine `m` and the journal `j` are where the run `r` is; the journal held `j₀` before the call
pub record Reached (r : Run) (j₀ : List ℕ) (m : Machine) (j : List ℕ) : Type 0 where
  pub machine : state_of m ≡ machine_of r
  pub journal : j ≡ r.entries ++ drop (length r.entries) j₀

-- from `m` and `j` the code comes to `m'` and `j'`, as the effect `f` says, wherever the run was
pub record Ran (f : Effect) (m m' : Machine) (j j' : List ℕ) : Type 0 where
  pub does : (r : Run) (j₀ : List ℕ) → Reached r j₀ m j → Reached (f r) j₀ m' j'

-- the same of code that is lent no journal
abbrev pub RanWithoutJournal : Effect → Machine → Machine → Type 0
RanWithoutJournal f m m' = (j : List ℕ) → Ran f m m' j j

-- the answers that a function over the machine may take: none, or those of a lent list
pub data Answers : Type 0 where
  none : Answers
  taking : List ℕ → Answers

-- no more answers are taken than are lent, and at most 4096 are lent
abbrev pub InHand : Answers → Machine → Type 0
InHand none m = Unit {0}
InHand (taking a) m = (m.taken ≤ length a) × (length a ≤ 4096)

-- what becomes of them: a function that is lent none takes none
abbrev pub Took : Answers → Machine → Machine → Type 0
Took none m m' = m'.taken ≡ m.taken
Took (taking a) m m' = InHand (taking a) m'

-- what a function over the machine `m` asks: the journal `j`, and the answers, are lent to it
pub record Lent (k : ℕ) (m : Machine) (j : List ℕ) (a : Answers) : Type 0 where
  -- the journal has room for `k` entries more
  pub room : m.at + k ≤ length j
  -- the head is one that its record holds
  pub encodable : Encodable m.head
  -- the answers taken so far are of those lent
  pub answers : InHand a m

-- what it promises: it does the effect `f`, from the machine `m` and the journal `j` to `m'` and `j'`
pub record Does (k : ℕ) (f : Effect) (m m' : Machine) (j j' : List ℕ) (a : Answers) : Type 0 where
  -- machine and journal follow the effect
  pub ran : Ran f m m' j j'
  -- at most `k` entries are written
  pub room : m'.at ≤ m.at + k
  -- the head is still one that its record holds
  pub encodable : Encodable m'.head
  -- the answers taken are of those lent
  pub answers : Took a m m'

-- the same of a function that is lent no journal: it writes no entry and takes no answer
pub record DoesWithoutJournal (f : Effect) (m m' : Machine) : Type 0 where
  pub ran : RanWithoutJournal f m m'
  pub room : m'.at ≤ m.at
  pub encodable : Encodable m'.head
  pub answers : m'.taken ≡ m.taken
