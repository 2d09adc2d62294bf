-- A call lent some answers, and the same call lent more. Who plays a journal on the chip may make the stores of the first, poll, and go on.
use Rattle.std.specs.Prelude.{ℕ, ◌+◌, ◌*◌, ◌≡◌, List, [], ◌∷◌, ◌++◌}
use Rattle.journal.specs.Run.{entry, ready_after, poll}
use Rattle.call.specs.Call.{Left}
use Rattle.guard.specs.Guard.{change_refusal, change_call}
use Rattle.claim.specs.Claim.{entries_of}

-- answers that end any wait, and any measurement with its two counts
abbrev pub ends_any_wait : List ℕ
ends_any_wait = 1 ∷ 0 ∷ 0 ∷ []

-- "Number 49 is a wait that ended"
pub record BeginsWithWait (entries : List ℕ) : Type 0 where
  pub value : ℕ
  pub behind : List ℕ
  pub first : entries ≡ entry 49 value ∷ behind

-- `o'` is the call lent the answers `x` more: its journal begins with that of `o`; where `o` did not run out of answers, "36 answers run out
-- in a wait or measurement", it is no other; and where it did, the next entry is that of the wait that it was in, if `x` ends any wait
pub record GoesOn (x : List ℕ) (o o' : Left) : Type 0 where
  pub rest : List ℕ
  pub entries : entries_of o' ≡ entries_of o ++ rest
  pub next : o.refusal ≡ 36 → x ≡ ends_any_wait → BeginsWithWait rest
  pub whole : (o.refusal ≡ 36 → ⊥) → (o'.refusal ≡ o.refusal) × (o'.buffer ≡ o.buffer) × (o'.journal ≡ o.journal)

-- the journal of a guarded change around its wait, which is for DLL1: "Number 49 is a wait that ended: a is its kind (.. 3 DLL1 ..), b and c
-- the answers taken". `before`, `behind` and the bytes that are left are the same whatever is answered.
pub record AroundWait (pb b j : List ℕ) : Type 0 where
  pub before : List ℕ
  pub behind : List ℕ
  pub left : List ℕ
  -- one that runs out of answers has written what comes before the wait
  pub cut : (a : List ℕ) → change_refusal pb b j a ≡ 0 → (change_call pb b j a).refusal ≡ 36 → entries_of (change_call pb b j a) ≡ before
  -- one that finds DLL1 ready after `n` answers goes on with the wait's entry and the rest
  pub ready : (a : List ℕ) (n : ℕ) → change_refusal pb b j a ≡ 0 → poll a ≡ ready_after n →
      (entries_of (change_call pb b j a) ≡ before ++ (entry 49 (3 * 65536 + n) ∷ behind)) × ((change_call pb b j a).buffer ≡ left)
