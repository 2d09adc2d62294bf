-- A call on a head, as lines record it.
use Rattle.std.specs.Prelude.{ℕ, List}
use Rattle.call.specs.Call.{Left}

-- what a call leaves of a head's buffer and a journal, given an argument's bytes and answers; the clocks that it leaves of the former
-- ones, given the same; and how many clocks it is lent
pub record Definition : Type 0 where
  pub result_of : List ℕ → List ℕ → List ℕ → List ℕ → Left
  pub clocks_after : List ℕ → List ℕ → List ℕ → List ℕ → List ℕ → List ℕ
  pub lent_clocks : ℕ
