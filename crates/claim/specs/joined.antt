-- Calls that the code makes one after the other on one head's bytes.
use Rattle.std.specs.Prelude.{ℕ, ◌≡◌, List, [], ◌∷◌}
use Rattle.head.specs.Head.{booked}
use Rattle.head.specs.Record.{head_of}
use Rattle.call.specs.Call.{Answer, Answers}
use Rattle.claim.specs.Claim.{Call, perform, FitHead, Claim}

-- what the code answered to each call and left in that call's journal, and the bytes that are left in the end, are what the calls perform
abbrev pub Performs : List ℕ → List Call → List (Answer × List ℕ) → List ℕ → Type 0
Performs b [] [] b' = b' ≡ b
Performs b (c ∷ cs) (r ∷ rs) b' = Answers (perform c b) r.0 (perform c b).buffer r.1 × Performs (perform c b).buffer cs rs b'
Performs b [] (r ∷ rs) b' = ⊥
Performs b (c ∷ cs) [] b' = ⊥

-- and the claim about the list
pub record Joined (b : List ℕ) (cs : List Call) (rs : List (Answer × List ℕ)) (b' : List ℕ) : Type 0 where
  pub performs : Performs b cs rs b'
  pub claim : FitHead b → Claim b (booked (head_of b)) cs
