-- Answers in a recorded line.
use Rattle.std.specs.Prelude.{ℕ, List, [], ◌∷◌}
use Rattle.record.specs.Bytes.{two_bytes}

-- answers, which stand in a line as two bytes each
unfoldable pub answers_in : List ℕ → List ℕ
answers_in [] = []
answers_in (high ∷ []) = []
answers_in (high ∷ low ∷ bytes) = two_bytes high low ∷ answers_in bytes
