-- Text that is put together part by part.
use Rattle.std.specs.Prelude.{ℕ, ◌≤◌, ◌<◌, ◌≡◌, List, ◌++◌, length, take}

-- `added` stands in the text from `at` up to `end`, after what stood there before; an end that is the text's says nothing, since
-- there it may have been cut
pub record Puts (added text : List ℕ) (at : ℕ) (text' : List ℕ) (end : ℕ) : Type 0 where
  pub from : at ≤ end
  pub within : end ≤ length text
  pub same : length text' ≡ length text
  pub put : end < length text → take end text' ≡ take at text ++ added
