-- A line that records what a call is given and leaves, compared with a text and a journal.
use Rattle.std.specs.Prelude.{ℕ, ◌≤◌, ◌<◌, ◌≡◌, List, length, take, get_or, Result, Ok, Err}
use Rattle.recorded_answer.specs.declared.Difference.{Difference}
use Rattle.recorded_answer.specs.declared.Difference.TheVariants.{Answer, Overwritten}

-- our answer, where the line has another, is what stands in the text
abbrev pub Shows : Result (Unit {0}) Difference → List ℕ → Type 0
Shows (Ok same) answer = Unit
Shows (Err (Answer shown)) answer = shown.now ≡ answer
Shows (Err Overwritten) answer = Unit

-- what each word of the journal holds before a call
abbrev pub unused : ℕ
unused = 2779096485

-- the words from `from` on still hold it
abbrev pub Keeps : List ℕ → ℕ → Type 0
Keeps journal from = (i : ℕ) → from ≤ i → i < length journal → get_or journal i 0 ≡ unused

-- a line equals the text up to `end`, and the journal is kept from `entries` on
pub record Matches (line journal : List ℕ) (entries : ℕ) (text : List ℕ) (end : ℕ) : Type 0 where
  pub text_is : line ≡ take end text
  pub whole : end < length text
  pub kept : Keeps journal entries
