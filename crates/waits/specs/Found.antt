-- What a look through the answers finds.
use Rattle.std.specs.Prelude.{ℕ, ◌+◌, ◌<◌, ◌≡◌, List, length}
use Rattle.journal.specs.Run.{Poll, ready_after, never_ready}

-- `r` is the place of the first ready answer of `a` from `from` on, or past the last, by what polling the rest finds
abbrev pub Found : List ℕ → ℕ → ℕ → Poll → Type 0
Found a from r (ready_after n) = (r < length a) × (from + n ≡ r + 1)
Found a from r never_ready = r ≡ length a
