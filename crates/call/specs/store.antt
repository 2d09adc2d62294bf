-- What a call that does one store leaves, on the bytes lent to it.
use Rattle.std.specs.Prelude.{ℕ, List, [], ◌∷◌}
use Rattle.journal.specs.Run.{store}
use Rattle.call.specs.Call.{Left, journal_call}

-- "Calls test 17, 18, the head's 1 to 3, then the rest.": the rest is one test, which came to `refusal`; then the store of `v` in register `n`
abbrev pub store_call : ℕ → ℕ → ℕ → List ℕ → List ℕ → Left
store_call refusal n v b j = journal_call (refusal ∷ []) (store n v) 0 b j
