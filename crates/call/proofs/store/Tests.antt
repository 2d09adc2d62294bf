-- The caller's own test of a call that does one store.
use Prim.Native.Nat.{ℕ}
use mathlib.Core.Path.{◌≡◌, sym, ◌∙◌}
use mathlib.Core.List.{List, [], ◌∷◌, ◌++◌}
use Rattle.record.specs.Refusals.{first_of}
use Rattle.record.proofs.Refusals.{first_append}

-- a call that has no test of its own
pub no_own_test : (ts : List ℕ) → first_of (ts ++ 0 ∷ []) ≡ first_of (ts ++ [])
unfolding first_of
no_own_test ts = first_append ts (0 ∷ []) ∙ sym (first_append ts [])
