-- A look-up by the place of the first task that has the id.
use Prim.Native.Nat.{ℕ, ◌+◌}
use mathlib.Core.Path.{◌≡◌, refl, ap, ◌∙◌}
use mathlib.Core.Bool.{Bool, true, false}
use mathlib.Core.List.{List, [], ◌∷◌}
use native.Mathlib.Omega.{arith}
use native.Mathlib.Nat.{add_assoc, zero-add}
use Rattle.std.proofs.lemmas.Iterator.Adapters.{position_from-zero}
use lib.Dec.{eqb}
use lib.ListN.{length}
use Rattle.std.specs.List.{position, position_from}
use Rattle.std.specs.declared.option.Option.{Option}
use Rattle.std.specs.declared.option.Option.TheVariants.{None, Some}
use Rattle.task.specs.declared.Task.{Task}
use Rattle.task.specs.declared.look_up.LookUp.{LookUp}
use Rattle.task.specs.declared.look_up.LookUp.TheVariants.{Hit, Miss}
use Rattle.task.specs.look_up.{after, look_up}

abbrev pub has : ℕ → Task → Bool
has id t = eqb t.id id

-- what a place found says of `n` tasks
abbrev pub told : ℕ → Option ℕ → LookUp
told n (Some at) = Hit (at + 1)
told n None = Miss n

after_none : (l : LookUp) → after 0 l ≡ l
after_none (Hit read) = rw (zero-add read)
after_none (Miss read) = rw (zero-add read)

after_after : (m n : ℕ) (l : LookUp) → after m (after n l) ≡ after (m + n) l
after_after m n (Hit read) = rw (add_assoc m n read)
after_after m n (Miss read) = rw (add_assoc m n read)

module _ (id : ℕ) where
  -- the same of tasks that stand behind `i` others
  abbrev pub Behind : ℕ → List Task → Type 0
  Behind i ts = told (i + length ts) (position_from (has id) i ts) ≡ after i (look_up id ts)

  behind_first : (i : ℕ) (t : Task) (ts : List Task) (b : Bool) → eqb t.id id ≡ b → Behind (i + 1) ts → Behind i (t ∷ ts)
  unfolding look_up
  behind_first i t ts true e later = rw e refl
  behind_first i t ts false e later =
      let n : i + 1 + length ts ≡ i + length (t ∷ ts) = omega arith in
      rw (e, after_after i 1 (look_up id ts), ← n) later

  behind : (i : ℕ) (ts : List Task) → Behind i ts
  unfolding look_up
  behind i [] = refl
  behind i (t ∷ ts) = behind_first i t ts (eqb t.id id) refl (behind (i + 1) ts)

  pub look_up_by_place : (ts : List Task) → told (length ts) (position (has id) ts) ≡ look_up id ts
  look_up_by_place ts = ap (told (length ts)) (position_from-zero (has id) ts) ∙ rw (zero-add, after_none) at (behind 0 ts)
