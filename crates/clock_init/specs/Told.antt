-- What the code's warning is.
use Rattle.std.specs.Prelude.{◌≡◌, ℕ, List}
use Rattle.plan.specs.declared.Plan.{Plan}
use Rattle.journal.specs.declared.Machine.{Machine}
use Rattle.journal.specs.Run.{Run}
use Rattle.journal.specs.Machine.{Reached}
use Rattle.clock_init.specs.Init.{init_warning}

-- `w` is the warning of an `init` from the machine `m`
pub record Told (p : Plan) (a : List ℕ) (m : Machine) (j : List ℕ) (w : ℕ) : Type 0 where
  pub told : (r : Run) (j₀ : List ℕ) → Reached r j₀ m j → w ≡ init_warning p a r
