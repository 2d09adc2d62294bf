-- What the load check answers, case by case.
use Prim.Native.Nat.{ℕ, ◌/◌}
use mathlib.Core.Path.{◌≡◌}
use mathlib.Core.List.{List}
use lib.ListN.{length, take}
use borrow.Author.Tests.{ne_eqb}
use Rattle.record.specs.Items.{items}
use Rattle.record.proofs.Items.{items_length}
use Rattle.task.specs.bytes.{task_in, placed}
use Rattle.task.proofs.bytes.Places.{placed_first}
use Rattle.load.specs.Load.{load_of}
use Rattle.std.specs.Prelude.{Ok, Err}
use Rattle.load.specs.check.{listed_size, listed_tasks, check_refusal, load_check}

module _ (b : List ℕ) where
  -- a refusal gives no load, and no refusal the load of the list
  pub refuses : (n : ℕ) → (n ≡ 0 → ⊥) → check_refusal b ≡ n → Err n ≡ load_check b
  unfolding load_check
  refuses n z e = rw (e, ne_eqb n 0 z)

  pub accepts : check_refusal b ≡ 0 → Ok (load_of (listed_tasks b)) ≡ load_check b
  unfolding load_check
  accepts e = rw e

  -- the first places of those read are the list
  pub first_listed : take (length b / listed_size) (placed (items task_in listed_size (length b / listed_size) b) (length b / listed_size)) ≡ listed_tasks b
  unfolding listed_tasks
  first_listed = placed_first (items task_in listed_size (length b / listed_size) b) (length b / listed_size) (items_length task_in listed_size (length b / listed_size) b)
