-- A store, as the code makes it.
use Prim.Native.Nat.{ℕ, ◌+◌, ◌<◌}
use mathlib.Core.Path.{◌≡◌, refl, ap, ◌∙◌}
use mathlib.Core.Bool.{false}
use mathlib.Core.List.{List}
use lib.ListN.{length, set, length-append}
use Rattle.std.specs.Option.{is_some}
use Rattle.head.specs.Head.{stored}
use Rattle.journal.specs.declared.Machine.{Machine}
use Rattle.journal.specs.Run.{Run, entry, with_entry, with_head, store}
use Rattle.journal.specs.Machine.{State, Ran}
use Rattle.journal.proofs.Reached.{ran_entry}

pub ran_store : (m : Machine) (j : List ℕ) (n v : ℕ) → is_some m.stop ≡ false → m.at < length j →
    Ran (store n v) m (record { head = stored m.head n v; at = m.at + 1; taken = m.taken; stop = m.stop }) j (set j m.at (entry n v))
unfolding store
ran_store m j n v z h =
    ran_entry (λ (r : Run). with_entry (entry n v) (with_head (stored r.head n v) r)) m _ j (entry n v) z h
    (λ r at. (ap (λ (w : State). record { head = stored w.head n v; at = w.at + 1; taken = w.taken; stop = w.stop }) at ∙ simp length-append, refl))
