-- A request's entries lie in the journal that it leaves.
use Prim.Native.Nat.{ℕ, ◌≤◌}
use mathlib.Core.List.{List}
use lib.ListN.{length}
use Rattle.call.specs.Call.{Answer, Answers, entries_of}
use Rattle.call.proofs.Entries.{performed_within}
use Rattle.lpsys_request.specs.frequency.{lpsys_request}

pub entries_within : (mhz : ℕ) (b j b' j' : List ℕ) (r : Answer) → Answers (lpsys_request mhz b j) r b' j' → entries_of r ≤ length j'
unfolding lpsys_request
entries_within mhz b j b' j' r x = rw (x.entries, x.journal) (performed_within _ _ _ b j)
