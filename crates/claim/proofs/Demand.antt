-- Demand 3, proved.
use Prim.Native.Nat.{ℕ}
use mathlib.Core.Path.{◌≡◌, refl}
use mathlib.Core.List.{List, [], ◌∷◌}
use Rattle.task.specs.declared.Task.{Task}
use Rattle.head.specs.Head.{booked}
use Rattle.head.specs.Record.{head_of}
use Rattle.claim.specs.Claim.{Call, changing, booking, releasing, requesting, perform, Typed, AllTyped, after, Claim, FitHead, Demand3}
use Rattle.claim.proofs.Performed.{Fine}
use Rattle.claim.proofs.Calls.{guarded, books, releases, requests}

-- one call
pub one : (b : List ℕ) → FitHead b → (ts : List Task) → booked (head_of b) ≡ ts → (c : Call) → Typed c → Fine b c (perform c b) ts
one b fit ts holds (changing pb j a) typed = guarded b fit ts holds pb j a
one b fit ts holds (booking t) typed = books b fit ts holds t typed
one b fit ts holds (releasing id) typed = releases b fit ts holds id
one b fit ts holds (requesting f j) typed = requests b fit ts holds f j

-- and a list of them, each on the head that the one before returned
all : (b : List ℕ) → FitHead b → (ts : List Task) → booked (head_of b) ≡ ts → (cs : List Call) → AllTyped cs → Claim b ts cs
all b fit ts holds [] typed = tt
all b fit ts holds (c ∷ cs) typed =
    let f = one b fit ts holds c typed.0 in
    (f.good, all (perform c b).buffer f.next (after c (perform c b).refusal ts) f.good.tasks cs typed.1)

pub demand_3 : Demand3
demand_3 b fit cs typed = all b fit (booked (head_of b)) refl cs typed
