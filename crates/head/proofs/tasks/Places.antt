-- The tasks without the one of an id are those before and those after its place, which a look-up finds.
use Prim.Native.Nat.{ℕ, zero, suc, ◌-◌, ◌<◌}
use mathlib.Core.Path.{◌≡◌, ap}
use mathlib.Core.List.{List, [], ◌∷◌, ◌++◌}
use native.Mathlib.Omega.{arith}
use borrow.Author.Tests.{eq-eqb, ne_eqb}
use lib.ListN.{length, take, drop}
use Rattle.task.specs.declared.Task.{Task}
use Rattle.task.proofs.look_up.Laws.{At, HitAfter}
use Rattle.head.specs.declared.Head.{Head}
use Rattle.head.specs.Head.{booked}
use Rattle.head.specs.tasks.{without, without_task, without_place}

apart : (id : ℕ) (ts : List Task) (at : ℕ) → at < length ts → At id ts at → ((k : ℕ) → k < at → At id ts k → ⊥) → without id ts ≡ take at ts ++ drop (suc at) ts
unfolding without
apart id [] at l has first = absurd (omega (arith, l))
apart id (t ∷ ts) zero l has first = rw (eq-eqb t.id id has)
apart id (t ∷ ts) (suc at) l has first =
    rw (ne_eqb t.id id (first 0 (omega arith))) (ap (λ (l : List Task). t ∷ l) (apart id ts at (omega (arith, l)) has (λ k h. first (suc k) (omega (arith, h)))))

-- the last task that was read on a hit is the one to take out
pub without_hit : (id : ℕ) (h : Head) (read : ℕ) → HitAfter id (booked h) read → without_place (read - 1) h ≡ without_task id h
without_hit id h read hit =
    let place : read - 1 ≡ hit.place = omega (arith, hit.count) in
    rw (place, apart id (booked h) hit.place hit.within hit.has hit.first)
