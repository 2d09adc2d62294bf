-- How large a share and a load are, and how they are rounded and summed.
use Rattle.std.specs.Int.{div_ceil}
use Rattle.std.specs.List.{sum_by}
use Rattle.std.proofs.lemmas.Grind.{div_ceil_times}
use Rattle.std.proofs.lemmas.List.Sums.{sum_by-cons}
use Rattle.std.proofs.Math.Nat.{div-eq_of_lt-le}
use mathlib.Core.Path.{◌≡◌, refl, sym, ap, ◌∙◌}
use Prim.Native.Nat.{ℕ, suc, ◌+◌, ◌*◌, ◌-◌, ◌/◌, ◌<◌, ◌≤◌, ◌^◌}
use native.Mathlib.Nat.{le_trans, div-le_self}
use native.Mathlib.Omega.{arith}
use mathlib.Core.Bool.{Bool, true, false, cond}
use mathlib.Core.List.{List, [], ◌∷◌}
use lib.ListN.{length, get_or}
use lib.Dec.{eqb}
use Rattle.task.specs.declared.Task.{Task}
use Rattle.task.specs.Task.{no_task, InBytes}
use Rattle.load.specs.Load.{share_of, load_of}

abbrev pub most : ℕ
most = 4294971590967296

picks_le : (t : Bool) (a b n : ℕ) → a ≤ n → b ≤ n → cond t a b ≤ n
picks_le true a b n p q = p
picks_le false a b n p q = q

pub share_small : (c p : ℕ) → c < 2 ^ 32 → p < 2 ^ 32 → share_of c p ≤ most
unfolding share_of
share_small c p gc gp = picks_le (eqb p 0) 0 ((c * 1000000 + (p - 1)) / p) most (omega arith) (le_trans (div-le_self (c * 1000000 + (p - 1)) p) (omega (arith, gc, gp)))

-- rounded up by what is left over, or by what is added before
pub rounded_up : (a p : ℕ) → (p ≡ 0 → ⊥) → div_ceil a p ≡ (a + (p - 1)) / p
rounded_up a p z =
    let h : 0 < p = omega (arith, z) in
    let up = div_ceil_times a p h in
    sym (div-eq_of_lt-le p (omega (arith, up)) (omega (arith, up)))

-- a load is a sum of shares
abbrev pub share_of_task : Task → ℕ
share_of_task t = share_of t.cycles t.period

pub sum_load : (ts : List Task) → sum_by share_of_task ts ≡ load_of ts
unfolding load_of
sum_load [] = refl
sum_load (t ∷ ts) = sum_by-cons share_of_task t ts ∙ ap (λ (n : ℕ). share_of_task t + n) (sum_load ts)

-- the load of at most 16 tasks leaves the top bit of its 64 free
few_small : (ts : List Task) → ((k : ℕ) → k < length ts → InBytes (get_or ts k no_task)) → load_of ts ≤ length ts * most
unfolding load_of
few_small [] each = omega arith
few_small (t ∷ ts) each =
    let first = each 0 (omega arith) in
    omega (arith, share_small t.cycles t.period first.cycles first.period, few_small ts (λ k h. each (suc k) (omega (arith, h))))

pub load_small : (ts : List Task) → length ts ≤ 16 → ((k : ℕ) → k < length ts → InBytes (get_or ts k no_task)) → load_of ts < 2 ^ 63
load_small ts few each = omega (arith, few, few_small ts each)
