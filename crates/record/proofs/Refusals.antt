-- Laws of `first_of`.
use Prim.Native.Nat.{ℕ, suc}
use mathlib.Core.Path.{◌≡◌, refl, sym, ◌∙◌}
use mathlib.Core.Bool.{Bool, true, false, cond, not}
use mathlib.Core.List.{List, [], ◌∷◌, ◌++◌}
use native.Mathlib.Omega.{arith}
use lib.Dec.{eqb}
use borrow.Author.Tests.{eqb-true, eqb-false, eq-eqb, ne_eqb}
use Rattle.record.specs.Refusals.{refuse, first_of}

-- no test, no refusal; a test that finds no fault leaves the answer to the rest
pub no_test : first_of [] ≡ 0
unfolding first_of
no_test = refl

pub no_fault : (n : ℕ) (ns : List ℕ) → first_of (refuse n false ∷ ns) ≡ first_of ns
unfolding first_of
no_fault n ns = refl

-- where nothing is refused, the first test found no fault, and nothing of the rest is refused
none_first : (n m : ℕ) (t : Bool) → eqb n 0 ≡ t → cond t m n ≡ 0 → n ≡ 0
none_first n m true q e = eqb-true n 0 q
none_first n m false q e = e

none_rest : (n m : ℕ) (t : Bool) → eqb n 0 ≡ t → cond t m n ≡ 0 → m ≡ 0
none_rest n m true q e = e
none_rest n m false q e = absurd (eqb-false n 0 q e)

-- so no test of a list found its fault: `search` finds the one that is asked for among them
abbrev pub NoneRefused : List ℕ → Type 0
NoneRefused [] = Unit {0}
NoneRefused (n ∷ ns) = (n ≡ 0) × NoneRefused ns

pub none_refused : (ns : List ℕ) → first_of ns ≡ 0 → NoneRefused ns
unfolding first_of
none_refused [] e = tt
none_refused (n ∷ ns) e = (none_first n (first_of ns) (eqb n 0) refl e, none_refused ns (none_rest n (first_of ns) (eqb n 0) refl e))

-- a refusal that is 0 stands for a test that found no fault
pub not_refused : (n : ℕ) (b : Bool) → refuse (suc n) b ≡ 0 → b ≡ false
not_refused n true e = absurd (omega arith)
not_refused n false e = refl

pub not_refused_unless : (n : ℕ) (b : Bool) → refuse (suc n) (not b) ≡ 0 → b ≡ true
not_refused_unless n true e = refl
not_refused_unless n false e = absurd (omega arith)

-- the last test of a list gives its own answer
pub only_test : (n : ℕ) → first_of (n ∷ []) ≡ n
unfolding first_of
only_test n = by (eqb n 0) refl
  where
    by : (t : Bool) → eqb n 0 ≡ t → cond t 0 n ≡ n
    by true e = sym (eqb-true n 0 e)
    by false e = refl

-- the tests of one list, then those of another
pub first_append : (ms ns : List ℕ) → first_of (ms ++ ns) ≡ cond (eqb (first_of ms) 0) (first_of ns) (first_of ms)
unfolding first_of
first_append [] ns = refl
first_append (m ∷ ms) ns = by (eqb m 0) refl (first_append ms ns)
  where
    by : (t : Bool) → eqb m 0 ≡ t → first_of (ms ++ ns) ≡ cond (eqb (first_of ms) 0) (first_of ns) (first_of ms) →
        cond t (first_of (ms ++ ns)) m ≡ cond (eqb (cond t (first_of ms) m) 0) (first_of ns) (cond t (first_of ms) m)
    by true e h = h
    by false e h = rw e

-- where the first list refuses, and where it does not
pub first_refuses : (ms ns : List ℕ) → (first_of ms ≡ 0 → ⊥) → first_of (ms ++ ns) ≡ first_of ms
first_refuses ms ns e = first_append ms ns ∙ rw (ne_eqb (first_of ms) 0 e)

pub first_passes : (ms ns : List ℕ) → first_of ms ≡ 0 → first_of (ms ++ ns) ≡ first_of ns
first_passes ms ns e = first_append ms ns ∙ rw (eq-eqb (first_of ms) 0 e)

-- what holds of no refusal and of each of a list holds of the first
abbrev pub Each : (ℕ → Type 0) → List ℕ → Type 0
Each P [] = Unit {0}
Each P (n ∷ ns) = P n × Each P ns

pub first_each : (P : ℕ → Type 0) → P 0 → (ns : List ℕ) → Each P ns → P (first_of ns)
unfolding first_of
first_each P z [] x = z
first_each P z (n ∷ ns) x = by (eqb n 0) (first_each P z ns x.1) x.0
  where
    by : (t : Bool) → P (first_of ns) → P n → P (cond t (first_of ns) n)
    by true rest first = rest
    by false rest first = first

pub refuse_each : (P : ℕ → Type 0) → P 0 → (n : ℕ) → P n → (t : Bool) → P (refuse n t)
refuse_each P z n p true = p
refuse_each P z n p false = z
