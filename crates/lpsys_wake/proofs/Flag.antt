-- An effect that a flag of the head decides.
use Prim.Native.Nat.{ℕ}
use mathlib.Core.Path.{◌≡◌, sym, ap, ◌∙◌}
use mathlib.Core.Bool.{Bool}
use mathlib.Core.List.{List}
use native.Mathlib.Omega.{arith}
use Rattle.head.specs.declared.Head.{Head}
use Rattle.journal.specs.declared.Machine.{Machine}
use Rattle.journal.specs.Run.{Run, Effect}
use Rattle.journal.specs.Machine.{State, Answers, Does}
use Rattle.journal.proofs.Does.{does_as}

-- the flag is tested once, as `t`, and picks the case of `F`
pub by_flag : (flag : Head → Bool) (F : Bool → Effect) {k : ℕ} {m m' : Machine} {j j' : List ℕ} {x : Answers} {t : Bool} →
    flag m.head ≡ t → Does k (F t) m m' j j' x → Does k (λ (r : Run). F (flag r.head) r) m m' j j' x
by_flag flag F e d = does_as (λ r q. ap (λ (b : Bool). F b r) (sym e ∙ ap (λ (w : State). flag w.head) q)) (omega arith) d
