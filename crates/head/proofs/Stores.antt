-- What keeps a head encodable: a change that leaves the tasks, as a store of a value within a register's codes, which changes that
-- register only. The blank head is encodable.
use Prim.Native.Nat.{ℕ, ◌<◌}
use mathlib.Core.Path.{◌≡◌, refl, ◌∙◌}
use mathlib.Core.Bool.{Bool, true, false}
use native.Mathlib.Omega.{arith}
use borrow.Author.Tests.{eqb-true, eqb-false}
use lib.Dec.{eqb}
use lib.ListN.{length, get_or, set, length-set}
use lib.Seq.{get_or-set_same, get_or-set_other}
use Rattle.head.specs.declared.Head.{Head}
use Rattle.register.specs.Codes.{fits_register}
use Rattle.head.specs.Head.{stored}
use Rattle.head.specs.Encodable.{Encodable}
use Rattle.head.proofs.Fields.{with_registers_encodable}

pub stored_same : (h : Head) (n v : ℕ) → n < length h.regs → get_or (stored h n v).regs n 0 ≡ v
stored_same h n v l = get_or-set_same h.regs n v 0 l

pub stored_other : (h : Head) (n v k : ℕ) → (k ≡ n → ⊥) → get_or (stored h n v).regs k 0 ≡ get_or h.regs k 0
stored_other h n v k e = get_or-set_other h.regs n k v 0 e

pub store_encodable : (h : Head) (n v : ℕ) → Encodable h → fits_register n v ≡ true → Encodable (stored h n v)
store_encodable h n v e fits =
    with_registers_encodable e (record { words = length-set h.regs n v ∙ e.words; codes = λ k l. at k l (eqb k n) refl })
  where
    at : (k : ℕ) → k < 35 → (t : Bool) → eqb k n ≡ t → fits_register k (get_or (set h.regs n v) k 0) ≡ true
    at k l true q =
        let same = eqb-true k n q in
        rw (same, get_or-set_same h.regs n v 0 (omega (arith, e.words))) fits
    at k l false q = rw (get_or-set_other h.regs n k v 0 (eqb-false k n q)) (e.codes k l)
