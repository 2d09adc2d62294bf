-- A head with the stores of entries put in still has a record.
use Prim.Native.Nat.{ℕ, ◌/◌, ◌%◌, ◌<◌}
use mathlib.Core.Path.{◌≡◌, refl}
use mathlib.Core.Bool.{Bool, true, false, cond, ◌&&◌, ◌||◌}
use mathlib.Core.List.{List, [], ◌∷◌}
use native.Mathlib.Omega.{arith}
use lib.Dec.{ltb, eqb}
use lib.ListN.{set}
use borrow.Author.Tests.{eqb-true, ltb-true}
use Rattle.record.proofs.Bytes.{and_left, and_right}
use Rattle.register.specs.Codes.{fits_register}
use Rattle.head.specs.declared.Head.{Head}
use Rattle.head.specs.Head.{with_registers}
use Rattle.head.specs.Encodable.{Encodable}
use Rattle.head.proofs.Stores.{store_encodable}
use Rattle.journal.specs.Run.{applied, replayed}
use Rattle.moment.specs.Moment.{is_of, is_entry, are_entries, with_stores}

-- a number below 35 that is an entry's is a register's, and its value fits it
fits : (n v : ℕ) → n < 35 → is_of n v ≡ true → fits_register n v ≡ true
fits n v h e = by (eqb n 48) refl (eqb n 49) refl e
  where
    by : (s : Bool) → eqb n 48 ≡ s → (t : Bool) → eqb n 49 ≡ t → s || (t || (ltb 0 n && (ltb n 35 && fits_register n v))) ≡ true → fits_register n v ≡ true
    by true p t q x = absurd (omega (arith, eqb-true n 48 p))
    by false p true q x = absurd (omega (arith, eqb-true n 49 q))
    by false p false q x = and_right (ltb n 35) (fits_register n v) (and_right (ltb 0 n) (ltb n 35 && fits_register n v) x)

one : (e : ℕ) (h : Head) → Encodable h → is_entry e ≡ true → Encodable (with_registers (applied h.regs e) h)
unfolding applied is_entry
one e h ok x = by (ltb (e / 16777216) 35) refl
  where
    by : (t : Bool) → ltb (e / 16777216) 35 ≡ t → Encodable (with_registers (cond t (set h.regs (e / 16777216) (e % 16777216)) h.regs) h)
    by true p = store_encodable h (e / 16777216) (e % 16777216) ok (fits (e / 16777216) (e % 16777216) (ltb-true (e / 16777216) 35 p) x)
    by false p = ok

pub stores_encodable : (es : List ℕ) (h : Head) → Encodable h → are_entries es ≡ true → Encodable (with_stores es h)
unfolding are_entries replayed
stores_encodable [] h ok x = ok
stores_encodable (e ∷ es) h ok x =
    stores_encodable es (with_registers (applied h.regs e) h) (one e h ok (and_left (is_entry e) (are_entries es) x)) (and_right (is_entry e) (are_entries es) x)
