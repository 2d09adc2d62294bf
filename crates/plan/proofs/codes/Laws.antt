-- What the codes of a plan record say of its bytes, and the bytes of a flag and of a DLL back.
use Prim.Native.Nat.{ℕ, ◌+◌, ◌≤◌}
use mathlib.Core.Path.{◌≡◌, refl, sym}
use mathlib.Core.Bool.{Bool, true, false, ◌&&◌, ◌||◌}
use mathlib.Core.List.{List}
use native.Mathlib.Omega.{arith}
use mir.Val.{bool_byte}
use lib.Dec.{eqb}
use lib.ListN.{get_or, drop}
use lib.Seq.{get_or-drop}
use borrow.Author.Tests.{eqb-true, eqb-false}
use Rattle.record.specs.Bytes.{is_within, bit}
use Rattle.record.proofs.Bytes.{and_left, and_right, within_at}
use Rattle.std.specs.Prelude.{Option, None, Some}
use Rattle.clock.specs.declared.Dll.{Dll}
use Rattle.plan.specs.Code.{largest_of_plan, present_of, stage_of, half_of}
use Rattle.plan.specs.codes.{dll_bytes_legal, coded, dll_of}

-- a flag's byte and back
pub bit_back : (x : ℕ) → x ≤ 1 → bit (eqb x 1) ≡ x
bit_back x h = by (eqb x 1) refl
  where
    by : (t : Bool) → eqb x 1 ≡ t → bit t ≡ x
    by true e = sym (eqb-true x 1 e)
    by false e = let ne = eqb-false x 1 e in other (λ q. ne q)
      where
        other : (x ≡ 1 → ⊥) → 0 ≡ x
        other ne = omega arith

pub flag_back : (b : Bool) → eqb (bit b) 1 ≡ b
flag_back true = refl
flag_back false = refl

-- a flag's byte, as `u8::from` gives it
pub bool_byte_is : (b : Bool) → bool_byte b ≡ bit b
bool_byte_is true = refl
bool_byte_is false = refl

-- the bytes of a DLL and back
pub record DllBytes (present stage half : ℕ) : Type 0 where
  pub present_is : present_of (dll_of present stage half) ≡ present
  pub stage_is : stage_of (dll_of present stage half) ≡ stage
  pub half_is : half_of (dll_of present stage half) ≡ half

pub dll_bytes : (p s h : ℕ) → p ≤ 1 → h ≤ 1 → dll_bytes_legal p s h ≡ true → DllBytes p s h
unfolding dll_bytes_legal dll_of
dll_bytes p s h hp hh = by (eqb p 1) refl
  where
    by : (t : Bool) → eqb p 1 ≡ t → (t || (eqb s 0 && eqb h 0)) ≡ true → DllBytes p s h
    by true e q = record { present_is = simp e (sym (eqb-true p 1 e)); stage_is = simp e; half_is = simp e (bit_back h hh) }
    by false e q =
        let s0 = eqb-true s 0 (and_left (eqb s 0) (eqb h 0) q) in
        let h0 = eqb-true h 0 (and_right (eqb s 0) (eqb h 0) q) in
        let p0 = bit_back p hp in
        record { present_is = simp e (rw e at p0); stage_is = simp e (sym s0); half_is = simp e (sym h0) }

pub dll_back : (d : Option Dll) → dll_of (present_of d) (stage_of d) (half_of d) ≡ d
unfolding dll_of
dll_back None = refl
dll_back (Some d) = simp (flag_back d.half)

pub dll_settled : (d : Option Dll) → dll_bytes_legal (present_of d) (stage_of d) (half_of d) ≡ true
unfolding dll_bytes_legal
dll_settled None = refl
dll_settled (Some d) = refl

-- what the codes of a record say of its bytes
module _ (b : List ℕ) (ok : coded b ≡ true) where
  abbrev within : Bool
  within = is_within (drop 3 b) largest_of_plan

  abbrev settled1 : Bool
  settled1 = dll_bytes_legal (get_or b 7 0) (get_or b 8 0) (get_or b 9 0)

  abbrev settled2 : Bool
  settled2 = dll_bytes_legal (get_or b 10 0) (get_or b 11 0) (get_or b 12 0)

  both : (within && settled1) ≡ true
  unfolding coded
  both = and_left (within && settled1) settled2 ok

  -- byte 3 + k is at most its largest value
  pub at_most : (k : ℕ) → get_or b (3 + k) 0 ≤ get_or largest_of_plan k 0
  at_most k = rw get_or-drop at (within_at (drop 3 b) largest_of_plan (and_left within settled1 both) k)

  pub dll1_bytes : DllBytes (get_or b 7 0) (get_or b 8 0) (get_or b 9 0)
  dll1_bytes = dll_bytes _ _ _ (at_most 4) (at_most 6) (and_right within settled1 both)

  pub dll2_bytes : DllBytes (get_or b 10 0) (get_or b 11 0) (get_or b 12 0)
  unfolding coded
  dll2_bytes = dll_bytes _ _ _ (at_most 7) (at_most 9) (and_right (within && settled1) settled2 ok)
