-- Decoding and encoding undo each other.
use Prim.Native.Nat.{ℕ}
use mathlib.Core.Path.{◌≡◌, refl, sym, ap, ◌∙◌}
use mathlib.Core.Bool.{Bool, true, false, cond, not, ◌&&◌}
use mathlib.Core.List.{List}
use native.Mathlib.Omega.{arith}
use lib.Dec.{eqb}
use lib.ListN.{get_or}
use borrow.Author.Tests.{eqb-true}
use Rattle.std.specs.Prelude.{Result, Ok, Err}
use Rattle.record.specs.Refusals.{first_of}
use Rattle.record.proofs.Lists.{by_place}
use Rattle.plan.specs.codes.{coded}
use Rattle.plan.proofs.codes.Laws.{bit_back, flag_back, dll_back, dll_settled, at_most, dll1_bytes, dll2_bytes}
use Rattle.plan.specs.declared.Plan.{Plan}
use Rattle.plan.specs.Plan.{encoded, legal}
use Rattle.plan.specs.bytes.{record_refusal, plan_of, decoded}
use Rattle.plan.proofs.bytes.WellFormed.{well_formed}

-- encoding what a record holds gives the record
pub record_back : (b : List ℕ) → record_refusal b ≡ 0 → encoded (plan_of b) ≡ b
unfolding encoded plan_of
record_back b e =
    let w = well_formed b e in
    let d1 = dll1_bytes b w.codes in
    let d2 = dll2_bytes b w.codes in
    let high : get_or b 0 0 ≡ 0 = omega (arith, w.length_field) in
    let low : get_or b 1 0 ≡ 18 = omega (arith, w.length_field) in
    simp (d1.present_is, d1.stage_is, d1.half_is, d2.present_is, d2.stage_is, d2.half_is, bit_back _ (at_most b w.codes 10), bit_back _ (at_most b w.codes 11))
    (sym (by_place b 20 w.bytes ∙ simp (high, low, w.version)))

pub plan_back : (p : Plan) → plan_of (encoded p) ≡ p
unfolding encoded plan_of
plan_back p = simp (dll_back p.dll1, dll_back p.dll2, flag_back p.hrc48_calibrate, flag_back p.usb)

-- the record of a plan value is refused only where a field is outside its codes
pub record_refusal_lem : (p : Plan) → record_refusal (encoded p) ≡ cond (legal p) 0 3
unfolding record_refusal first_of coded legal encoded
record_refusal_lem p = simp (dll_settled p.dll1, dll_settled p.dll2) (by (legal p))
  where
    by : (t : Bool) → cond {A = ℕ} (eqb (cond (not (t && true && true)) 3 0) 0) 0 (cond (not (t && true && true)) 3 0) ≡ cond t 0 3
    by true = refl
    by false = refl

-- what is read from bytes is their plan
pub read_is : (b : List ℕ) (p : Plan) → decoded b ≡ Ok p → (record_refusal b ≡ 0) × (plan_of b ≡ p)
unfolding decoded
read_is b p e = by (eqb (record_refusal b) 0) refl e
  where
    by : (t : Bool) → eqb (record_refusal b) 0 ≡ t → cond t (Ok (plan_of b)) (Err (record_refusal b)) ≡ Ok p → (record_refusal b ≡ 0) × (plan_of b ≡ p)
    by true q h = (eqb-true (record_refusal b) 0 q, cc)
    by false q h = let z : ◌≡◌ {A = ℕ} 0 1 = cc in absurd (omega arith)

-- encoding a decoded plan gives the bytes
pub encode_decode : (b : List ℕ) (p : Plan) → decoded b ≡ Ok p → encoded p ≡ b
encode_decode b p e = let r = read_is b p e in ap encoded (sym r.1) ∙ record_back b r.0

-- a decoded plan is legal
pub read_legal : (b : List ℕ) (p : Plan) → decoded b ≡ Ok p → legal p ≡ true
read_legal b p e = by (legal p) (sym (record_refusal_lem p) ∙ (ap record_refusal (encode_decode b p e) ∙ (read_is b p e).0))
  where
    by : (t : Bool) → cond {A = ℕ} t 0 3 ≡ 0 → t ≡ true
    by true q = refl
    by false q = absurd (omega arith)

-- decoding an encoded plan gives the plan, 3 where a field is outside its codes
pub decode_encode : (p : Plan) → decoded (encoded p) ≡ cond (legal p) (Ok p) (Err 3)
unfolding decoded
decode_encode p = simp (record_refusal_lem p, plan_back p) (by (legal p))
  where
    by : (t : Bool) → cond {A = Result Plan ℕ} (eqb (cond t 0 3) 0) (Ok p) (Err (cond t 0 3)) ≡ cond t (Ok p) (Err 3)
    by true = refl
    by false = refl
