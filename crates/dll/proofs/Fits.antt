-- What is stored in the registers of the DLLs and in register 11 fits them.
use Prim.Native.Nat.{ℕ, zero, suc, ◌≤◌}
use mathlib.Core.Path.{◌≡◌, refl}
use mathlib.Core.Bool.{Bool, true, false}
use native.Mathlib.Omega.{arith}
use borrow.Author.Tests.{le-leb}
use mir.Val.{bool_byte}
use Rattle.record.specs.Bytes.{bit, is_within}
use Rattle.head.specs.declared.Head.{Head}
use Rattle.register.specs.Word.{word_of, word_bytes, byte_b, byte_c}
use Rattle.register.specs.Codes.{largest, fits_register}
use Rattle.head.specs.Encodable.{Encodable}
use Rattle.register.proofs.Fits.{word_fits}
use Rattle.clock_read.specs.Hpsys.{reg}
use Rattle.clock_read.proofs.Codes.{byte_most}

-- a flag as a number
pub flag_is : (b : Bool) → bool_byte b ≡ bit b
flag_is true = refl
flag_is false = refl

pub flag_most : (b : Bool) → bit b ≤ 1
flag_most true = omega arith
flag_most false = omega arith

pub hpbg_fits : (h : Head) → Encodable h → fits_register 11 (word_of 0 1 (byte_c (reg h 11))) ≡ true
unfolding is_within largest word_bytes
hpbg_fits h ok = word_fits 11 0 1 (byte_c (reg h 11)) (simp (le-leb _ 1 (byte_most h ok 11 (omega arith) 2)))

pub vddpsw_fits : (h : Head) → Encodable h → fits_register 11 (word_of 0 (byte_b (reg h 11)) 1) ≡ true
unfolding is_within largest word_bytes
vddpsw_fits h ok = word_fits 11 0 (byte_b (reg h 11)) 1 (simp (le-leb _ 1 (byte_most h ok 11 (omega arith) 1)))

-- of a DLL's register, 3 or 4
pub dll_fits : (n a b c : ℕ) → 3 ≤ n → n ≤ 4 → a ≤ 1 → b ≤ 1 → c ≤ 15 → fits_register n (word_of a b c) ≡ true
unfolding is_within largest
dll_fits zero a b c l m p q r = absurd (omega arith)
dll_fits (suc zero) a b c l m p q r = absurd (omega arith)
dll_fits (suc (suc zero)) a b c l m p q r = absurd (omega arith)
dll_fits (suc (suc (suc zero))) a b c l m p q r = word_fits 3 a b c (simp (le-leb a 1 p, le-leb b 1 q, le-leb c 15 r))
dll_fits (suc (suc (suc (suc zero)))) a b c l m p q r = word_fits 4 a b c (simp (le-leb a 1 p, le-leb b 1 q, le-leb c 15 r))
dll_fits (suc (suc (suc (suc (suc n))))) a b c l m p q r = absurd (omega arith)

-- half and stage of a DLL's register
pub dll_codes : (n : ℕ) (h : Head) → Encodable h → 3 ≤ n → n ≤ 4 → (byte_b (reg h n) ≤ 1) × (byte_c (reg h n) ≤ 15)
unfolding largest word_bytes
dll_codes zero h ok l m = absurd (omega arith)
dll_codes (suc zero) h ok l m = absurd (omega arith)
dll_codes (suc (suc zero)) h ok l m = absurd (omega arith)
dll_codes (suc (suc (suc zero))) h ok l m = (byte_most h ok 3 (omega arith) 1, byte_most h ok 3 (omega arith) 2)
dll_codes (suc (suc (suc (suc zero)))) h ok l m = (byte_most h ok 4 (omega arith) 1, byte_most h ok 4 (omega arith) 2)
dll_codes (suc (suc (suc (suc (suc n))))) h ok l m = absurd (omega arith)
