-- What the codes of a head's registers say of its readings.
use Prim.Native.Nat.{ℕ, ◌≤◌, ◌<◌}
use native.Mathlib.Omega.{arith}
use lib.ListN.{get_or}
use Rattle.record.proofs.Bytes.{within_at}
use Rattle.head.specs.declared.Head.{Head}
use Rattle.register.specs.Word.{word_bytes, byte_c}
use Rattle.register.specs.Codes.{largest, codes_of}
use Rattle.head.specs.Encodable.{Encodable}
use Rattle.register.proofs.Fits.{fits_codes}
use Rattle.clock_read.specs.Hpsys.{reg}

-- byte `j` of register `n` is at most its largest value
pub byte_most : (h : Head) → Encodable h → (n : ℕ) → n < 35 → (j : ℕ) → get_or (word_bytes (reg h n)) j 0 ≤ get_or (codes_of n) j 0
byte_most h ok n l j = within_at (word_bytes (reg h n)) (codes_of n) (fits_codes n (reg h n) (ok.codes n l)) j

-- a DLL's stage is at most 15
pub dll1_stage : (h : Head) → Encodable h → byte_c (reg h 3) ≤ 15
unfolding word_bytes largest
dll1_stage h ok = byte_most h ok 3 (omega arith) 2

pub dll2_stage : (h : Head) → Encodable h → byte_c (reg h 4) ≤ 15
unfolding word_bytes largest
dll2_stage h ok = byte_most h ok 4 (omega arith) 2
