-- A divider stored fits its register.
use Prim.Native.Nat.{ℕ, ◌≤◌, ◌<◌}
use mathlib.Core.Path.{◌≡◌}
use mathlib.Core.Bool.{true}
use native.Mathlib.Omega.{arith}
use borrow.Author.Tests.{le-leb}
use Rattle.record.specs.Bytes.{is_within}
use Rattle.head.specs.declared.Head.{Head}
use Rattle.register.specs.Word.{word_of, word_bytes, byte_b, byte_c}
use Rattle.register.specs.Codes.{largest, fits_register}
use Rattle.head.specs.Encodable.{Encodable}
use Rattle.register.proofs.Fits.{word_fits}
use Rattle.clock_read.specs.Hpsys.{reg}
use Rattle.clock_read.proofs.Codes.{byte_most}

-- register 26 may hold any divider beside its exponents
pub hdiv_fits : (hdiv : ℕ) (h : Head) → hdiv < 256 → Encodable h → fits_register 26 (word_of hdiv (byte_b (reg h 26)) (byte_c (reg h 26))) ≡ true
unfolding is_within largest word_bytes
hdiv_fits hdiv h p ok =
    let b : byte_b (reg h 26) ≤ 7 = byte_most h ok 26 (omega arith) 1 in
    let c : byte_c (reg h 26) ≤ 7 = byte_most h ok 26 (omega arith) 2 in
    word_fits 26 hdiv (byte_b (reg h 26)) (byte_c (reg h 26)) (simp (le-leb hdiv 255 (omega arith), le-leb _ 7 b, le-leb _ 7 c))
