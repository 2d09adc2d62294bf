-- `register::bytes::codes::fits` meets its contract: the part of the table that is compared is the register's.
use Prim.Native.Nat.{ℕ, ◌+◌, ◌*◌, ◌-◌, ◌<◌}
use mathlib.Core.Path.{◌≡◌, ap, ◌∙◌}
use native.Mathlib.Omega.{arith}
use borrow.Author.Tests.{lt-ltb}
use lib.ListN.{take, drop}
use lib.Seq.{drop-drop}
use Rattle.layout.specs.Layout.{register_size}
use Rattle.record.specs.Bytes.{is_within}
use Rattle.register.specs.Word.{word_bytes}
use Rattle.register.specs.Codes.{largest, codes_of, fits_register}
use Rattle.register.proofs.bytes.codes.fits.Goals as goal

-- the table begins with register 1
codes-part : (n : ℕ) → 0 < n →
    take (register_size * (n - 1) + register_size - register_size * (n - 1)) (drop (register_size * (n - 1)) (drop register_size largest)) ≡ codes_of n
codes-part n h =
    let size : register_size * (n - 1) + register_size - register_size * (n - 1) ≡ register_size = omega arith in
    let place : register_size + register_size * (n - 1) ≡ register_size * n = omega arith in
    rw (size, drop-drop (register_size * (n - 1)) register_size largest, place)

pub returns : goal.returns
unfolding fits_register largest word_bytes
returns c =
    let n = c.args.n in
    let word = c.args.word in
    rw (lt-ltb word 16777216 c.requires.1.1) ((rw c.to_be_bytes.ensures at c.within.ensures) ∙ ap (is_within (word_bytes word)) (codes-part n c.requires.0))
