-- `head::to_bytes::write_front` meets its contract: the bytes put are those of `front_of`.
use Prim.Native.Nat.{◌/◌, ◌%◌}
use mathlib.Core.Path.{◌≡◌, ◌∙◌}
use native.Mathlib.Omega.{arith}
use Rattle.head.specs.Record.{front_of}
use Rattle.head.proofs.to_bytes.write_front.Goals as goal

pub returns : goal.returns
unfolding front_of
returns c =
    let high : c.length_of.result / 256 % 256 ≡ c.length_of.result / 256 = omega (arith, c.requires, c.length_of.ensures) in
    c.put.ensures ∙ rw (c.to_be_bytes.ensures, high, c.length_of.ensures)
