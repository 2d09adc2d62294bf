-- `clock::prescale` meets its contract: shifting out all 32 bits leaves 0, as dividing by so high a power does.
use Prim.Native.Nat.{ℕ, ◌/◌, ◌^◌, ◌≤◌, ◌<◌}
use mathlib.Core.Path.{◌≡◌, sym}
use native.Mathlib.Omega.{arith}
use native.Mathlib.Nat.{div-eq_of_lt, lt_of_lt_of_le}
use lib.Pow.{pow_mono}
use Rattle.std.specs.Prelude.{Option, Some, None}
use Rattle.std.specs.Option.{SomeIff, unwrap_or}
use Rattle.clock.specs.Clock.{shifted}
use borrow.Author.Rules.{rules}
use Rattle.clock.proofs.prescale.Goals as goal

-- a checked shift that counts 0 where it finds nothing
shift_or_0 : (f e : ℕ) (found : Option ℕ) → f < 2 ^ 32 → SomeIff found (e < 32) (f / 2 ^ e) → unwrap_or found 0 ≡ f / 2 ^ e
shift_or_0 f e (Some x) small is = is.1
shift_or_0 f e None small not =
    let high : 32 ≤ e = omega arith in
    sym (div-eq_of_lt (lt_of_lt_of_le small (pow_mono high)))

pub returns : goal.returns
unfolding shifted
returns c =
    let small : c.args.f.0 < 2 ^ 32 = search rules in
    rw (c.unwrap_or.ensures, ← c.from.ensures) (shift_or_0 _ _ _ small c.checked_shr.ensures)
