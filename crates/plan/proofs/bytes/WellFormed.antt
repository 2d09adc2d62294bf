-- What the bytes of a decoded plan have.
use Prim.Native.Nat.{ℕ}
use mathlib.Core.Path.{◌≡◌}
use mathlib.Core.Bool.{true}
use mathlib.Core.List.{List}
use borrow.Author.Tests.{eqb-true}
use lib.Dec.{eqb}
use lib.ListN.{length, get_or}
use Rattle.record.specs.Bytes.{two_bytes}
use Rattle.record.proofs.Refusals.{none_refused, not_refused_unless}
use Rattle.plan.specs.codes.{coded}
use Rattle.plan.specs.tests.{record_tests, record_refusal}

-- what refusals 1 to 3 leave of the bytes of a record
pub record WellFormed (b : List ℕ) : Type 0 where
  pub bytes : length b ≡ 20
  pub length_field : two_bytes (get_or b 0 0) (get_or b 1 0) ≡ 18
  pub version : get_or b 2 0 ≡ 1
  pub codes : coded b ≡ true

pub well_formed : (b : List ℕ) → record_refusal b ≡ 0 → WellFormed b
unfolding record_refusal
well_formed b e =
    let none = none_refused (record_tests b) e in
    record {
      bytes = eqb-true _ _ (not_refused_unless 0 (eqb (length b) 20) search);
      length_field = eqb-true _ _ (not_refused_unless 0 (eqb (two_bytes (get_or b 0 0) (get_or b 1 0)) 18) search);
      version = eqb-true _ _ (not_refused_unless 1 (eqb (get_or b 2 0) 1) search);
      codes = not_refused_unless 2 (coded b) search;
    }
