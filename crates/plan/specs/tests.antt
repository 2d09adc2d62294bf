-- The tests of a plan record of document 01.
use Rattle.std.specs.Prelude.{ℕ, List, [], ◌∷◌, not, eqb, length, get_or}
use Rattle.record.specs.Bytes.{two_bytes}
use Rattle.record.specs.Refusals.{refuse, first_of}
use Rattle.plan.specs.codes.{coded}

-- the tests of a plan record in their order: the slice is 20 bytes, its length field 18, its version 1
abbrev pub record_tests : List ℕ → List ℕ
record_tests b =
    refuse 1 (not (eqb (length b) 20))
    ∷ refuse 1 (not (eqb (two_bytes (get_or b 0 0) (get_or b 1 0)) 18))
    ∷ refuse 2 (not (eqb (get_or b 2 0) 1))
    ∷ refuse 3 (not (coded b))
    ∷ []

-- refusal 1, 2 or 3 of a plan record, 0 for none
unfoldable pub record_refusal : List ℕ → ℕ
record_refusal b = first_of (record_tests b)
