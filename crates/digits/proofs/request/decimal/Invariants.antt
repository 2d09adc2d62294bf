-- `digits::request::decimal` meets its contract. The loop's invariant: the rest of the text, read on from the number so far, is the request, and the bytes before it are digits.
use Prim.Native.Nat.{◌≤◌}
use mathlib.Core.Path.{◌≡◌}
use lib.ListN.{drop}
use Rattle.digits.specs.Decimal.{most, request_of, all_digits}
use Rattle.digits.proofs.Decimal.{read_on}
use Rattle.digits.proofs.request.decimal.Given as goal

abbrev pub invariant-loop-glyph : goal.invariant-loop-glyph
invariant-loop-glyph l = (l.number ≤ most) × (read_on l.number (drop l.glyph-index l.text) ≡ request_of l.text) × (all_digits (drop l.glyph-index l.text) ≡ all_digits l.text)
