-- `digits::hexadecimal::digits` meets its contract. The loop's invariant: the digits of the rest stand before those so far.
use Rattle.std.proofs.Common.{◌≡◌, ◌++◌, drop, length}
use Rattle.digits.specs.hexadecimal.{hex_digits}
use Rattle.digits.proofs.hexadecimal.digits.Given as goal

abbrev pub invariant-loop-i : goal.invariant-loop-i
invariant-loop-i g l =
    (length l.glyphs ≡ g.row.N) × (hex_digits l.i l.rest ++ drop l.i l.glyphs ≡ hex_digits g.row.N l.number)
