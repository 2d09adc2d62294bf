-- `recorded_line::numbers::join` meets its contract. The loop's invariant: the answers are the words of the pairs passed, and those of the rest.
use Prim.Native.Nat.{◌+◌, ◌*◌}
use mathlib.Core.Path.{◌≡◌}
use mathlib.Core.List.{◌++◌}
use lib.ListN.{length, take}
use Rattle.recorded_line.specs.numbers.{answers_in}
use Rattle.recorded_line.proofs.numbers.join.Given as goal

abbrev pub invariant-loop-i : goal.invariant-loop-i
invariant-loop-i l = record {
  pairs : l.i-iterator.iter.size ≡ 2;
  sized : length l.bytes ≡ 2 * l.i-iterator.count + length l.i-iterator.iter.rest.now;
  joined : answers_in l.bytes ≡ take l.i-iterator.count l.words ++ answers_in l.i-iterator.iter.rest.now;
}
