-- `text::fields::decode_pairs` meets its contract. The loop's invariant: the bytes so far are the pairs that were taken.
use Rattle.std.proofs.Common.{length, ◌≡◌}
use Rattle.text.proofs.fields.decode_pairs.Given as goal

abbrev pub invariant-loop-pair : goal.invariant-loop-pair
invariant-loop-pair l =
    (goal.iterator-loop-pair).can_next l.pair-iterator ×
    (goal.iterator-loop-pair).is_finite l.pair-iterator ×
    (l.count ≡ length l.yielded)
