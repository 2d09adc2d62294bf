-- `moment::replay` meets its contract. The loop's invariant: the stores of the rest are still to be put in.
use mathlib.Core.Path.{◌≡◌}
use lib.ListN.{drop}
use Rattle.journal.specs.Run.{replayed}
use Rattle.moment.proofs.replay.Given as goal

abbrev pub invariant-loop-entry : goal.invariant-loop-entry
invariant-loop-entry l = replayed l.initial.regs l.entries ≡ replayed l.regs (drop l.entry-index l.entries)
