-- An effect of a function that is lent no journal, as the head decides it.
use mathlib.Core.Path.{ap}
use Rattle.head.specs.declared.Head.{Head}
use Rattle.journal.specs.declared.Machine.{Machine}
use Rattle.journal.specs.Run.{Run, Effect}
use Rattle.journal.specs.Machine.{State, DoesWithoutJournal}
use Rattle.journal.proofs.Does.{alone_as}

pub alone_by_head : (F : Head → Effect) {m m' : Machine} → DoesWithoutJournal (F m.head) m m' → DoesWithoutJournal (λ (r : Run). F r.head r) m m'
alone_by_head F = alone_as (λ r q. ap (λ (w : State). F w.head r) q)
