-- `moment::with_stores` meets its contract: the registers are replaced, and all else stays.
use mathlib.Core.Path.{ap}
use mathlib.Core.List.{List}
use Prim.Native.Nat.{ℕ}
use Rattle.head.specs.Head.{with_registers}
use Rattle.moment.proofs.with_stores.Goals as goal

pub returns : goal.returns
returns c = ap (λ (l : List ℕ). with_registers l c.args.head) c.replay-head.ensures
