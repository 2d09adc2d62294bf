-- What decides whether a guarded change is made, as numbers.
use Rattle.std.specs.Prelude.{ℕ, List, [], ◌∷◌}
use Rattle.load.specs.Load.{load_of}
use Rattle.head.specs.declared.Head.{Head}
use Rattle.head.specs.Head.{booked}
use Rattle.fit.specs.rail.{rail_limit}
use Rattle.fit.specs.Unfit.{unfit_for}

-- the rail limit in Hz, the load of the booked tasks, and the first clause of a fit head that does not hold
unfoldable pub fit_of : Head → List ℕ
fit_of h = rail_limit h ∷ load_of (booked h) ∷ unfit_for h ∷ []
