-- `plan::codes::dll` meets its contract: the test picks the case of `dll_of`.
use mathlib.Core.Path.{◌≡◌, refl, ◌∙◌}
use mathlib.Core.Bool.{Bool, true, false, cond}
use Rattle.std.specs.Prelude.{Some, None}
use Rattle.std.specs.Bool.{then_some}
use Rattle.clock.specs.declared.Dll.{Dll}
use Rattle.plan.specs.codes.{dll_of}
use Rattle.plan.proofs.codes.dll.Goals as goal

some_where : (d : Dll) (here : Bool) → then_some here d ≡ cond here (Some d) None
some_where d true = refl
some_where d false = refl

pub returns : goal.returns
unfolding dll_of
returns c = c.then_some.ensures ∙ some_where _ _
