-- What a legal plan has.
use Prim.Native.Nat.{◌≤◌}
use mathlib.Core.Path.{◌≡◌}
use mathlib.Core.Bool.{true}
use lib.ListN.{drop}
use Rattle.record.proofs.Bytes.{within_at}
use Rattle.plan.specs.declared.Plan.{Plan}
use Rattle.plan.specs.Code.{largest_of_plan, stage_of}
use Rattle.plan.specs.Plan.{encoded, legal}

-- the stages of a legal plan are 0 to 15
pub legal_stages : (p : Plan) → legal p ≡ true → (stage_of p.dll1 ≤ 15) × (stage_of p.dll2 ≤ 15)
unfolding legal encoded
legal_stages p e = (within_at (drop 3 (encoded p)) largest_of_plan e 5, within_at (drop 3 (encoded p)) largest_of_plan e 8)
