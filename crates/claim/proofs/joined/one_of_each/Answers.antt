-- `claim::joined::one_of_each` meets its contract: each call's contract gives what it performs, and the claim is `demand_3`.
use mathlib.Core.Path.{refl}
use mathlib.Core.List.{[], ◌∷◌}
use native.Mathlib.Omega.{arith}
use Rattle.task.specs.declared.Task.{Task}
use Rattle.task.specs.Task.{InBytes}
use Rattle.claim.specs.Claim.{Call, changing, booking, releasing, requesting}
use Rattle.claim.proofs.Demand.{demand_3}
use Rattle.claim.proofs.joined.Contracts.{next}
use Rattle.claim.proofs.joined.one_of_each.Goals as goal

pub returns : goal.returns
returns c =
    let args = c.args in
    let t : Task = record { id = args.id; cycles = args.cycles; period = args.period } in
    let small : InBytes t = record { id = omega arith; cycles = omega arith; period = omega arith } in
    let b = args.buffer.now in
    let change : Call = changing args.plan.now args.journal.now args.answers.now in
    let request : Call = requesting args.freq.0 args.requests.now in
    let first = next change b b refl c.change-changed.ensures in
    let second = next (booking t) _ _ first.left c.book-booked.ensures in
    let third = next (releasing args.done) _ _ second.left c.release-released.ensures in
    let fourth = next request _ _ third.left c.config_lpsys_hclk_mhz-requested.ensures in
    record {
      performs = (first.answers, (second.answers, (third.answers, (fourth.answers, fourth.left))));
      claim = λ fit. demand_3 b fit (change ∷ booking t ∷ releasing args.done ∷ request ∷ []) (tt, (small, (tt, (tt, tt))));
    }
