-- `booking::release` meets its contract: the head's tests, 42, then the head without the task that the look-up found.
use Prim.Native.Nat.{◌-◌}
use mathlib.Core.Path.{◌≡◌, sym, ap, ◌∙◌}
use mathlib.Core.Bool.{true, false}
use native.Mathlib.Omega.{arith}
use Rattle.refusal.specs.declared.Refusal.TheVariants.{IdUnknown}
use Rattle.record.proofs.Refusals.{only_test}
use Rattle.task.specs.Task.{has_id}
use Rattle.task.proofs.look_up.Laws.{is_hit, hit_in_use, HitAfter, on_hit}
use Rattle.head.specs.declared.Head.{Head}
use Rattle.head.specs.Head.{booked}
use Rattle.head.specs.Record.{head_of}
use Rattle.head.specs.tasks.{without_place, without_task}
use Rattle.head.proofs.tasks.Holding.{booked_length}
use Rattle.head.proofs.tasks.Places.{without_hit}
use Rattle.head.proofs.tasks.Kept.{less_encodable}
use Rattle.call.proofs.Admitting.{head_is}
use Rattle.call.proofs.Ending.{call_unadmitted, call_refused}
use Rattle.call.proofs.Changed.{call_changed}
use Rattle.booking.specs.Release.{release}
use Rattle.booking.proofs.release.Goals.{After-release, In-Hit}
use Rattle.booking.proofs.release.Goals as goal

-- the task that the look-up found
found : (c : In-Hit) → HitAfter c.args.id (booked c.in_ok-m.m.head) c.in-Hit.read
found c = on_hit (sym (rw c.booked.ensures at c.in-Hit.ensures))

left : (c : After-release) → c.release.new.head ≡ without_task c.args.id c.in_ok-m.m.head
left c =
    let hit : In-Hit = search in
    let placed : c.release.new.head ≡ without_place (c.in-Hit.read - 1) c.in_ok-m.m.head = rw c.from-2.ensures at c.release.ensures in
    placed ∙ without_hit c.args.id c.in_ok-m.m.head c.in-Hit.read (found hit)

pub returns-in_err-m : goal.returns-in_err-m
unfolding release
returns-in_err-m c = call_unadmitted c.in_err-m.ensures _ _ _ c.from_residual.ensures.1

pub returns-in_default : goal.returns-in_default
unfolding release
returns-in_default c =
    let none : has_id c.args.id (booked (head_of c.args.buffer.now)) ≡ false =
    ap (λ (h : Head). has_id c.args.id (booked h)) (sym (head_is c.in_ok-m.ensures)) ∙ (sym (hit_in_use _ _) ∙ ap is_hit (sym (rw c.booked.ensures at c.in_default.ensures))) in
    call_refused c.in_ok-m.ensures _ IdUnknown _ _ (rw none (sym (only_test 42))) c.from.ensures

pub overflow_sub-from : goal.overflow_sub-from
overflow_sub-from c =
    let hit = (goal.at.overflow_sub-from c).In-Hit in
    omega (arith, (found hit).count, c.from-2.ensures)

pub release-requires-clause-at_lt_count : goal.release-requires-clause-at_lt_count
release-requires-clause-at_lt_count c =
    let hit = (goal.at.release-requires-clause-at_lt_count c).In-Hit in
    omega (arith, (found hit).count, (found hit).within, c.from-2.ensures, booked_length _ c.in_ok-m.ensures.encodable)

pub finish-requires-clause-encodable : goal.finish-requires-clause-encodable
finish-requires-clause-encodable c =
    let taken_out = (goal.at.finish-requires-clause-encodable c).After-release in
    let ok = less_encodable c.args.id _ c.in_ok-m.ensures.encodable in
    rw (left taken_out) ok

pub returns : goal.returns
unfolding release
returns c =
    let taken_out = (goal.at.returns c).After-release in
    let has : has_id c.args.id (booked (head_of c.args.buffer.now)) ≡ true =
    ap (λ (h : Head). has_id c.args.id (booked h)) (sym (head_is c.in_ok-m.ensures)) ∙ (sym (hit_in_use _ _) ∙ ap is_hit (sym (rw c.booked.ensures at c.in-Hit.ensures))) in
    call_changed c.in_ok-m.ensures _ (without_task c.args.id) (rw has (only_test 0)) (left taken_out) c.finish.ensures
