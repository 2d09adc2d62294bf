use Prim.Native.Nat.{ℕ, ◌+◌}
use mathlib.Core.Path.{◌≡◌, sym, ap, ◌∙◌}
use mathlib.Core.List.{List}
use native.Mathlib.Omega.{arith}
use lib.ListN.{get_or, drop}
use Rattle.journal.specs.Run.{applied, replayed}
use Rattle.moment.proofs.Entries.{applied_store, applied_other, first_stored, all_stored}
use Rattle.moment.proofs.replay.Goals.{Joined-n-lt35, then-n-lt35, else-n-lt35}
use Rattle.moment.proofs.replay.Goals as goal

-- after a turn the entry's store is put in, whether it is one or not
put_in : (c : Joined-n-lt35) →
    c.if-n-lt35.regs ≡ applied c.loop-entry.regs (get_or c.args.entries.now c.loop-entry.entry-index 0)
put_in c =
    elim c.if-n-lt35.branch [
      | then-n-lt35 w ↦ w.regs-is ∙ applied_store _ _ _ _ c.number-n.ensures.0 w.value.ensures.0 w.if-n-lt35.true
      | else-n-lt35 w ↦ w.regs-is ∙ applied_other _ _ _ c.number-n.ensures.0 w.if-n-lt35.false
    ]

pub loop-entry-preserved : goal.loop-entry-preserved
loop-entry-preserved c =
    let loop = c.loop-entry in
    let entries = c.args.entries.now in
    loop.invariant ∙ (first_stored loop.regs entries loop.entry-index (omega arith) ∙
    ap (λ (l : List ℕ). replayed l (drop (loop.entry-index + 1) entries)) (sym (put_in (goal.at.loop-entry-preserved c).Joined-n-lt35)))

pub returns : goal.returns
returns c = sym (c.loop-entry.invariant ∙ all_stored _ c.args.entries.now c.loop-entry.entry-index (omega arith))
