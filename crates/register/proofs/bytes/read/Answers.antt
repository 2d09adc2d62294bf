use Prim.Native.Nat.{ℕ}
use mathlib.Core.Path.{◌≡◌, refl, ap, ◌∙◌}
use mathlib.Core.List.{List, ◌∷◌, append-nil}
use native.Mathlib.Omega.{arith}
use Rattle.record.specs.Items.{items}
use Rattle.register.specs.Word.{word_in}
use Rattle.layout.specs.Layout.{register_size}
use Rattle.register.specs.bytes.{registers_in}
use Rattle.record.proofs.Items.{fill_from_one}
use Rattle.register.proofs.bytes.read.Goals as goal

pub loop-n-init : goal.loop-n-init
unfolding items
loop-n-init c = refl

pub loop-n-preserved : goal.loop-n-preserved
loop-n-preserved c =
    let l = c.loop-n in
    rw c.word_at.ensures (fill_from_one word_in register_size c.args.buffer.now 34 l.n 0 l.regs (omega arith) (omega arith) l.invariant)

pub returns : goal.returns
unfolding registers_in
returns c =
    let all : c.loop-n.n ≡ 35 = omega arith in
    (rw all at c.loop-n.invariant) ∙ ap (λ (l : List ℕ). 0 ∷ l) (append-nil _)
