-- A line that matches a text is what was put there.
use Prim.Native.Nat.{ℕ}
use mathlib.Core.Path.{◌≡◌, ◌∙◌}
use mathlib.Core.List.{List, ◌++◌}
use native.Mathlib.Omega.{arith}
use Rattle.text.specs.Text.{Puts}
use Rattle.text.proofs.Putting.{puts_then}
use Rattle.recorded_answer.specs.Answer.{Matches}

pub same_line : {line given left t t' t'' j : List ℕ} {m end entries : ℕ} → Puts given t 0 t' m → Puts left t' m t'' end → Matches line j entries t'' end → line ≡ given ++ left
same_line p q x = x.text_is ∙ (puts_then p q).put (omega arith)
