-- From what the code answers, and from what C gets, to what the claim is about.
use Prim.Native.Nat.{ℕ}
use mathlib.Core.Path.{◌≡◌, subst}
use mathlib.Core.List.{List}
use Rattle.call.specs.Call.{Answer, Answers}
use Rattle.claim.specs.Claim.{Call, perform}

-- a call made on the bytes that the one before left
pub record Next (c : Call) (b : List ℕ) (r : Answer) (b' j' : List ℕ) : Type 0 where
  pub answers : Answers (perform c b) r (perform c b).buffer j'
  pub left : b' ≡ (perform c b).buffer

pub next : (c : Call) (b b₁ : List ℕ) {r : Answer} {b' j' : List ℕ} → b₁ ≡ b → Answers (perform c b₁) r b' j' → Next c b r b' j'
next c b b₁ {r} {b'} {j'} e x =
    let y : Answers (perform c b) r b' j' = subst (λ (k : List ℕ). Answers (perform c k) r b' j') e x in
    record { answers = subst (λ (k : List ℕ). Answers (perform c b) r k j') y.buffer y; left = y.buffer }
