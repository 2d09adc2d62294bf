-- What decoding answers.
use Rattle.std.specs.Prelude.{◌≡◌, List, ℕ, Result, IfOk}
use Rattle.refusal.specs.declared.Refusal.{Refusal}
use Rattle.refusal.specs.Refusal.{number_of}
use Rattle.head.specs.declared.Head.{Head}
use Rattle.head.specs.Encodable.{Encodable}
use Rattle.head.specs.Record.{head_refusal, head_of}

-- the answer of decoding the bytes `b`: the refusal, or where there is none the head
pub record Decodes (b : List ℕ) (r : Result Head Refusal) : Type 0 where
  pub refusal : number_of r ≡ head_refusal b
  pub head : IfOk r (λ h. h ≡ head_of b)
  pub encodable : IfOk r Encodable
