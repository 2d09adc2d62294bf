-- From what C gets of a call to what the claim is about: the word's numbers are those of `perform`, and so are head and journal.
use Prim.Native.Nat.{ℕ}
use mathlib.Core.Path.{◌≡◌, refl, subst, sym}
use mathlib.Core.List.{List}
use native.Mathlib.Omega.{arith}
use Rattle.head.specs.Head.{booked}
use Rattle.head.specs.Record.{head_of}
use Rattle.call.specs.word.{Gives}
use Rattle.call.proofs.word.Reading.{Reads, reads_packed}
use Rattle.claim.specs.Claim.{Call, perform, Typed, FitHead}
use Rattle.claim.proofs.Demand.{one}

-- what C reads of the word, and the bytes and words that it finds in its buffers
pub record Given (c : Call) (b : List ℕ) (word : ℕ) (b' j' : List ℕ) : Type 0 where
  pub reads : Reads word (perform c b).refusal (perform c b).value (perform c b).entries (perform c b).taken
  pub buffer : b' ≡ (perform c b).buffer
  pub journal : j' ≡ (perform c b).journal

-- `Gives` is what the contracts of `rikkovan_change`, `rikkovan_book`, `rikkovan_release` and `rikkovan_config_lpsys_hclk_mhz` say
pub given : (c : Call) (b : List ℕ) {word : ℕ} {b' j' : List ℕ} → FitHead b → Typed c → Gives (perform c b) word b' j' → Given c b word b' j'
given c b {word} fit typed x =
    let o = perform c b in
    let small = (one b fit (booked (head_of b)) refl c typed).word in
    let reads = reads_packed o.refusal o.value o.entries o.taken (omega (arith, small.refusal)) (omega (arith, small.value)) (omega (arith, small.entries))
    (omega (arith, small.taken)) in
    record {
      reads = subst (λ (w : ℕ). Reads w o.refusal o.value o.entries o.taken) (sym x.answer) reads;
      buffer = x.buffer;
      journal = x.journal;
    }
