-- Runs whose registers keep to their codes at every moment, and whose heads differ in the registers alone.
use Prim.Native.Nat.{ℕ, ◌<◌}
use mathlib.Core.Path.{◌≡◌, refl, ap, sym, subst}
use mathlib.Core.Bool.{Bool, true, false, cond}
use mathlib.Core.List.{List}
use lib.Dec.{eqb}
use Rattle.register.specs.Codes.{fits_register}
use Rattle.register.proofs.Fits.{fits_word}
use Rattle.head.specs.declared.Head.{Head}
use Rattle.head.specs.Head.{stored}
use Rattle.head.specs.Encodable.{Encodable}
use Rattle.head.proofs.Stores.{store_encodable}
use Rattle.journal.specs.Run.{Run, begin, unless_ended, entry, with_entry, with_head, store, delay}
use Rattle.journal.proofs.Delays.{delay_head}
use Rattle.journal.proofs.Moments.{Moments, moments_begin, moments_now, moments_store, moments_delay}
use Rattle.claim.specs.Moment.{head_with}

-- with these registers the head has a record
abbrev pub Coded : Head → List ℕ → Type 0
Coded h regs = Encodable (head_with h regs)

module _ (h : Head) where
  pub record Codes (r : Run) : Type 0 where
    pub moments : Moments (Coded h) h.regs r
    pub only : r.head ≡ head_with h r.head.regs

  -- the head of such a run has a record
  pub codes_now : (r : Run) → Codes r → Encodable r.head
  codes_now r c = subst Encodable (sym c.only) (moments_now (Coded h) h.regs r c.moments)

  pub codes_begin : Encodable h → Codes (begin h)
  codes_begin ok = record { moments = moments_begin (Coded h) h ok; only = refl }

  only_store : (n v : ℕ) (r : Run) → r.head ≡ head_with h r.head.regs → (store n v r).head ≡ head_with h (store n v r).head.regs
  unfolding store unless_ended
  only_store n v r e = by (eqb r.stop 0)
    where
      by : (t : Bool) → (cond t (with_entry (entry n v) (with_head (stored r.head n v) r)) r).head ≡ head_with h (cond t (with_entry (entry n v) (with_head (stored r.head n v) r)) r).head.regs
      by true = ap (λ (g : Head). stored g n v) e
      by false = e

  pub codes_store : (n v : ℕ) → n < 35 → fits_register n v ≡ true → (r : Run) → Codes r → Codes (store n v r)
  codes_store n v p fits r c =
      record {
        moments = moments_store (Coded h) h.regs n v p (fits_word n v fits) r c.moments (store_encodable (head_with h r.head.regs) n v (moments_now (Coded h) h.regs r c.moments) fits);
        only = only_store n v r c.only;
      }

  same_head : (r r' : Run) → r'.head ≡ r.head → r.head ≡ head_with h r.head.regs → r'.head ≡ head_with h r'.head.regs
  same_head r r' e q = subst (λ (g : Head). g ≡ head_with h g.regs) (sym e) q

  pub codes_delay : (us : ℕ) (r : Run) → Codes r → Codes (delay us r)
  codes_delay us r c = record { moments = moments_delay (Coded h) h.regs us r c.moments; only = same_head r (delay us r) (delay_head us r) c.only }
