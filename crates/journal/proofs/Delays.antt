-- A delay, as the code makes it, and that it is never short.
use Prim.Native.Nat.{ℕ, ◌*◌, ◌/◌, ◌%◌, ◌≤◌, ◌<◌}
use mathlib.Core.Path.{◌≡◌, refl, ap, sym, subst, ◌∙◌}
use mathlib.Core.Bool.{Bool, true, false, cond}
use mathlib.Core.List.{[], ◌∷◌, ◌++◌}
use lib.Dec.{eqb}
use native.Mathlib.Omega.{arith}
use native.Mathlib.Nat.{le_trans, mul-le-mul_left, mul-le-mul_right}
use Rattle.time.specs.declared.Hertz.{Hertz}
use Rattle.std.specs.Prelude.{Option, Some, None}
use Rattle.head.specs.Encodable.{Encodable}
use Rattle.clock_read.specs.Hpsys.{hclk_of}
use Rattle.clock_read.proofs.Most.{Most, most_at, most_hclk}
use Rattle.journal.specs.declared.Machine.{Machine}
use Rattle.journal.specs.Run.{Run, entry, cycles, unless_ended, with_entry, halted, delayed, delay}
use Rattle.journal.specs.Machine.{State, state_of, machine_of}

-- a millisecond at 384 MHz is 384,000 cycles
pub product_most : (f us : ℕ) → f ≤ 384000000 → us ≤ 1000 → f * us ≤ 384000000000
product_most f us p q = le_trans (mul-le-mul_right us p) (mul-le-mul_left 384000000 q)

pub cycles_most : (f us : ℕ) → f ≤ 384000000 → us ≤ 1000 → cycles f us ≤ 384000
cycles_most f us p q = omega (arith, product_most f us p q)

-- the cycles last as long as was asked for
pub never_short : (hz us : ℕ) → hz * us ≤ cycles hz us * 1000000
never_short hz us = omega arith

-- one cycle less would be short
pub less_is_short : (hz us n : ℕ) → n < cycles hz us → n * 1000000 < hz * us
less_is_short hz us n p = omega (arith, p)

-- the entry `e` is a delay that lasts at least `us` microseconds at `hz`, and with fewer cycles it would not
pub record Lasts (hz us e : ℕ) : Type 0 where
  pub number : e / 16777216 ≡ 48
  pub enough : hz * us ≤ e % 16777216 * 1000000
  pub least : (n : ℕ) → n < e % 16777216 → n * 1000000 < hz * us

lasts : (hz us : ℕ) → hz ≤ 384000000 → us ≤ 1000 → Lasts hz us (entry 48 (cycles hz us))
lasts hz us p q =
    let most = cycles_most hz us p q in
    let value : entry 48 (cycles hz us) % 16777216 ≡ cycles hz us = omega (arith, most) in
    record {
      number = omega (arith, most);
      enough = rw value (never_short hz us);
      least = rw value (less_is_short hz us);
    }

-- "Delays that are never short": the entry that a delay writes, at the HCLK that reads
pub delay_lasts : (us : ℕ) (r : Run) (f : Hertz) → us ≤ 1000 → Encodable r.head → r.stop ≡ 0 → hclk_of r.head ≡ Some f →
    ((delay us r).entries ≡ r.entries ++ (entry 48 (cycles f.0 us) ∷ [])) × Lasts f.0 us (entry 48 (cycles f.0 us))
unfolding delay unless_ended
delay_lasts us r f short encodable running reads =
    (rw (running, reads) refl, lasts f.0 us (most_at (subst (Most 384000000) reads (most_hclk _ encodable))) short)

-- where HCLK reads, a delay is its entry
pub delay_reads : (m : Machine) (us : ℕ) (f : Hertz) → hclk_of m.head ≡ Some f → (r : Run) → state_of m ≡ machine_of r → unless_ended (with_entry (entry 48 (cycles f.0 us))) r ≡ delay us r
unfolding delay unless_ended
delay_reads m us f e r q =
    let reads : hclk_of r.head ≡ Some f = ap (λ (w : State). hclk_of w.head) (sym q) ∙ e in rw reads refl

-- where it does not, 34
pub delay_unread : (m : Machine) (us : ℕ) → hclk_of m.head ≡ None → (r : Run) → state_of m ≡ machine_of r → halted 34 r ≡ delay us r
unfolding delay halted unless_ended
delay_unread m us e r q =
    let none : hclk_of r.head ≡ None = ap (λ (w : State). hclk_of w.head) (sym q) ∙ e in rw none refl

-- a delay leaves the head as it is
pub delay_head : (us : ℕ) (r : Run) → (delay us r).head ≡ r.head
unfolding delay unless_ended
delay_head us r = by (eqb r.stop 0)
  where
    read : (f : Option Hertz) → (delayed f us r).head ≡ r.head
    read (Some f) = refl
    read None = refl

    by : (t : Bool) → (cond t (delayed (hclk_of r.head) us r) r).head ≡ r.head
    by true = read (hclk_of r.head)
    by false = refl
