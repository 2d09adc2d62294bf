-- Laws of the rail limit, while buck and ldo go up to a row and down to one.
use Prim.Native.Nat.{ℕ, ◌<◌, ◌≤◌}
use mathlib.Core.Path.{◌≡◌, refl}
use mathlib.Core.Bool.{Bool, true, false, cond, ◌&&◌}
use native.Mathlib.Omega.{arith}
use lib.Dec.{eqb, leb}
use borrow.Author.Tests.{leb-true, le-leb}
use Rattle.dvfs.specs.declared.hpsys.HpsysDvfsMode.{HpsysDvfsMode}
use Rattle.dvfs.specs.declared.hpsys.HpsysDvfsMode.TheVariants.{D0, D1, S0, S1}
use Rattle.dvfs.specs.Hpsys.{row_of}
use Rattle.dvfs_hpsys.specs.volts.{vref_of}
use Rattle.fit.specs.rail.{limit_hz, ldo_of, met, higher, rail_of}

abbrev pub buck : HpsysDvfsMode → ℕ
buck m = (row_of m).buck

-- two rows of a supply
record Pair (lo hi : HpsysDvfsMode) : Type 0 where
  limits : limit_hz lo < limit_hz hi
  bucks : buck lo ≤ buck hi
  ldos : ldo_of lo ≤ ldo_of hi

pair_s : Pair S0 S1
pair_s = record { limits = omega arith; bucks = omega arith; ldos = omega arith }

pair_d : Pair D0 D1
unfolding vref_of
pair_d = record { limits = omega arith; bucks = omega arith; ldos = omega arith }

-- what the higher limit tells: neither row is met, the low one only, or the high one
data Rows (lo hi : HpsysDvfsMode) (b l x : ℕ) : Type 0 where
  neither : x ≡ 0 → Rows lo hi b l x
  low : x ≡ limit_hz lo → buck lo ≤ b → ldo_of lo ≤ l → Rows lo hi b l x
  high : x ≡ limit_hz hi → buck hi ≤ b → ldo_of hi ≤ l → Rows lo hi b l x

module _ (lo hi : HpsysDvfsMode) (b l : ℕ) where
  rows : Rows lo hi b l (higher lo hi b l)
  unfolding higher met
  rows = go (leb (buck hi) b) (leb (ldo_of hi) l) (leb (buck lo) b) (leb (ldo_of lo) l) refl refl refl refl
    where
      go : (p q u v : Bool) → leb (buck hi) b ≡ p → leb (ldo_of hi) l ≡ q → leb (buck lo) b ≡ u → leb (ldo_of lo) l ≡ v →
          Rows lo hi b l (cond (p && q) (limit_hz hi) (cond (u && v) (limit_hz lo) 0))
      go true true u v e f g h = high refl (leb-true (buck hi) b e) (leb-true (ldo_of hi) l f)
      go true false true true e f g h = low refl (leb-true (buck lo) b g) (leb-true (ldo_of lo) l h)
      go true false true false e f g h = neither refl
      go true false false v e f g h = neither refl
      go false q true true e f g h = low refl (leb-true (buck lo) b g) (leb-true (ldo_of lo) l h)
      go false q true false e f g h = neither refl
      go false q false v e f g h = neither refl

-- one of the two
pub data Of (lo hi : HpsysDvfsMode) : HpsysDvfsMode → Type 0 where
  first : Of lo hi lo
  second : Of lo hi hi

module _ (lo hi : HpsysDvfsMode) (c : Pair lo hi) (b l : ℕ) where
  most : higher lo hi b l ≤ limit_hz hi
  most = go (rows lo hi b l)
    where
      go : Rows lo hi b l (higher lo hi b l) → higher lo hi b l ≤ limit_hz hi
      go (neither e) = omega arith
      go (low e q w) = omega (arith, c.limits)
      go (high e q w) = omega arith

  -- a row that is met is carried
  on : {m : HpsysDvfsMode} → Of lo hi m → buck m ≤ b → ldo_of m ≤ l → limit_hz m ≤ higher lo hi b l
  unfolding higher met
  on first p q = rw (le-leb (buck lo) b p, le-leb (ldo_of lo) l q) (go (leb (buck hi) b && leb (ldo_of hi) l))
    where
      go : (t : Bool) → limit_hz lo ≤ cond t (limit_hz hi) (limit_hz lo)
      go true = omega (arith, c.limits)
      go false = omega arith
  on second p q = rw (le-leb (buck hi) b p, le-leb (ldo_of hi) l q) (omega arith)

module _ (lo hi : HpsysDvfsMode) (c : Pair lo hi) (b l : ℕ) where
  -- the buck of a row above the limit does not lower it
  climb : {m : HpsysDvfsMode} → Of lo hi m → higher lo hi b l < limit_hz m → higher lo hi b l ≤ higher lo hi (buck m) l
  climb = go (rows lo hi b l)
    where
      go : Rows lo hi b l (higher lo hi b l) → {m : HpsysDvfsMode} → Of lo hi m → higher lo hi b l < limit_hz m → higher lo hi b l ≤ higher lo hi (buck m) l
      go (neither e) o u = omega arith
      go (low e q w) first u = absurd (omega arith)
      go (low e q w) second u = omega (arith, on lo hi c (buck hi) l first c.bucks w)
      go (high e q w) first u = absurd (omega (arith, c.limits))
      go (high e q w) second u = absurd (omega arith)

  -- that of a row within the limit leaves it carried
  ease : {m : HpsysDvfsMode} → Of lo hi m → limit_hz m ≤ higher lo hi b l → 0 < limit_hz m → limit_hz m ≤ higher lo hi (buck m) l
  ease = go (rows lo hi b l)
    where
      go : Rows lo hi b l (higher lo hi b l) → {m : HpsysDvfsMode} → Of lo hi m → limit_hz m ≤ higher lo hi b l → 0 < limit_hz m → limit_hz m ≤ higher lo hi (buck m) l
      go (neither e) o u p = absurd (omega arith)
      go (low e q w) first u p = on lo hi c (buck lo) l first (omega arith) w
      go (low e q w) second u p = absurd (omega (arith, c.limits))
      go (high e q w) first u p = on lo hi c (buck lo) l first (omega arith) (omega (arith, c.ldos))
      go (high e q w) second u p = on lo hi c (buck hi) l second (omega arith) w

-- the active supply's limit, by which supply it is
abbrev on_supply : Bool → ℕ → ℕ → ℕ → ℕ → ℕ
on_supply t b l b' l' = cond t (higher S0 S1 b l) (higher D0 D1 b' l')

module _ (s b l b' l' : ℕ) {m : HpsysDvfsMode} where
  -- the S supply goes up to a row above the limit
  pub up_s : Of S0 S1 m → rail_of s b l b' l' < limit_hz m →
      (rail_of s b l b' l' ≤ rail_of s (buck m) l b' l') × (rail_of s b l b' l' ≤ rail_of s (buck m) (ldo_of m) b' l')
  up_s o = go (eqb s 0)
    where
      go : (t : Bool) → on_supply t b l b' l' < limit_hz m →
          (on_supply t b l b' l' ≤ on_supply t (buck m) l b' l') × (on_supply t b l b' l' ≤ on_supply t (buck m) (ldo_of m) b' l')
      go true u = (climb S0 S1 pair_s b l o u, omega (arith, on S0 S1 pair_s (buck m) (ldo_of m) o (omega arith) (omega arith)))
      go false u = (omega arith, omega arith)

  -- and down to one within it
  pub down_s : Of S0 S1 m → limit_hz m ≤ rail_of s b l b' l' → 48000000 < limit_hz m →
      (limit_hz m ≤ rail_of s (buck m) l b' l') × (limit_hz m ≤ rail_of s (buck m) (ldo_of m) b' l')
  down_s o h p = go (eqb s 0) h
    where
      go : (t : Bool) → limit_hz m ≤ on_supply t b l b' l' →
          (limit_hz m ≤ on_supply t (buck m) l b' l') × (limit_hz m ≤ on_supply t (buck m) (ldo_of m) b' l')
      go true u = (ease S0 S1 pair_s b l o u (omega arith), on S0 S1 pair_s (buck m) (ldo_of m) o (omega arith) (omega arith))
      go false u = absurd (omega (arith, most D0 D1 pair_d b' l'))

  -- supply S on such a row
  pub at_s : Of S0 S1 m → limit_hz m ≤ rail_of 0 (buck m) (ldo_of m) b' l'
  at_s o = on S0 S1 pair_s (buck m) (ldo_of m) o (omega arith) (omega arith)

  -- the D supply, where its limit is 48 MHz or the S supply carries that
  pub down_d : Of D0 D1 m → limit_hz m ≤ 48000000 → 0 < limit_hz m → 48000000 ≤ rail_of s b l b' l' →
      (limit_hz m ≤ rail_of s b l (buck m) l') × (limit_hz m ≤ rail_of s b l (buck m) (ldo_of m))
  down_d o h p = go (eqb s 0)
    where
      go : (t : Bool) → 48000000 ≤ on_supply t b l b' l' →
          (limit_hz m ≤ on_supply t b l (buck m) l') × (limit_hz m ≤ on_supply t b l (buck m) (ldo_of m))
      go true u = (omega arith, omega arith)
      go false u = (ease D0 D1 pair_d b' l' o (omega arith) p, on D0 D1 pair_d (buck m) (ldo_of m) o (omega arith) (omega arith))

  pub at_d : Of D0 D1 m → limit_hz m ≤ rail_of 1 b l (buck m) (ldo_of m)
  at_d o = on D0 D1 pair_d (buck m) (ldo_of m) o (omega arith) (omega arith)

-- the D supply goes up to its high row: a supply that carries a clock below that limit is D
module _ (s b l b' l' : ℕ) where
  pub up_d : 0 < rail_of s b l b' l' → rail_of s b l b' l' < limit_hz D1 →
      (rail_of s b l b' l' ≤ rail_of s b l (buck D1) l') × (limit_hz D1 ≤ rail_of s b l (buck D1) (ldo_of D1))
  up_d = go (eqb s 0)
    where
      s_rail : Rows S0 S1 b l (higher S0 S1 b l) → 0 < higher S0 S1 b l → higher S0 S1 b l < limit_hz D1 → ⊥
      s_rail (neither e) p u = omega arith
      s_rail (low e q w) p u = omega arith
      s_rail (high e q w) p u = omega arith

      go : (t : Bool) → 0 < on_supply t b l b' l' → on_supply t b l b' l' < limit_hz D1 →
          (on_supply t b l b' l' ≤ on_supply t b l (buck D1) l') × (limit_hz D1 ≤ on_supply t b l (buck D1) (ldo_of D1))
      go true p u = absurd (s_rail (rows S0 S1 b l) p u)
      go false p u = (climb D0 D1 pair_d b' l' second u, on D0 D1 pair_d (buck D1) (ldo_of D1) second (omega arith) (omega arith))

  -- the rail limit is 240 MHz at most
  pub rail_most : rail_of s b l b' l' ≤ 240000000
  rail_most = go (eqb s 0)
    where
      go : (t : Bool) → on_supply t b l b' l' ≤ 240000000
      go true = most S0 S1 pair_s b l
      go false = omega (arith, most D0 D1 pair_d b' l')
