-- What the supply rows hold fits the registers that it is stored in.
use mathlib.Core.Path.{◌≡◌, refl}
use mathlib.Core.Bool.{true}
use Rattle.record.specs.Bytes.{is_within}
use Rattle.register.specs.Word.{word_bytes}
use Rattle.register.specs.Codes.{fits_register, largest}
use Rattle.dvfs.specs.declared.hpsys.HpsysDvfsMode.{HpsysDvfsMode}
use Rattle.dvfs.specs.declared.hpsys.HpsysDvfsMode.TheVariants.{D0, D1, S0, S1}
use Rattle.dvfs.specs.Hpsys.{row_of}
use Rattle.dvfs_hpsys.specs.volts.{vref_of}

pub buck_fits : (t : HpsysDvfsMode) → (fits_register 13 (row_of t).buck ≡ true) × (fits_register 15 (row_of t).buck ≡ true)
unfolding fits_register is_within word_bytes largest
buck_fits D0 = (refl, refl)
buck_fits D1 = (refl, refl)
buck_fits S0 = (refl, refl)
buck_fits S1 = (refl, refl)

pub ldo_fits : (t : HpsysDvfsMode) → fits_register 14 (row_of t).ldo ≡ true
unfolding fits_register is_within word_bytes largest
ldo_fits D0 = refl
ldo_fits D1 = refl
ldo_fits S0 = refl
ldo_fits S1 = refl

pub vref_fits : (t : HpsysDvfsMode) → fits_register 16 (vref_of t) ≡ true
unfolding fits_register is_within word_bytes largest vref_of
vref_fits D0 = refl
vref_fits D1 = refl
vref_fits S0 = refl
vref_fits S1 = refl

pub timing_fits : (t : HpsysDvfsMode) → fits_register 17 (row_of t).ulpmcr ≡ true
unfolding fits_register is_within word_bytes largest
timing_fits D0 = refl
timing_fits D1 = refl
timing_fits S0 = refl
timing_fits S1 = refl

pub supply_fits : (fits_register 12 0 ≡ true) × (fits_register 12 1 ≡ true)
unfolding fits_register is_within word_bytes largest
supply_fits = (refl, refl)
