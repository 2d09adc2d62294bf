-- A flag that is 1 fits the registers that `init` turns on.
use mathlib.Core.Path.{◌≡◌, refl}
use mathlib.Core.Bool.{true}
use Rattle.record.specs.Bytes.{is_within}
use Rattle.register.specs.Numbers.{SYSCLK, PERI, LOW_POWER, HXT48_REQUEST, LRC32_ON, DLL_BUFFER_ON}
use Rattle.register.specs.Word.{word_bytes}
use Rattle.register.specs.Codes.{fits_register, largest}

-- one by one
pub record FlagsFit : Type 0 where
  pub sysclk : fits_register SYSCLK 1 ≡ true
  pub peri : fits_register PERI 1 ≡ true
  pub low_power : fits_register LOW_POWER 1 ≡ true
  pub hxt48 : fits_register HXT48_REQUEST 1 ≡ true
  pub lrc32 : fits_register LRC32_ON 1 ≡ true
  pub buffer : fits_register DLL_BUFFER_ON 1 ≡ true

pub flags_fit : FlagsFit
unfolding fits_register is_within word_bytes largest
flags_fit = record { sysclk = refl; peri = refl; low_power = refl; hxt48 = refl; lrc32 = refl; buffer = refl }
