-- The plan record of document 01, as bytes and as a value.
use Rattle.std.specs.Prelude.{ℕ, List, [], ◌∷◌, cond, eqb, get_or, Result, Ok, Err}
use Rattle.plan.specs.declared.Plan.{Plan}
use Rattle.plan.specs.codes.{dll_of}
unfoldable pub use Rattle.plan.specs.tests.{record_refusal}

-- the fields of a plan record in their order
unfoldable pub plan_of : List ℕ → Plan
plan_of b = record {
  sys = get_or b 3 0;
  hdiv = get_or b 4 0;
  pdiv1 = get_or b 5 0;
  pdiv2 = get_or b 6 0;
  dll1 = dll_of (get_or b 7 0) (get_or b 8 0) (get_or b 9 0);
  dll2 = dll_of (get_or b 10 0) (get_or b 11 0) (get_or b 12 0);
  hrc48_calibrate = eqb (get_or b 13 0) 1;
  usb = eqb (get_or b 14 0) 1;
  wdtsel = get_or b 15 0;
  usbsel = get_or b 16 0;
  perisel = get_or b 17 0;
  mpi1sel = get_or b 18 0;
  mpi2sel = get_or b 19 0;
}

-- what a slice of bytes decodes to: a plan, or the number of its refusal
unfoldable pub decoded : List ℕ → Result Plan ℕ
decoded b = cond (eqb (record_refusal b) 0) (Ok (plan_of b)) (Err (record_refusal b))

-- "The default plan, hex: 00 12 01 03 01 01 06 01 09 00 01 0B 00 01 01 01 00 01 00 02."
abbrev pub default_record : List ℕ
default_record =
    0x00
    ∷ 0x12
    ∷ 0x01
    ∷ 0x03
    ∷ 0x01
    ∷ 0x01
    ∷ 0x06
    ∷ 0x01
    ∷ 0x09
    ∷ 0x00
    ∷ 0x01
    ∷ 0x0B
    ∷ 0x00
    ∷ 0x01
    ∷ 0x01
    ∷ 0x01
    ∷ 0x00
    ∷ 0x01
    ∷ 0x00
    ∷ 0x02
    ∷ []

-- `ConfigBuilder::sysclk()`: HXT48, hdiv 1, no DLL, no calibration, no USB, wdt Lrc32, flash on Peri
abbrev pub sysclk_record : List ℕ
sysclk_record = 0 ∷ 18 ∷ 1 ∷ 1 ∷ 1 ∷ 0 ∷ 0 ∷ 0 ∷ 0 ∷ 0 ∷ 0 ∷ 0 ∷ 0 ∷ 0 ∷ 0 ∷ 1 ∷ 0 ∷ 1 ∷ 0 ∷ 0 ∷ []
