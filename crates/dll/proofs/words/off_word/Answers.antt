-- `dll::words::off_word` meets its contract: half and stage stay.
use mathlib.Core.Path.{refl}
use native.Mathlib.Omega.{arith}
use Rattle.dll.proofs.Fits.{dll_fits, dll_codes}
use Rattle.dll.proofs.words.off_word.Goals as goal

pub returns : goal.returns
returns c =
    let codes = dll_codes c.args.number c.args.h.now c.requires.encodable c.requires.le_number.0 c.requires.le_number.1 in
    simp (c.word.ensures, c.b.ensures, c.c.ensures) (refl, dll_fits _ 0 _ _ c.requires.le_number.0 c.requires.le_number.1 (omega arith) codes.0 codes.1)
