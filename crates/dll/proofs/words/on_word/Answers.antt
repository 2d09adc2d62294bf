-- `dll::words::on_word` meets its contract: the flag is the byte of half.
use mathlib.Core.Path.{refl}
use native.Mathlib.Omega.{arith}
use Rattle.dll.proofs.Fits.{flag_is, flag_most, dll_fits}
use Rattle.dll.proofs.words.on_word.Goals as goal

pub returns : goal.returns
returns c =
    simp (c.word.ensures, c.from.ensures, c.from-2.ensures, flag_is)
    (refl, dll_fits _ 1 _ _ c.requires.le_number.0 c.requires.le_number.1 (omega arith) (flag_most c.args.d.half) c.requires.stage_bound)
