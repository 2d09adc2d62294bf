-- What `calibrate_hrc48` of rcc/clock_config.rs leaves, on the bytes lent to it: `b` a head's, `j` a journal, `a` answers.
use Rattle.std.specs.Prelude.{ℕ, not, List, [], ◌∷◌, ◌++◌}
use Rattle.record.specs.Refusals.{refuse, first_of}
use Rattle.head.specs.Record.{head_of}
use Rattle.call.specs.Call.{Left, answers_tests, performed}
use Rattle.calibration.specs.Calibration.{calibrate_hrc48}

-- "Calls test 17, 18, the head's 1 to 3, then the rest": `calibrate_hrc48`, with 31
abbrev pub calibration_tests : List ℕ → List ℕ
calibration_tests b = refuse 31 (not (head_of b).hxt48_ready) ∷ []

unfoldable pub calibration : List ℕ → List ℕ → List ℕ → Left
calibration b j a = performed (first_of (answers_tests b j a ++ calibration_tests b)) (calibrate_hrc48 a) 0 b j
