-- The clocks that a call leaves beside a head.
use Rattle.std.specs.Prelude.{ℕ, List, ◌++◌, take, drop}

-- "the audio PLL pair unaltered": the last two of the 15 are those of the former ones
abbrev pub with_audio_of : List ℕ → List ℕ → List ℕ
with_audio_of former clocks = take 13 clocks ++ drop 13 former
