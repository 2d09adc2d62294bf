-- The registers of a head record.
use Rattle.std.specs.Prelude.{ℕ, List, ◌∷◌, drop}
use Rattle.record.specs.Items.{items}
use Rattle.layout.specs.Layout.{register_size}
use Rattle.register.specs.Word.{word_in}

-- "registers 1 to 34", by number
unfoldable pub registers_in : List ℕ → List ℕ
registers_in b = 0 ∷ items word_in register_size 34 (drop register_size b)
