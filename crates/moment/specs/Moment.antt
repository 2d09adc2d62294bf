-- A moment: a head with the stores of entries put in.
use Rattle.std.specs.Prelude.{ℕ, ◌/◌, ◌%◌, Bool, true, not, ◌&&◌, ◌||◌, List, [], ◌∷◌, eqb, ltb}
use Rattle.record.specs.Refusals.{refuse}
use Rattle.register.specs.Codes.{fits_register}
use Rattle.head.specs.declared.Head.{Head}
use Rattle.head.specs.Head.{with_registers}
use Rattle.journal.specs.Run.{replayed}
use Rattle.call.specs.Call.{Left, head_call}

-- a store of a value within the codes of one of "registers 1 to 34", a delay, number 48, or a wait, number 49
abbrev pub is_of : ℕ → ℕ → Bool
is_of number value = eqb number 48 || (eqb number 49 || (ltb 0 number && (ltb number 35 && fits_register number value)))

-- "An entry is number × 16,777,216 plus the 24-bit value after the store"
unfoldable pub is_entry : ℕ → Bool
is_entry e = is_of (e / 16777216) (e % 16777216)

unfoldable pub are_entries : List ℕ → Bool
are_entries [] = true
are_entries (e ∷ es) = is_entry e && are_entries es

-- "the head a call got with the stores of its first entries .. put in"
abbrev pub with_stores : List ℕ → Head → Head
with_stores es h = with_registers (replayed h.regs es) h

-- the head's 1 to 3, then "3 a byte outside its codes" of an entry
unfoldable pub moment : List ℕ → List ℕ → Left
moment es b = head_call (refuse 3 (not (are_entries es)) ∷ []) (with_stores es) b
