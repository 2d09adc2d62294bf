-- Where a reader of lines stands in its buffers, and what its lines say of the bytes of a file.
use Rattle.std.specs.Prelude.{ℕ, ◌≤◌, ◌≡◌, ◌≢◌, List, [], ◌∷◌, ◌++◌, length, take, drop, ⊤, Option, None, Some, Result, Ok, Err}
use Rattle.std.specs.List.{All}
use Rattle.std.specs.Io.KnownBytes.{IsAtEnd}
use Rattle.text.specs.declared.lines.Reader.{Reader}
use Rattle.text.specs.declared.lines.Fault.{Fault}
use Rattle.text.specs.declared.lines.Fault.TheVariants.{Long, Cut, Unread}

-- the bytes that are still to be taken lie within a block of this length
abbrev pub Within : Reader → ℕ → Type 0
Within reader block = (reader.at ≤ reader.have) × (reader.have ≤ block)

-- a line lies within a line buffer
abbrev pub LineWithin : Result (Option ℕ) Fault → ℕ → Type 0
LineWithin (Ok (Some length)) line = length ≤ line
LineWithin (Ok None) line = Unit
LineWithin (Err fault) line = Unit

-- the bytes of a block that are still to be taken
abbrev pub held : Reader → List ℕ → List ℕ
held reader block = drop reader.at (take reader.have block)

-- where the bytes that a file has left are known, `taken` was taken of those held before and of the file's, and `after` is held
abbrev pub Takes : Option (List ℕ) → Option (List ℕ) → List ℕ → List ℕ → List ℕ → Type 0
Takes None new before after taken = ⊤
Takes (Some xs) None before after taken = ⊥
Takes (Some xs) (Some ys) before after taken = before ++ xs ≡ taken ++ (after ++ ys)

-- a byte is the next that was held or that the file has; at the end no byte is left
abbrev pub GivesByte : Result (Option ℕ) Fault → Option (List ℕ) → Option (List ℕ) → List ℕ → List ℕ → Type 0
GivesByte (Ok (Some b)) old new before after = Takes old new before after (b ∷ [])
GivesByte (Ok None) old new before after = Takes old new before [] [] × IsAtEnd new
GivesByte (Err fault) old new before after = fault ≡ Unread

-- none of the bytes is a line feed
abbrev pub NoFeed : List ℕ → Type 0
NoFeed s = All (λ b. b ≢ 10) s

-- what keeps a file from being read: a line with more bytes than the line buffer holds, or a last line with no line feed
abbrev pub Faulty : Fault → Option (List ℕ) → Option (List ℕ) → List ℕ → List ℕ → Type 0
Faulty Long old new before line = (after : List ℕ) × Takes old new before after line × NoFeed line
Faulty Cut old new before line = (n : ℕ) × Takes old new before [] (take n line) × NoFeed (take n line) × IsAtEnd new
Faulty Unread old new before line = Unit

-- a whole line is the bytes up to the next line feed, which is taken too; at the end no byte is left
abbrev pub Reads : Result (Option ℕ) Fault → Option (List ℕ) → Option (List ℕ) → List ℕ → List ℕ → List ℕ → Type 0
Reads (Ok (Some n)) old new before after line = Takes old new before after (take n line ++ (10 ∷ [])) × NoFeed (take n line)
Reads (Ok None) old new before after line = Takes old new before [] [] × IsAtEnd new
Reads (Err fault) old new before after line = Faulty fault old new before line
