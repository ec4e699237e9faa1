-- What tells the cells of a line and the lines of a file: put together again they are the bytes.
use Rattle.std.specs.Prelude.{◌≡◌, ℕ, ◌-◌, ◌<◌, ◌⊎◌, List, [], ◌∷◌, ◌++◌, length, ◌≢◌, slice_index_or, All}
use Rattle.std.specs.List.{join_with_byte, flat_map}
use Rattle.cells.specs.Parts.{cells, lines}

-- the byte stands in none of the parts
abbrev pub NoneHas : ℕ → List (List ℕ) → Type 0
NoneHas byte ps = All (All (λ b. b ≢ byte)) ps

-- cs are the cells of a line: at least one, none with a comma, and joined with commas they are the line
pub record Cells (line : List ℕ) (cs : List (List ℕ)) : Type 0 where
  pub some : 0 < length cs
  pub plain : NoneHas 44 cs
  pub whole : join_with_byte 44 cs ≡ line

-- the lines, each with a line feed after it
abbrev pub ended : List (List ℕ) → List ℕ
ended ls = flat_map (λ l. l ++ (10 ∷ [])) ls

-- ls are the lines of a file: none has a line feed, and each with a line feed after it they are the bytes,
-- or the bytes and one line feed more, where the last line is not empty
pub record Lines (bytes : List ℕ) (ls : List (List ℕ)) : Type 0 where
  pub plain : NoneHas 10 ls
  pub whole : (ended ls ≡ bytes) ⊎ ((ended ls ≡ bytes ++ (10 ∷ [])) × (0 < length (slice_index_or ls (length ls - 1) [])))

-- every line has these cells, and no others
abbrev pub CellsAreSo : Type 0
CellsAreSo = (line : List ℕ) → Cells line (cells line) × ((cs : List (List ℕ)) → Cells line cs → cs ≡ cells line)

-- every file has these lines, and no others
abbrev pub LinesAreSo : Type 0
LinesAreSo = (bytes : List ℕ) → Lines bytes (lines bytes) × ((ls : List (List ℕ)) → Lines bytes ls → ls ≡ lines bytes)
