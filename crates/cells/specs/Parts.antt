-- The parts of a text between marks: the cells of a line, the lines of a file.
use Rattle.std.specs.Prelude.{◌≡◌, ℕ, ◌+◌, ◌<◌, List, [], ◌∷◌, length, take, drop, ◌==◌, nat_lt, slice_index_or, Option, Some, None, if◌then◌else◌}
use Rattle.std.specs.List.{before_first, slice_split, sum_by}

-- the bytes before the first mark, or all where there is none
abbrev pub up_to : ℕ → List ℕ → List ℕ
up_to mark bs = before_first (λ b. b == mark) bs

-- the parts between marks: where no mark stands, all the bytes are one part
abbrev pub parts : ℕ → List ℕ → List (List ℕ)
parts mark bs = slice_split (λ b. b == mark) bs

-- the cells of a line, between commas (byte 44): an empty line is one empty cell
abbrev pub cells : List ℕ → List (List ℕ)
cells line = parts 44 line

-- the parts without the last, where that is empty
abbrev pub trimmed : List (List ℕ) → List (List ℕ)
trimmed [] = []
trimmed (p ∷ (q ∷ ps)) = p ∷ trimmed (q ∷ ps)
trimmed ([] ∷ []) = []
trimmed ((b ∷ p) ∷ []) = (b ∷ p) ∷ []

-- the lines of a file, each ended by a line feed (byte 10), which may be wanting after the last: no bytes are no line
abbrev pub lines : List ℕ → List (List ℕ)
lines bytes = trimmed (parts 10 bytes)

-- where a cell begins in its line: after the cells before it, each with its comma
abbrev pub start_of : List (List ℕ) → ℕ → ℕ
start_of cs k = sum_by (λ c. length c + 1) (take k cs)

-- where the cell at a place begins in some bytes, if the line that begins at `from` has it
abbrev pub start_at : List ℕ → ℕ → ℕ → Option ℕ
start_at bytes from k = if nat_lt k (length (cells (drop from bytes))) then Some (from + start_of (cells (drop from bytes)) k) else None

-- the cell at a place of the line that begins at `from` in some bytes: what it holds, its offset, and that it stands there
pub record CellAt (bytes : List ℕ) (from k at : ℕ) (cell : List ℕ) : Type 0 where
  pub among : k < length (cells (drop from bytes))
  pub holds : cell ≡ slice_index_or (cells (drop from bytes)) k []
  pub begins : at ≡ from + start_of (cells (drop from bytes)) k
  pub stands : cell ≡ take (length cell) (drop at bytes)
