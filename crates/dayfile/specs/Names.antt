-- What the line of names says: the order of the columns, or the first cell that is no new name.
use Rattle.std.specs.Prelude.{◌≡◌, ℕ, ◌+◌, ◌<◌, List, [], map, length, take, Ok, Err, Result, ◌≢◌, slice_index_or}
use Rattle.cells.specs.Parts.{cells}
use Rattle.dayfile.specs.declared.column.Column.{Column}
use Rattle.dayfile.specs.declared.column.Column.TheVariants.{Call}
use Rattle.dayfile.specs.declared.fault.Fault.{Fault}
use Rattle.dayfile.specs.declared.fault.Fault.TheVariants as fault
use Rattle.dayfile.specs.Columns.{columns, name_of}

-- the column stands among these
abbrev pub Among : Column → List Column → Type 0
Among c cs = (k : ℕ) × (k < length cs) × (slice_index_or cs k Call ≡ c)

-- no column stands twice among these
abbrev pub Distinct : List Column → Type 0
Distinct cs = (j k : ℕ) → j < k → k < length cs → slice_index_or cs j Call ≢ slice_index_or cs k Call

-- the cell after those of the columns seen is a new name, that of c
pub record New (line : List ℕ) (seen : List Column) (c : Column) : Type 0 where
  pub there : length seen < length (cells line)
  pub named : slice_index_or (cells line) (length seen) [] ≡ name_of c
  pub fresh : Among c seen → ⊥

-- the line begins with the names of the columns seen, each once
pub record Begins (line : List ℕ) (seen : List Column) : Type 0 where
  pub names : take (length seen) (cells line) ≡ map name_of seen
  pub once : Distinct seen

-- cs is the order of the columns: the line has their names and no more cells, and every column is among them
pub record Names (line : List ℕ) (cs : List Column) : Type 0 where
  pub begins : Begins line cs
  pub whole : length (cells line) ≡ length cs
  pub all : (c : Column) → Among c cs
  pub count : length cs ≡ length columns

-- the line begins with so many names, and then the next cell is no new name, or there is none and names are missing
pub record Stops (line : List ℕ) (seen : List Column) : Type 0 where
  pub begins : Begins line seen
  pub next : (c : Column) → New line seen c → ⊥
  pub missing : length (cells line) ≡ length seen → length seen < length columns

-- what a line of names gives: the order of the columns, or fault 21 at the first cell that is no new name, or one past the last
abbrev pub NamesRead : List ℕ → Result (List Column) Fault → Type 0
NamesRead line (Ok cs) = Names line cs
NamesRead line (Err f) = (seen : List Column) × Stops line seen × (f ≡ fault.Names (length seen + 1))
