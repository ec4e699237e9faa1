-- What a line of values asks, or what is wrong with it.
use Rattle.std.specs.Prelude.{◌≡◌, ℕ, ◌+◌, ◌<◌, ◌⊎◌, List, [], length, ℤ, Some, Ok, Err, codes, Result, ◌≢◌, slice_index_or}
use Rattle.cells.specs.Numbers.{number_of}
use Rattle.cells.specs.Parts.{cells}
use Rattle.dayfile.specs.declared.column.Column.{Column}
use Rattle.dayfile.specs.declared.column.Column.TheVariants.{Call, Unit, Minute, From, To, Kw, Price}
use Rattle.dayfile.specs.declared.fault.Fault.{Fault}
use Rattle.dayfile.specs.declared.fault.Fault.TheVariants as fault
use Rattle.dayfile.specs.declared.row.Row.{Row}
use Rattle.dayfile.specs.declared.row.Row.TheVariants.{Register, File, Round, InForce}
use Rattle.dayfile.specs.Calls.{digit}

-- a cell with just this text
abbrev pub Is : List ℕ → List ℕ → Type 0
Is text cell = cell ≡ text

-- a cell with this number
abbrev pub Writes : ℤ → List ℕ → Type 0
Writes z cell = number_of cell ≡ Some z

-- what each column asks of its cell
abbrev pub under : (call unit minute from to kw price : List ℕ → Type 0) → Column → List ℕ → Type 0
under call unit minute from to kw price Call = call
under call unit minute from to kw price Unit = unit
under call unit minute from to kw price Minute = minute
under call unit minute from to kw price From = from
under call unit minute from to kw price To = to
under call unit minute from to kw price Kw = kw
under call unit minute from to kw price Price = price

abbrev pub blank : List ℕ → Type 0
blank = Is (codes "-")

-- the cells in which a row is written, under the columns call, unit, minute, from, to, kw and price
abbrev pub Holds : Row → Column → List ℕ → Type 0
Holds (Register unit kw price) = under (Is (codes "R")) (Writes unit) blank blank blank (Writes kw) (Writes price)
Holds (File unit minute from to kw price) = under (Is (codes "F")) (Writes unit) (Writes minute) (Writes from) (Writes to) (Writes kw) (Writes price)
Holds (Round kind unit minute price) = under (Is (digit kind)) (Writes unit) (Writes minute) blank blank blank (Writes price)
Holds (InForce unit hour) = under (Is (codes "Q")) (Writes unit) blank (Writes hour) blank blank blank

-- the row has the cell at this place of a line, where the columns stand in the order cs
abbrev pub HasAt : List Column → List ℕ → Row → ℕ → Type 0
HasAt cs line row k = Holds row (slice_index_or cs k Call) (slice_index_or (cells line) k [])

-- the line is written as the row: one cell for each column, and the row has each of them
pub record Asks (cs : List Column) (line : List ℕ) (row : Row) : Type 0 where
  pub count : length (cells line) ≡ length cs
  pub each : (k : ℕ) → k < length cs → HasAt cs line row k

-- the cell under `call` stands at this place
pub record CallAt (cs : List Column) (line : List ℕ) (k : ℕ) : Type 0 where
  pub count : length (cells line) ≡ length cs
  pub there : k < length cs
  pub call : slice_index_or cs k Call ≡ Call

-- the call cell is bad: no row has it
pub record BadCall (cs : List Column) (line : List ℕ) (k : ℕ) : Type 0 where
  pub here : CallAt cs line k
  pub none : (row : Row) → HasAt cs line row k → ⊥

-- the call cell is good, and the cell at place k is the leftmost that no row with that call has
pub record BadCell (cs : List Column) (line : List ℕ) (k : ℕ) : Type 0 where
  pub at : ℕ
  pub here : CallAt cs line at
  pub called : (row : Row) × HasAt cs line row at
  pub there : k < length cs
  pub before : (j : ℕ) → j < k → (row : Row) × HasAt cs line row at × HasAt cs line row j
  pub none : (row : Row) → HasAt cs line row at → HasAt cs line row k → ⊥

-- what is wrong with a line of values, which is line n of its file
abbrev pub Wrong : List Column → ℕ → List ℕ → Fault → Type 0
Wrong cs n line f =
    ((length (cells line) ≢ length cs) × (f ≡ fault.CellCount n (length (cells line))))
    ⊎ (((k : ℕ) × BadCall cs line k × (f ≡ fault.BadCell n (k + 1)))
    ⊎ ((k : ℕ) × BadCell cs line k × (f ≡ fault.BadCell n (k + 1))))

-- what a line of values gives
abbrev pub RowRead : List Column → ℕ → List ℕ → Result Row Fault → Type 0
RowRead cs n line (Ok row) = Asks cs line row
RowRead cs n line (Err f) = Wrong cs n line f
