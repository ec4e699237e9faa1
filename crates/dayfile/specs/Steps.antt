-- The steps in which the code reads a row. What they come to is said in Rows.
use Rattle.std.specs.Prelude.{◌≡◌, ℕ, ◌+◌, ◌<◌, Bool, true, false, cond, ◌||◌, List, [], ◌∷◌, length, ℤ, pos, is_some, Ok, Err, codes, Result, MatchResult, ◌≢◌, slice_index_or}
use Rattle.cells.specs.Numbers.{number_of}
use Rattle.cells.specs.Parts.{cells}
use Rattle.std.specs.List.{list_any, position_or_len}
use Rattle.std.specs.Option.{unwrap_or}
use Rattle.std.specs.Str.{bytes_eq}
use Rattle.dayfile.specs.declared.call.Call.{Call}
use Rattle.dayfile.specs.declared.call.Call.TheVariants.{Register, File, Round, InForce}
use Rattle.dayfile.specs.declared.column.Column.{Column}
use Rattle.dayfile.specs.declared.column.Column.TheVariants as column
use Rattle.dayfile.specs.declared.column.Column.TheVariants.{Minute, From, To, Kw, Price}
use Rattle.dayfile.specs.declared.fault.Fault.{Fault}
use Rattle.dayfile.specs.declared.fault.Fault.TheVariants as fault
use Rattle.dayfile.specs.declared.row.Row.{Row}
use Rattle.dayfile.specs.declared.row.Row.TheVariants as row
use Rattle.dayfile.specs.Calls.{letter_of}
use Rattle.dayfile.specs.Columns.{name_of}

-- the columns in which a row of a call has a number
abbrev pub used : Call → List Column
used Register = column.Unit ∷ (Kw ∷ (Price ∷ []))
used File = column.Unit ∷ (Minute ∷ (From ∷ (To ∷ (Kw ∷ (Price ∷ [])))))
used (Round kind) = column.Unit ∷ (Minute ∷ (Price ∷ []))
used InForce = column.Unit ∷ (From ∷ [])

-- one column, by its name
abbrev pub is : Column → Column → Bool
is c d = bytes_eq (name_of c) (name_of d)

abbrev pub uses : Call → Column → Bool
uses call c = list_any (is c) (used call)

-- in a row of a call a cell is a number where the call uses its column, and else `-`; the call's own cell is read by itself
abbrev pub good_cell : Call → Column → List ℕ → Bool
good_cell call c cell = is column.Call c || cond (uses call c) (is_some (number_of cell)) (bytes_eq cell (codes "-"))

-- the row of a call with the numbers of these columns
abbrev pub row_with : Call → (Column → ℤ) → Row
row_with Register z = row.Register (z column.Unit) (z Kw) (z Price)
row_with File z = row.File (z column.Unit) (z Minute) (z From) (z To) (z Kw) (z Price)
row_with (Round kind) z = row.Round kind (z column.Unit) (z Minute) (z Price)
row_with InForce z = row.InForce (z column.Unit) (z From)

-- the place of a column, or the count of columns where it has none
abbrev pub place_of : List Column → Column → ℕ
place_of cs c = position_or_len (is c) cs

-- the cell under a column
abbrev pub cell_under : List Column → List ℕ → Column → List ℕ
cell_under cs line c = slice_index_or (cells line) (place_of cs c) []

-- the cell under a column is a number
abbrev pub HasNumber : List Column → List ℕ → Column → Type 0
HasNumber cs line c = is_some (number_of (cell_under cs line c)) ≡ true

-- so is each that the call uses
abbrev pub HasNumbers : Call → List Column → List ℕ → Type 0
HasNumbers call cs line = (c : Column) → uses call c ≡ true → HasNumber cs line c

abbrev pub number_under : List Column → List ℕ → Column → ℤ
number_under cs line c = unwrap_or (number_of (cell_under cs line c)) (pos 0)

-- the call of a line: what the cell under `call` names, or fault 22 there
abbrev pub CallRead : List Column → ℕ → List ℕ → Result Call Fault → Type 0
CallRead cs n line r =
    MatchResult r (λ call. cell_under cs line column.Call ≡ letter_of call) (λ f. (f ≡ fault.BadCell n (place_of cs column.Call + 1)) × ((call : Call) → cell_under cs line column.Call ≢ letter_of call))

-- whether the cell at a place is good
abbrev pub good_at : Call → List Column → List ℕ → ℕ → Bool
good_at call cs line k = good_cell call (slice_index_or cs k column.Call) (slice_index_or (cells line) k [])

abbrev pub AllGood : Call → List Column → List ℕ → Type 0
AllGood call cs line = (k : ℕ) → k < length cs → good_at call cs line k ≡ true

-- all the cells are good, or the fault is at the first that is not
abbrev pub CellsChecked : Call → List Column → ℕ → List ℕ → Result (Unit {0}) Fault → Type 0
CellsChecked call cs n line (Ok u) = AllGood call cs line
CellsChecked call cs n line (Err f) = (k : ℕ) × (k < length cs) × (f ≡ fault.BadCell n (k + 1)) × (good_at call cs line k ≡ false) × ((j : ℕ) → j < k → good_at call cs line j ≡ true)
