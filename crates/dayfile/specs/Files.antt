-- What is read from a day file, line by line.
use Rattle.std.specs.Prelude.{◌≡◌, ℕ, ◌+◌, List, [], ◌∷◌, drop, Some, None, Ok, Err, Option, slice_index_or}
use Rattle.cells.specs.Parts.{lines}
use Rattle.dayfile.specs.declared.column.Column.{Column}
use Rattle.dayfile.specs.declared.entry.Entry.{Entry}
use Rattle.dayfile.specs.declared.fault.Fault.{Fault}
use Rattle.dayfile.specs.declared.reader.RowReader.{RowReader}
use Rattle.dayfile.specs.Names.{NamesRead}
use Rattle.dayfile.specs.Rows.{RowRead}

-- the line of names: an empty one where the file has no line
abbrev pub name_line : List ℕ → List ℕ
name_line bytes = slice_index_or (lines bytes) 0 []

-- the order of the columns that a row reader reads in, and the lines of values that are left to it
abbrev pub order_in : RowReader → List Column
order_in rows = rows.order.columns

abbrev pub left : RowReader → List (List ℕ)
left rows = lines (drop rows.at rows.bytes.now)

-- the rows of a file, none of them read: the lines after the names, in the order that these give; none where they are refused
pub record Opened (bytes : List ℕ) (rows : RowReader) : Type 0 where
  pub unread : rows.read ≡ 0
  pub good : (cs : List Column) → NamesRead (name_line bytes) (Ok cs) → (order_in rows ≡ cs) × (left rows ≡ drop 1 (lines bytes))
  pub refused : (f : Fault) → NamesRead (name_line bytes) (Err f) → left rows ≡ []

-- one answer of a row reader: none at the end, and nothing moves; else what the first line left gives, with its number in the file
abbrev pub Next : RowReader → Option Entry → RowReader → Type 0
Next rows None rows' = (left rows ≡ []) × (rows' ≡ rows)
Next rows (Some e) rows' =
    (line : List ℕ) × (left rows ≡ (line ∷ left rows')) × (e.line ≡ rows.read + 2) × RowRead (order_in rows) e.line line e.row × (order_in rows' ≡ order_in rows) × (rows'.read ≡ rows.read + 1)
