-- A line of names, and a line of values, give one answer and no other.
use Rattle.std.specs.Prelude.{◌≡◌, ℕ, List, length, Result}
use Rattle.dayfile.specs.declared.column.Column.{Column}
use Rattle.dayfile.specs.declared.fault.Fault.{Fault}
use Rattle.dayfile.specs.declared.row.Row.{Row}
use Rattle.dayfile.specs.Columns.{columns}
use Rattle.dayfile.specs.Names.{Distinct, NamesRead}
use Rattle.dayfile.specs.Rows.{RowRead}

abbrev pub NamesOnly : Type 0
NamesOnly = (line : List ℕ) (r s : Result (List Column) Fault) → NamesRead line r → NamesRead line s → r ≡ s

-- where the seven columns stand in some order
abbrev pub RowsOnly : Type 0
RowsOnly = (cs : List Column) → Distinct cs → length cs ≡ length columns → (n : ℕ) (line : List ℕ) (r s : Result Row Fault) → RowRead cs n line r → RowRead cs n line s → r ≡ s
