-- The faults of a day file, each with its layer, line, cell and number.
use Rattle.std.specs.Prelude.{ℕ}
use Rattle.dayfile.specs.declared.fault.Fault.{Fault}
use Rattle.dayfile.specs.declared.fault.Fault.TheVariants.{Names, BadCell, CellCount, Refused}
use Rattle.dayfile.specs.declared.fault.Layer.TheVariants.{File, Row, Book}
use Rattle.dayfile.specs.declared.fault.Told.{Told}

-- 21: in the line of names, which is line 1, this cell is no new name, or names are missing from it on
abbrev pub names_fault : ℕ → Told
names_fault cell = record { layer = File; line = 1; cell = cell; number = 21 }

-- 22: this cell of a line of values is bad
abbrev pub cell_fault : ℕ → ℕ → Told
cell_fault line cell = record { layer = Row; line = line; cell = cell; number = 22 }

-- 23: a line of values has not one cell for each column; told with the count of its cells
abbrev pub count_fault : ℕ → ℕ → Told
count_fault line count = record { layer = Row; line = line; cell = count; number = 23 }

-- what the book refuses: its number as it is, and no cell
abbrev pub book_fault : ℕ → ℕ → Told
book_fault line number = record { layer = Book; line = line; cell = 0; number = number }

abbrev pub told : Fault → Told
told (Names cell) = names_fault cell
told (BadCell line cell) = cell_fault line cell
told (CellCount line count) = count_fault line count
told (Refused line number) = book_fault line number
