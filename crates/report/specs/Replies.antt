-- The bytes of a printed line.
use Rattle.std.specs.Prelude.{ℕ, List, ◌++◌, Some, None, Ok, Err, codes, decimal, Option, Result}
use Rattle.dayfile.specs.declared.entry.Entry.{Entry}
use Rattle.dayfile.specs.declared.fault.Fault.{Fault}
use Rattle.dayfile.specs.declared.fault.Layer.{Layer}
use Rattle.dayfile.specs.declared.fault.Layer.TheVariants.{File, Row, Book}
use Rattle.dayfile.specs.declared.fault.Told.{Told}
use Rattle.dayfile.specs.declared.row.Row as row
use Rattle.dayfile.specs.Faults.{told}
use Rattle.report.specs.declared.reply.Reply.{Reply}

-- the names of the printed columns
abbrev pub header : List ℕ
header = codes "line,answer,p,q,r,s\n"

-- a cell in decimal, or `-` where there is none
abbrev pub shown_cell : Option ℕ → List ℕ
shown_cell (Some n) = decimal n
shown_cell None = codes "-"

-- the line of the file, the answer and the cell, and `-` for the rest
abbrev pub reply_text : Reply → List ℕ
reply_text x = decimal x.line ++ (codes "," ++ (decimal x.answer ++ (codes "," ++ (shown_cell x.cell ++ codes ",-,-,-"))))

abbrev pub reply_line : Reply → List ℕ
reply_line x = reply_text x ++ codes "\n"

-- the faults of a file and of a row show their cell, and what the book refuses shows none
abbrev pub cell_of : Layer → ℕ → Option ℕ
cell_of File cell = Some cell
cell_of Row cell = Some cell
cell_of Book cell = None

-- whatever is told of a fault
abbrev pub told_reply : Told → Reply
told_reply t = record { line = t.line; answer = t.number; cell = cell_of t.layer t.cell }

abbrev pub fault_reply : Fault → Reply
fault_reply f = told_reply (told f)

-- 0 where the row is well formed
abbrev pub row_reply : ℕ → Result row.Row Fault → Reply
row_reply n (Ok r) = record { line = n; answer = 0; cell = None }
row_reply n (Err f) = fault_reply f

-- whatever is told of the row's fault
abbrev pub told_row_reply : ℕ → Result row.Row Told → Reply
told_row_reply n (Ok r) = record { line = n; answer = 0; cell = None }
told_row_reply n (Err t) = told_reply t

abbrev pub entry_reply : Entry → Reply
entry_reply e = row_reply e.line e.row
