-- What is printed for a day file, whole.
use Rattle.std.specs.Prelude.{◌≡◌, ℕ, ◌+◌, ◌<◌, ◌≤◌, ◌⊎◌, List, [], ◌∷◌, ◌++◌, length, drop, Ok, Err}
use Rattle.cells.specs.Parts.{lines}
use Rattle.dayfile.specs.declared.column.Column.{Column}
use Rattle.dayfile.specs.declared.entry.Entry.{Entry}
use Rattle.dayfile.specs.declared.fault.Fault.{Fault}
use Rattle.dayfile.specs.declared.fault.Fault.TheVariants as fault
use Rattle.dayfile.specs.Files.{name_line}
use Rattle.dayfile.specs.Names.{NamesRead}
use Rattle.dayfile.specs.Rows.{RowRead}
use Rattle.std.specs.List.{flat_map}
use Rattle.report.specs.Replies.{header, reply_line, fault_reply, entry_reply}

-- the most bytes that are read
abbrev pub limit : ℕ
limit = 65536

-- what each of these lines gives, the first of which is line n of its file
abbrev pub EntriesRead : List Column → ℕ → List (List ℕ) → List Entry → Type 0
EntriesRead cs n [] [] = Unit {0}
EntriesRead cs n [] (e ∷ es) = ⊥
EntriesRead cs n (l ∷ ls) [] = ⊥
EntriesRead cs n (l ∷ ls) (e ∷ es) = (e.line ≡ n) × RowRead cs n l e.row × EntriesRead cs (n + 1) ls es

-- a printed line for each
abbrev pub printed : List Entry → List ℕ
printed es = flat_map (λ e. reply_line (entry_reply e)) es

-- what is printed behind the header for a file that is not too long: the fault in its names, or a line for each row
abbrev pub Body : List ℕ → List ℕ → Type 0
Body bytes out =
    ((f : Fault) × NamesRead (name_line bytes) (Err f) × (out ≡ reply_line (fault_reply f)))
    ⊎ ((cs : List Column) × (es : List Entry) × NamesRead (name_line bytes) (Ok cs) × EntriesRead cs 2 (drop 1 (lines bytes)) es × (out ≡ printed es))

-- a longer file is answered by 21 with cell 0
abbrev pub Report : List ℕ → List ℕ → Type 0
Report bytes out =
    ((limit < length bytes) × (out ≡ header ++ reply_line (fault_reply (fault.Names 0))))
    ⊎ ((length bytes ≤ limit) × ((body : List ℕ) × Body bytes body × (out ≡ header ++ body)))

-- a file has one report and no other
abbrev pub ReportOnly : Type 0
ReportOnly = (bytes out other : List ℕ) → Report bytes out → Report bytes other → out ≡ other
