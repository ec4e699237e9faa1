-- The rows that a reader yields are those of its lines.
use Rattle.std.proofs.Common.{◌≡◌, ◌+◌, List, [], ◌∷◌, sym, arith}
use Rattle.std.specs.Iterator.{Yields}
use Rattle.dayfile.specs.declared.entry.Entry.{Entry}
use Rattle.dayfile.specs.declared.reader.RowReader.{RowReader}
use Rattle.dayfile.specs.Files.{order_in, left, Next}
use Rattle.dayfile.specs.Rows.{RowRead}
use Rattle.report.specs.Reports.{EntriesRead}

pub entries_read : (es : List Entry) (first last : RowReader) → Yields Next first es last → left last ≡ [] → EntriesRead (order_in first) (first.read + 2) (left first) es
entries_read [] first last same none = rw (same, none) tt
entries_read (e ∷ es) first last y none =
    let next = y.1 in
    let row : RowRead (order_in first) (first.read + 2) next.0 e.row = rw (sym next.2) next.3 in
    let number : y.0.read + 2 ≡ first.read + 2 + 1 = omega (arith, next.5) in
    let rest : EntriesRead (order_in first) (first.read + 2 + 1) (left y.0) es = rw (sym next.4, sym number) (entries_read es y.0 last y.2 none) in
    rw next.1 (next.2, row, rest)
