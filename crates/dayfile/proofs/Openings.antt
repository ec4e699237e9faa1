-- What is left to read of a file, before and after each of its lines.
use Rattle.std.proofs.Common.{◌≡◌, ℕ, ◌+◌, ◌<◌, ◌≤◌, List, [], ◌∷◌, length, take, drop, Ok, Err, Result, sym, refl, ap, ◌∙◌, subst, arith}
use Rattle.cells.specs.Parts.{up_to, lines}
use Rattle.cells.proofs.Feeds.{line_part, lines_more}
use Rattle.std.proofs.lemmas.List.{drop_all, drop-drop, length-drop}
use Rattle.dayfile.specs.declared.column.Column.{Column}
use Rattle.dayfile.specs.declared.fault.Fault.{Fault}
use Rattle.dayfile.specs.declared.reader.RowReader.{RowReader}
use Rattle.dayfile.specs.declared.row.Row.{Row}
use Rattle.dayfile.specs.Files.{name_line, order_in, left, Opened}
use Rattle.dayfile.specs.Names.{NamesRead}
use Rattle.dayfile.specs.Rows.{RowRead}
use Rattle.dayfile.proofs.Unique.{names_only}

module _ (bytes : List ℕ) where
  -- no line is left at the end
  pub none_left : (at : ℕ) → length bytes ≤ at → lines (drop at bytes) ≡ []
  none_left at h = ap lines (drop_all at bytes h)

  -- the names are refused, and nothing is left
  pub opened_none : (f : Fault) (rows : RowReader) → rows.read ≡ 0 → NamesRead (name_line bytes) (Err f) → left rows ≡ [] → Opened bytes rows
  opened_none f rows zero told none = record {
    unread = zero;
    good = λ named other. (let e = names_only (name_line bytes) (Ok named) (Err f) other told in let z : ◌≡◌ {A = ℕ} 0 1 = cc in absurd (omega arith));
    refused = λ g other. none;
  }

  -- the names are good, and all but their line is left
  pub opened_all : (rows : RowReader) (end : ℕ) → rows.read ≡ 0 → NamesRead (name_line bytes) (Ok (order_in rows)) → end ≡ length (up_to 10 bytes) → drop rows.at rows.bytes.now ≡ drop (end + 1) bytes → Opened bytes rows
  opened_all rows end zero told e rest = record {
    unread = zero;
    good = λ named other. (let same = names_only (name_line bytes) (Ok (order_in rows)) (Ok named) told other in (cc, ap lines rest ∙ after bytes end e));
    refused = λ f other. (let e = names_only (name_line bytes) (Ok (order_in rows)) (Err f) told other in let z : ◌≡◌ {A = ℕ} 0 1 = cc in absurd (omega arith));
  }
    where
      after : (bs : List ℕ) (end : ℕ) → end ≡ length (up_to 10 bs) → lines (drop (end + 1) bs) ≡ drop 1 (lines bs)
      after [] end e = rw e refl
      after (b ∷ bs) end e = rw e (sym (ap (drop 1) (lines_more (b ∷ bs) (omega arith))))

  -- one line more is read: it ends at `end`, and what is left begins at `next`
  module _ (at end next : ℕ) (some : at < length bytes) (ends : end ≡ at + length (up_to 10 (drop at bytes))) (rest : drop next bytes ≡ drop (end + 1) bytes) where
    pub one_left : lines (drop at bytes) ≡ (up_to 10 (drop at bytes) ∷ lines (drop next bytes))
    one_left =
        let long = length-drop at bytes in
        let there : drop (length (up_to 10 (drop at bytes)) + 1) (drop at bytes) ≡ drop next bytes = drop-drop _ at bytes ∙ ap (λ k. drop k bytes) (omega arith) ∙ sym rest in
        lines_more (drop at bytes) (omega arith) ∙ ap (λ l. up_to 10 (drop at bytes) ∷ lines l) there

    pub row_left : (cs : List Column) (n : ℕ) (r : Result Row Fault) → RowRead cs n (drop at (take end bytes)) r → RowRead cs n (up_to 10 (drop at bytes)) r
    row_left cs n r h = subst (λ l. RowRead cs n l r) (line_part bytes at end ends) h
