-- A file has one report and no other.
use Rattle.std.proofs.Common.{◌≡◌, ℕ, ◌+◌, List, [], ◌∷◌, ◌++◌, length, Ok, Err, sym, refl, ap, ◌∙◌, subst, inl, inr, arith}
use Rattle.dayfile.specs.Columns.{columns}
use Rattle.dayfile.specs.declared.column.Column.{Column}
use Rattle.dayfile.specs.declared.entry.Entry.{Entry}
use Rattle.dayfile.specs.Files.{name_line}
use Rattle.dayfile.specs.Names.{Distinct}
use Rattle.dayfile.proofs.Unique.{names_only, rows_only}
use Rattle.report.specs.Replies.{header, reply_line, fault_reply}
use Rattle.report.specs.Reports.{EntriesRead, printed, Body, ReportOnly}

-- the same lines give the same entries
entries_only : (cs : List Column) → Distinct cs → length cs ≡ length columns → (n : ℕ) (ls : List (List ℕ)) (es fs : List Entry) → EntriesRead cs n ls es → EntriesRead cs n ls fs → es ≡ fs
entries_only cs once seven n [] [] [] p q = refl
entries_only cs once seven n [] [] (f ∷ fs) p q = absurd q
entries_only cs once seven n [] (e ∷ es) fs p q = absurd p
entries_only cs once seven n (l ∷ ls) [] fs p q = absurd p
entries_only cs once seven n (l ∷ ls) (e ∷ es) [] p q = absurd q
entries_only cs once seven n (l ∷ ls) (e ∷ es) (f ∷ fs) p q =
    let line : e.line ≡ f.line = p.0 ∙ sym q.0 in
    let row : e.row ≡ f.row = rows_only cs once seven n l e.row f.row p.1 q.1 in
    let same : e ≡ f = λ i. record { line = line i; row = row i } in
    let rest = entries_only cs once seven (n + 1) ls es fs p.2 q.2 in
    cc

-- the names are refused in both with one fault, or good in both with one order of columns
body_only : (bytes out other : List ℕ) → Body bytes out → Body bytes other → out ≡ other
body_only bytes out other (inl p) (inl q) = let same = names_only (name_line bytes) (Err p.0) (Err q.0) p.1 q.1 in let f : p.0 ≡ q.0 = cc in p.2 ∙ ap (λ f. reply_line (fault_reply f)) f ∙ sym q.2
body_only bytes out other (inl p) (inr q) = let same = names_only (name_line bytes) (Err p.0) (Ok q.0) p.1 q.2 in let z : ◌≡◌ {A = ℕ} 0 1 = cc in absurd (omega arith)
body_only bytes out other (inr p) (inl q) = let same = names_only (name_line bytes) (Ok p.0) (Err q.0) p.2 q.1 in let z : ◌≡◌ {A = ℕ} 0 1 = cc in absurd (omega arith)
body_only bytes out other (inr p) (inr q) =
    let same = names_only (name_line bytes) (Ok p.0) (Ok q.0) p.2 q.2 in
    let cs : q.0 ≡ p.0 = cc in
    let es = entries_only p.0 p.2.begins.once p.2.count 2 _ p.1 q.1 p.3 (subst (λ c. EntriesRead c 2 _ q.1) cs q.3) in
    p.4 ∙ ap printed es ∙ sym q.4

pub report_only : ReportOnly
report_only bytes out other (inl p) (inl q) = p.1 ∙ sym q.1
report_only bytes out other (inl p) (inr q) = absurd (omega (arith, p.0, q.0))
report_only bytes out other (inr p) (inl q) = absurd (omega (arith, p.0, q.0))
report_only bytes out other (inr p) (inr q) = p.1.2 ∙ ap (λ b. header ++ b) (body_only bytes _ _ p.1.1 q.1.1) ∙ sym q.1.2
