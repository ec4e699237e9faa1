-- A line of names, and a line of values, give one answer and no other.
use Rattle.std.proofs.Common.{◌≡◌, ℕ, ◌+◌, ◌<◌, ◌≤◌, List, [], length, get_or, pos, Ok, Err, unwrap_or, sym, ap, ◌∙◌, subst, inl, inr, arith}
use Rattle.cells.specs.Numbers.{number_of}
use Rattle.cells.specs.Parts.{cells}
use Rattle.std.proofs.lemmas.List.{ext_get_or, get_or-map, get_or-take, length-map, length-take}
use Rattle.std.proofs.lemmas.Bool.{cases_lt}
use Rattle.dayfile.specs.declared.column.Column.{Column}
use Rattle.dayfile.specs.declared.column.Column.TheVariants.{Call, Unit, Minute, From, To, Kw, Price}
use Rattle.dayfile.specs.declared.fault.Fault.{Fault}
use Rattle.dayfile.specs.declared.fault.Fault.TheVariants as fault
use Rattle.dayfile.specs.declared.row.Row.{Row}
use Rattle.dayfile.specs.declared.row.Row.TheVariants.{Register, File, Round, InForce}
use Rattle.dayfile.specs.Columns.{name_of}
use Rattle.dayfile.specs.Names.{Among, Distinct, Begins, Names, Stops}
use Rattle.dayfile.specs.Only.{NamesOnly, RowsOnly}
use Rattle.dayfile.specs.Rows.{Holds, HasAt, Asks, CallAt, BadCall, BadCell, Wrong}
use Rattle.dayfile.specs.Steps.{row_with}
use Rattle.dayfile.proofs.Columns.{same_named}
use Rattle.dayfile.proofs.Orders.{same_place}
use Rattle.dayfile.proofs.Rows.{call_in, same_letter, held_letter}
use Rattle.dayfile.proofs.Seven.{seven_all}

module _ (line : List ℕ) where
  -- a line has a cell for each name that it begins with
  begins_fits : (cs : List Column) → Begins line cs → length cs ≤ length (cells line)
  begins_fits cs h = omega (arith, length-take (length cs) (cells line), ap length h.names, length-map cs name_of)

  -- each of those cells has its column's name
  cell_named : (cs : List Column) (k : ℕ) → Begins line cs → k < length cs → get_or (cells line) k [] ≡ name_of (get_or cs k Call)
  cell_named cs k h l = sym (get_or-take (length cs) (cells line) k [] l) ∙ ap (λ t. get_or t k []) h.names ∙ get_or-map name_of cs k Call [] l

  -- two orders that begin one line have the same column at a place
  same_column : (cs ds : List Column) (k : ℕ) → Begins line cs → Begins line ds → k < length cs → k < length ds → get_or cs k Call ≡ get_or ds k Call
  same_column cs ds k h i l m = same_named _ _ (sym (cell_named cs k h l) ∙ cell_named ds k i m)

  -- the line begins with no more names than those at which it stops
  no_longer : (seen ds : List Column) → Stops line seen → Begins line ds → length ds ≤ length seen
  no_longer seen ds s i = elim (cases_lt (length seen) (length ds)) [
    | inl l ↦ absurd (s.next (get_or ds (length seen) Call) record {
      there = omega (arith, begins_fits ds i);
      named = cell_named ds (length seen) i l;
      fresh = λ a. i.once a.0 (length seen) a.1 l (sym (same_column seen ds a.0 s.begins i a.1 (omega (arith, a.1))) ∙ a.2);
    })
    | inr l ↦ l
  ]

  -- a line that has all the names does not stop at one
  never_both : (cs seen : List Column) → Names line cs → Stops line seen → ⊥
  never_both cs seen h s =
      let fits = begins_fits seen s.begins in
      let long = no_longer seen cs s h.begins in
      omega (arith, h.whole, h.count, s.missing (omega arith))

-- two orders are alike at each place, an order and a fault exclude each other, and two faults are at one cell
pub names_only : NamesOnly
names_only line (Ok cs) (Ok ds) p q =
    let long : length cs ≡ length ds = sym p.whole ∙ q.whole in
    ap Ok (ext_get_or Call cs ds long (λ k l. same_column line cs ds k p.begins q.begins l (omega arith)))
names_only line (Ok cs) (Err f) p q = absurd (never_both line cs q.0 p q.1)
names_only line (Err f) (Ok ds) p q = absurd (never_both line ds p.0 q p.1)
names_only line (Err f) (Err g) p q =
    let a = no_longer line p.0 q.0 p.1 q.1.begins in
    let b = no_longer line q.0 p.0 q.1 p.1.begins in
    let same : length p.0 ≡ length q.0 = omega arith in
    ap Err (p.2 ∙ ap (λ n. fault.Names (n + 1)) same ∙ sym q.2)

-- a row is that of its call with the numbers of its cells
row_read : (at : Column → List ℕ) (r : Row) → ((c : Column) → Holds r c (at c)) → row_with (call_in r) (λ c. unwrap_or (number_of (at c)) (pos 0)) ≡ r
row_read at (Register unit kw price) h = rw (h Unit, h Kw, h Price)
row_read at (File unit minute from to kw price) h = rw (h Unit, h Minute, h From, h To, h Kw, h Price)
row_read at (Round kind unit minute price) h = rw (h Unit, h Minute, h Price)
row_read at (InForce unit hour) h = rw (h Unit, h From)

-- two rows with the same cells are one
same_row : (at : Column → List ℕ) (r s : Row) → ((c : Column) → Holds r c (at c)) → ((c : Column) → Holds s c (at c)) → r ≡ s
same_row at r s h i =
    let same : call_in r ≡ call_in s = same_letter _ _ (sym (held_letter r _ (h Call)) ∙ held_letter s _ (i Call)) in
    sym (row_read at r h) ∙ ap (λ call. row_with call (λ c. unwrap_or (number_of (at c)) (pos 0))) same ∙ row_read at s i

-- a line that asks a row is not wrong
never_wrong : (cs : List Column) (n : ℕ) (line : List ℕ) (row : Row) (f : Fault) → Asks cs line row → Wrong cs n line f → ⊥
never_wrong cs n line row f h (inl w) = w.0 h.count
never_wrong cs n line row f h (inr (inl w)) = w.1.none row (h.each _ w.1.here.there)
never_wrong cs n line row f h (inr (inr w)) = w.1.none row (h.each _ w.1.here.there) (h.each _ w.1.there)

module _ (cs : List Column) (once : Distinct cs) (n : ℕ) (line : List ℕ) where
  -- the cell under `call` stands at one place
  one_call : (j k : ℕ) → CallAt cs line j → CallAt cs line k → j ≡ k
  one_call j k a b = same_place cs j k once a.there b.there (a.call ∙ sym b.call)

  -- a row that has the call cell has it wherever that is said to stand
  call_held : (j k : ℕ) (row : Row) → CallAt cs line j → CallAt cs line k → HasAt cs line row j → HasAt cs line row k
  call_held j k row a b = subst (HasAt cs line row) (one_call j k a b)

  -- a call cell is not both good and bad
  never_good : (j k : ℕ) → BadCall cs line j → BadCell cs line k → ⊥
  never_good j k a b = a.none b.called.0 (call_held _ j _ b.here a.here b.called.1)

  -- no bad cell stands left of the leftmost
  not_left : (j k : ℕ) → BadCell cs line j → BadCell cs line k → k ≤ j
  not_left j k a b = elim (cases_lt j k) [
    | inl l ↦ (let good = b.before j l in absurd (a.none good.0 (call_held _ _ _ b.here a.here good.1) good.2))
    | inr l ↦ l
  ]

  -- the count is told first, then the call, then the leftmost bad cell: one fault for a line
  one_fault : (f g : Fault) → Wrong cs n line f → Wrong cs n line g → f ≡ g
  one_fault f g (inl v) (inl w) = v.1 ∙ sym w.1
  one_fault f g (inl v) (inr (inl w)) = absurd (v.0 w.1.here.count)
  one_fault f g (inl v) (inr (inr w)) = absurd (v.0 w.1.here.count)
  one_fault f g (inr (inl v)) (inl w) = absurd (w.0 v.1.here.count)
  one_fault f g (inr (inl v)) (inr (inl w)) = cc (v.2, w.2, one_call _ _ v.1.here w.1.here)
  one_fault f g (inr (inl v)) (inr (inr w)) = absurd (never_good _ _ v.1 w.1)
  one_fault f g (inr (inr v)) (inl w) = absurd (w.0 v.1.here.count)
  one_fault f g (inr (inr v)) (inr (inl w)) = absurd (never_good _ _ w.1 v.1)
  one_fault f g (inr (inr v)) (inr (inr w)) =
      let same : v.0 ≡ w.0 = omega (arith, not_left _ _ v.1 w.1, not_left _ _ w.1 v.1) in
      cc (v.2, w.2)

-- two rows have the same cells, a row and a fault exclude each other, and two faults are one
pub rows_only : RowsOnly
rows_only cs once seven n line (Ok r) (Ok s) p q =
    let all = seven_all cs seven once in
    ap Ok (same_row (λ c. get_or (cells line) (all c).0 []) r s (under all r p) (under all s q))
  where
    -- the row that a line asks has the cell under each column
    under : (all : (c : Column) → Among c cs) (r : Row) → Asks cs line r → (c : Column) → Holds r c (get_or (cells line) (all c).0 [])
    under all r p c = subst (λ d. Holds r d (get_or (cells line) (all c).0 [])) (all c).2 (p.each (all c).0 (all c).1)
rows_only cs once seven n line (Ok r) (Err g) p q = absurd (never_wrong cs n line r g p q)
rows_only cs once seven n line (Err f) (Ok s) p q = absurd (never_wrong cs n line s f q p)
rows_only cs once seven n line (Err f) (Err g) p q = ap Err (one_fault cs once n line f g p q)
