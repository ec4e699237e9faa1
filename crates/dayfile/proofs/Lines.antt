-- A line with a cell for each column, whose call is known: what it asks, or its leftmost bad cell.
use Rattle.std.proofs.Common.{◌≡◌, ℕ, ◌<◌, true, false, List, [], length, get_or, ℤ, pos, Ok, Err, unwrap_or, sym, refl, ap, ◌∙◌, subst, inl, inr, arith}
use Rattle.cells.specs.Numbers.{number_of}
use Rattle.cells.specs.Parts.{cells}
use Rattle.std.proofs.lemmas.Bool.{false≢true}
use Rattle.dayfile.specs.declared.call.Call.{Call}
use Rattle.dayfile.specs.declared.column.Column.{Column}
use Rattle.dayfile.specs.declared.column.Column.TheVariants as column
use Rattle.dayfile.specs.declared.fault.Fault.{Fault}
use Rattle.dayfile.specs.declared.order.Order.{Order}
use Rattle.dayfile.specs.declared.row.Row.{Row}
use Rattle.dayfile.specs.Calls.{letter_of}
use Rattle.dayfile.specs.Names.{Distinct}
use Rattle.dayfile.specs.Rows.{Holds, HasAt, Asks, CallAt, BadCall, BadCell, RowRead}
use Rattle.dayfile.specs.Steps.{place_of, cell_under, number_under, good_cell, good_at, row_with, HasNumbers, CallRead, AllGood, CellsChecked}
use Rattle.dayfile.proofs.Orders.{found_place, one_place}
use Rattle.dayfile.proofs.Rows.{call_in, same_letter, number_of_good, good_held, held_good, held_letter, letter_held}

module _ (cs : List Column) (once : Distinct cs) (seven : length cs ≡ 7) (line : List ℕ) (whole : length (cells line) ≡ 7) where
  -- the cell at a place is that under the column there
  cell_at : (k : ℕ) → k < length cs → get_or (cells line) k [] ≡ cell_under cs line (get_or cs k column.Call)
  cell_at k l = ap (λ p. get_or (cells line) p []) (one_place cs once seven (get_or cs k column.Call) k l refl)

  -- where `call` stands
  call_place : CallAt cs line (place_of cs column.Call)
  call_place = let found = found_place cs once seven column.Call in record { count = whole ∙ sym seven; there = found.0; call = found.1 }

  -- the call cell is read at that place, by whichever row has it
  call_has : (row : Row) → HasAt cs line row (place_of cs column.Call) → cell_under cs line column.Call ≡ letter_of (call_in row)
  call_has row has = held_letter row _ (subst (λ c. Holds row c (cell_under cs line column.Call)) call_place.call has)

  -- a call cell that is no call's is bad
  pub no_call : ((call : Call) → cell_under cs line column.Call ≡ letter_of call → ⊥) → BadCall cs line (place_of cs column.Call)
  no_call none = record { here = call_place; none = λ row has. none (call_in row) (call_has row has) }

  module _ (call : Call) (called : cell_under cs line column.Call ≡ letter_of call) where
    -- the cell under `call` has the call's letter, wherever that column stands
    in_letter : (k : ℕ) → k < length cs → get_or cs k column.Call ≡ column.Call → get_or (cells line) k [] ≡ letter_of call
    in_letter k l e = cell_at k l ∙ ap (cell_under cs line) e ∙ called

    -- whatever its numbers, a row of the call has the call cell
    call_held : (z : Column → ℤ) → HasAt cs line (row_with call z) (place_of cs column.Call)
    call_held z = subst (λ c. Holds (row_with call z) c (cell_under cs line column.Call)) (sym call_place.call) (letter_held call z _ called)

    pub row_asked : AllGood call cs line → Asks cs line (row_with call (number_under cs line))
    row_asked good = record {
      count = whole ∙ sym seven;
      each = λ k l. good_held call (number_under cs line) _ _ (in_letter k l) (good k l) (ap (λ cell. unwrap_or (number_of cell) (pos 0)) (sym (cell_at k l)));
    }

    -- a good cell is one that some row of the call has
    some_row : (k : ℕ) → k < length cs → good_at call cs line k ≡ true → (row : Row) × HasAt cs line row (place_of cs column.Call) × HasAt cs line row k
    some_row k l good =
        let z : Column → ℤ = λ _. unwrap_or (number_of (get_or (cells line) k [])) (pos 0) in
        (row_with call z, call_held z, good_held call z _ _ (in_letter k l) good refl)

    -- a bad one, none
    no_row : (k : ℕ) → good_at call cs line k ≡ false → (row : Row) → HasAt cs line row (place_of cs column.Call) → HasAt cs line row k → ⊥
    no_row k bad row has-call has =
        let same : call_in row ≡ call = same_letter _ _ (sym (call_has row has-call) ∙ called) in
        false≢true (sym bad ∙ subst (λ c. good_cell c (get_or cs k column.Call) (get_or (cells line) k []) ≡ true) same (held_good row _ _ has))

    pub bad_cell : (k : ℕ) → k < length cs → good_at call cs line k ≡ false → ((j : ℕ) → j < k → good_at call cs line j ≡ true) → BadCell cs line k
    bad_cell k l bad before = record {
      at = place_of cs column.Call;
      here = call_place;
      called = (row_with call (λ _. pos 0), call_held (λ _. pos 0));
      there = l;
      before = λ j m. some_row j (omega arith) (before j m);
      none = no_row k bad;
    }

-- what is read of a line with a cell for each column: its call is bad, or a cell is, or it asks the row of its call
module _ (order : Order) (n : ℕ) (line : List ℕ) (whole : length (cells line) ≡ 7) where
  pub call_wrong : (f : Fault) → CallRead order.columns n line (Err f) → RowRead order.columns n line (Err f)
  call_wrong f told = inr (inl (place_of order.columns column.Call, no_call order.columns order.once order.count line whole told.1, told.0))

  module _ (call : Call) (called : CallRead order.columns n line (Ok call)) where
    pub cell_wrong : (f : Fault) → CellsChecked call order.columns n line (Err f) → RowRead order.columns n line (Err f)
    cell_wrong f told = inr (inr (told.0, bad_cell order.columns order.once order.count line whole call called told.0 told.1 told.3 told.4, told.2))

    pub has_numbers : AllGood call order.columns line → HasNumbers call order.columns line
    has_numbers good c used =
        let found = found_place order.columns order.once order.count c in
        let here = subst (λ d. good_cell call d (cell_under order.columns line c) ≡ true) found.1 (good _ found.0) in
        number_of_good call c (cell_under order.columns line c) used here

    pub all_asked : AllGood call order.columns line → RowRead order.columns n line (Ok (row_with call (number_under order.columns line)))
    all_asked good = row_asked order.columns order.once order.count line whole call called good
