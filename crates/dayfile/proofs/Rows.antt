-- Rows and their cells: the steps of the code come to what Rows says.
use Rattle.std.proofs.Common.{◌≡◌, ℕ, true, cond, eqb, List, get_or, ℤ, pos, is_some, Some, None, codes, Option, unwrap_or, sym, refl, ap, ◌∙◌, arith}
use Rattle.cells.specs.Numbers.{number_of}
use Rattle.std.specs.Str.{bytes_eq}
use Rattle.std.proofs.lemmas.Slice.Eq.{bytes_eq-Decides}
use Rattle.std.proofs.lemmas.Bool.{false≢true}
use Rattle.dayfile.specs.declared.call.Call.{Call}
use Rattle.dayfile.specs.declared.call.Call.TheVariants.{Register, File, Round, InForce}
use Rattle.dayfile.specs.declared.call.RoundKind.TheVariants.{DayAhead, Reliability, DayAfter}
use Rattle.dayfile.specs.declared.column.Column.{Column}
use Rattle.dayfile.specs.declared.column.Column.TheVariants as column
use Rattle.dayfile.specs.declared.row.Row.{Row}
use Rattle.dayfile.specs.declared.row.Row.TheVariants as row
use Rattle.dayfile.specs.Calls.{letter_of}
use Rattle.dayfile.specs.Rows.{Holds}
use Rattle.dayfile.specs.Steps.{uses, good_cell, row_with}

abbrev pub call_in : Row → Call
call_in (row.Register unit kw price) = Register
call_in (row.File unit minute from to kw price) = File
call_in (row.Round kind unit minute price) = Round kind
call_in (row.InForce unit hour) = InForce

-- the call whose letter a byte is: no two have one letter
abbrev lettered : ℕ → Call
lettered b = cond (eqb b 82) Register (cond (eqb b 70) File (cond (eqb b 49) (Round DayAhead) (cond (eqb b 50) (Round Reliability) (cond (eqb b 51) (Round DayAfter) InForce))))

lettered_letter : (call : Call) → lettered (get_or (letter_of call) 0 0) ≡ call
lettered_letter Register = refl
lettered_letter File = refl
lettered_letter (Round DayAhead) = refl
lettered_letter (Round Reliability) = refl
lettered_letter (Round DayAfter) = refl
lettered_letter InForce = refl

-- two calls of one letter are one
pub same_letter : (call other : Call) → letter_of call ≡ letter_of other → call ≡ other
same_letter call other e = sym (lettered_letter call) ∙ ap (λ cell. lettered (get_or cell 0 0)) e ∙ lettered_letter other

-- what is some number is its value
numeral : (o : Option ℤ) → is_some o ≡ true → o ≡ Some (unwrap_or o (pos 0))
numeral None h = let n : ◌≡◌ {A = ℕ} 0 1 = cc in absurd (omega arith)
numeral (Some y) h = refl

dash : (cell : List ℕ) → bytes_eq cell (codes "-") ≡ true → cell ≡ codes "-"
dash cell h = (bytes_eq-Decides cell (codes "-")).0 h

-- a row made of the numbers of good cells has those cells: each has the number that is given for its column
pub good_held : (call : Call) (z : Column → ℤ) (c : Column) (cell : List ℕ) → (c ≡ column.Call → cell ≡ letter_of call) → good_cell call c cell ≡ true → z c ≡ unwrap_or (number_of cell) (pos 0) → Holds (row_with call z) c cell
good_held Register z column.Call cell l h e = l refl
good_held Register z column.Unit cell l h e = numeral _ h ∙ ap Some (sym e)
good_held Register z column.Minute cell l h e = dash cell h
good_held Register z column.From cell l h e = dash cell h
good_held Register z column.To cell l h e = dash cell h
good_held Register z column.Kw cell l h e = numeral _ h ∙ ap Some (sym e)
good_held Register z column.Price cell l h e = numeral _ h ∙ ap Some (sym e)
good_held File z column.Call cell l h e = l refl
good_held File z column.Unit cell l h e = numeral _ h ∙ ap Some (sym e)
good_held File z column.Minute cell l h e = numeral _ h ∙ ap Some (sym e)
good_held File z column.From cell l h e = numeral _ h ∙ ap Some (sym e)
good_held File z column.To cell l h e = numeral _ h ∙ ap Some (sym e)
good_held File z column.Kw cell l h e = numeral _ h ∙ ap Some (sym e)
good_held File z column.Price cell l h e = numeral _ h ∙ ap Some (sym e)
good_held (Round kind) z column.Call cell l h e = l refl
good_held (Round kind) z column.Unit cell l h e = numeral _ h ∙ ap Some (sym e)
good_held (Round kind) z column.Minute cell l h e = numeral _ h ∙ ap Some (sym e)
good_held (Round kind) z column.From cell l h e = dash cell h
good_held (Round kind) z column.To cell l h e = dash cell h
good_held (Round kind) z column.Kw cell l h e = dash cell h
good_held (Round kind) z column.Price cell l h e = numeral _ h ∙ ap Some (sym e)
good_held InForce z column.Call cell l h e = l refl
good_held InForce z column.Unit cell l h e = numeral _ h ∙ ap Some (sym e)
good_held InForce z column.Minute cell l h e = dash cell h
good_held InForce z column.From cell l h e = numeral _ h ∙ ap Some (sym e)
good_held InForce z column.To cell l h e = dash cell h
good_held InForce z column.Kw cell l h e = dash cell h
good_held InForce z column.Price cell l h e = dash cell h

-- a good cell that the call uses is a number
pub number_of_good : (call : Call) (c : Column) (cell : List ℕ) → uses call c ≡ true → good_cell call c cell ≡ true → is_some (number_of cell) ≡ true
number_of_good Register column.Call cell used good = absurd (false≢true used)
number_of_good File column.Call cell used good = absurd (false≢true used)
number_of_good (Round kind) column.Call cell used good = absurd (false≢true used)
number_of_good InForce column.Call cell used good = absurd (false≢true used)
number_of_good call column.Unit cell used good = rw used at good
number_of_good call column.Minute cell used good = rw used at good
number_of_good call column.From cell used good = rw used at good
number_of_good call column.To cell used good = rw used at good
number_of_good call column.Kw cell used good = rw used at good
number_of_good call column.Price cell used good = rw used at good

-- a cell that a row has is good for the row's call
pub held_good : (r : Row) (c : Column) (cell : List ℕ) → Holds r c cell → good_cell (call_in r) c cell ≡ true
held_good (row.Register unit kw price) column.Call cell h = refl
held_good (row.Register unit kw price) column.Unit cell h = ap is_some h
held_good (row.Register unit kw price) column.Minute cell h = ap (λ l. bytes_eq l (codes "-")) h
held_good (row.Register unit kw price) column.From cell h = ap (λ l. bytes_eq l (codes "-")) h
held_good (row.Register unit kw price) column.To cell h = ap (λ l. bytes_eq l (codes "-")) h
held_good (row.Register unit kw price) column.Kw cell h = ap is_some h
held_good (row.Register unit kw price) column.Price cell h = ap is_some h
held_good (row.File unit minute from to kw price) column.Call cell h = refl
held_good (row.File unit minute from to kw price) column.Unit cell h = ap is_some h
held_good (row.File unit minute from to kw price) column.Minute cell h = ap is_some h
held_good (row.File unit minute from to kw price) column.From cell h = ap is_some h
held_good (row.File unit minute from to kw price) column.To cell h = ap is_some h
held_good (row.File unit minute from to kw price) column.Kw cell h = ap is_some h
held_good (row.File unit minute from to kw price) column.Price cell h = ap is_some h
held_good (row.Round kind unit minute price) column.Call cell h = refl
held_good (row.Round kind unit minute price) column.Unit cell h = ap is_some h
held_good (row.Round kind unit minute price) column.Minute cell h = ap is_some h
held_good (row.Round kind unit minute price) column.From cell h = ap (λ l. bytes_eq l (codes "-")) h
held_good (row.Round kind unit minute price) column.To cell h = ap (λ l. bytes_eq l (codes "-")) h
held_good (row.Round kind unit minute price) column.Kw cell h = ap (λ l. bytes_eq l (codes "-")) h
held_good (row.Round kind unit minute price) column.Price cell h = ap is_some h
held_good (row.InForce unit hour) column.Call cell h = refl
held_good (row.InForce unit hour) column.Unit cell h = ap is_some h
held_good (row.InForce unit hour) column.Minute cell h = ap (λ l. bytes_eq l (codes "-")) h
held_good (row.InForce unit hour) column.From cell h = ap is_some h
held_good (row.InForce unit hour) column.To cell h = ap (λ l. bytes_eq l (codes "-")) h
held_good (row.InForce unit hour) column.Kw cell h = ap (λ l. bytes_eq l (codes "-")) h
held_good (row.InForce unit hour) column.Price cell h = ap (λ l. bytes_eq l (codes "-")) h

-- the call cell that a row has is the letter of the row's call
pub held_letter : (r : Row) (cell : List ℕ) → Holds r column.Call cell → cell ≡ letter_of (call_in r)
held_letter (row.Register unit kw price) cell h = h
held_letter (row.File unit minute from to kw price) cell h = h
held_letter (row.Round kind unit minute price) cell h = h
held_letter (row.InForce unit hour) cell h = h

-- a row of a call has the call's letter
pub letter_held : (call : Call) (z : Column → ℤ) (cell : List ℕ) → cell ≡ letter_of call → Holds (row_with call z) column.Call cell
letter_held Register z cell e = e
letter_held File z cell e = e
letter_held (Round kind) z cell e = e
letter_held InForce z cell e = e
