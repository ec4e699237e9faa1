-- A column and its name tell each other.
use Rattle.std.proofs.Common.{◌≡◌, ℕ, Decides, cond, eqb, get_or, sym, refl, ap, ◌∙◌}
use Rattle.std.proofs.lemmas.Slice.Eq.{bytes_eq-Decides}
use Rattle.dayfile.specs.declared.column.Column.{Column}
use Rattle.dayfile.specs.declared.column.Column.TheVariants.{Call, Unit, Minute, From, To, Kw, Price}
use Rattle.dayfile.specs.Columns.{name_of}
use Rattle.dayfile.specs.Steps.{is}

-- the column whose name begins with a byte: no two begin alike
abbrev begun : ℕ → Column
begun b = cond (eqb b 99) Call (cond (eqb b 117) Unit (cond (eqb b 109) Minute (cond (eqb b 102) From (cond (eqb b 116) To (cond (eqb b 107) Kw Price)))))

begun_name : (c : Column) → begun (get_or (name_of c) 0 0) ≡ c
begun_name Call = refl
begun_name Unit = refl
begun_name Minute = refl
begun_name From = refl
begun_name To = refl
begun_name Kw = refl
begun_name Price = refl

-- two columns of one name are one
pub same_named : (c d : Column) → name_of c ≡ name_of d → c ≡ d
same_named c d e = sym (begun_name c) ∙ ap (λ name. begun (get_or name 0 0)) e ∙ begun_name d

pub is-Decides : (c d : Column) → Decides (is c d) (c ≡ d)
is-Decides c d = (λ h. same_named c d ((bytes_eq-Decides _ _).0 h), λ e. (bytes_eq-Decides _ _).1 (ap name_of e))
