-- The columns of a day file and their names.
use Rattle.std.specs.Prelude.{◌≡◌, ℕ, List, [], ◌∷◌, codes, Result, MatchResult, ◌≢◌}
use Rattle.dayfile.specs.declared.column.Column.{Column}
use Rattle.dayfile.specs.declared.column.Column.TheVariants.{Call, Unit, Minute, From, To, Kw, Price}
use Rattle.dayfile.specs.declared.column.UnknownName.{UnknownName}

abbrev pub columns : List Column
columns = Call ∷ (Unit ∷ (Minute ∷ (From ∷ (To ∷ (Kw ∷ (Price ∷ []))))))

abbrev pub name_of : Column → List ℕ
name_of Call = codes "call"
name_of Unit = codes "unit"
name_of Minute = codes "minute"
name_of From = codes "from"
name_of To = codes "to"
name_of Kw = codes "kw"
name_of Price = codes "price"

-- the column with this name, or none where no column has it
abbrev pub NameRead : List ℕ → Result Column UnknownName → Type 0
NameRead name r = MatchResult r (λ c. name ≡ name_of c) (λ _. (c : Column) → name ≢ name_of c)
