-- Seven different columns are all the columns: none is met twice, and the times that each is met add up.
use Rattle.std.proofs.Common.{◌≡◌, ℕ, suc, ◌+◌, ◌<◌, ◌≤◌, Bool, true, false, cond, List, [], ◌∷◌, length, sym, refl, ◌∙◌, inl, inr, arith}
use Rattle.std.proofs.lemmas.Bool.{cases_lt}
use Rattle.dayfile.specs.declared.column.Column.{Column}
use Rattle.dayfile.specs.declared.column.Column.TheVariants.{Call, Unit, Minute, From, To, Kw, Price}
use Rattle.dayfile.specs.Names.{Among, Distinct}
use Rattle.dayfile.specs.Steps.{is}
use Rattle.dayfile.proofs.Columns.{is-Decides}

-- how often a column is met
abbrev times : Column → List Column → ℕ
times c [] = 0
times c (d ∷ cs) = cond (is c d) 1 0 + times c cs

all_times : (cs : List Column) → times Call cs + times Unit cs + times Minute cs + times From cs + times To cs + times Kw cs + times Price cs ≡ length cs
all_times [] = refl
all_times (Call ∷ cs) = omega (arith, all_times cs)
all_times (Unit ∷ cs) = omega (arith, all_times cs)
all_times (Minute ∷ cs) = omega (arith, all_times cs)
all_times (From ∷ cs) = omega (arith, all_times cs)
all_times (To ∷ cs) = omega (arith, all_times cs)
all_times (Kw ∷ cs) = omega (arith, all_times cs)
all_times (Price ∷ cs) = omega (arith, all_times cs)

-- what is met stands among them
met_among : (c : Column) (cs : List Column) → 0 < times c cs → Among c cs
met_among c [] h = absurd (omega arith)
met_among c (d ∷ cs) h = at (is c d) refl h (met_among c cs)
  where
    at : (v : Bool) → is c d ≡ v → 0 < cond v 1 0 + times c cs → (0 < times c cs → Among c cs) → Among c (d ∷ cs)
    at true same l rest = (0, omega arith, sym ((is-Decides c d).0 same))
    at false other l rest = (let m = rest (omega arith) in (suc m.0, omega (arith, m.1), m.2))

-- none of different columns is met twice
met_once : (c : Column) (cs : List Column) → Distinct cs → times c cs ≤ 1
met_once c [] h = omega arith
met_once c (d ∷ cs) h = at (is c d) refl (met_once c cs (λ j k a b. h (suc j) (suc k) (omega arith) (omega arith)))
  where
    at : (v : Bool) → is c d ≡ v → times c cs ≤ 1 → cond v 1 0 + times c cs ≤ 1
    at true same l = elim (cases_lt 0 (times c cs)) [
      | inl more ↦ (let m = met_among c cs more in absurd (h 0 (suc m.0) (omega arith) (omega (arith, m.1)) (sym ((is-Decides c d).0 same) ∙ sym m.2)))
      | inr none ↦ omega arith
    ]
    at false other l = omega arith

module _ (cs : List Column) (seven : length cs ≡ 7) (once : Distinct cs) where
  -- where one is never met, the other six are met at most six times
  met : (c : Column) → 0 < times c cs
  met c =
      let sum = all_times cs in
      let a = met_once Call cs once in
      let b = met_once Unit cs once in
      let d = met_once Minute cs once in
      let e = met_once From cs once in
      let f = met_once To cs once in
      let g = met_once Kw cs once in
      let h = met_once Price cs once in
      elim c as (λ c. 0 < times c cs) [
        | Call ↦ omega arith
        | Unit ↦ omega arith
        | Minute ↦ omega arith
        | From ↦ omega arith
        | To ↦ omega arith
        | Kw ↦ omega arith
        | Price ↦ omega arith
      ]

  pub seven_all : (c : Column) → Among c cs
  seven_all c = met_among c cs (met c)
