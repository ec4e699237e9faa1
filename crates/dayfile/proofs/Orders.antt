-- The names of a line, one after the other.
use Rattle.std.proofs.Common.{◌≡◌, ℕ, ◌+◌, ◌<◌, ◌≤◌, List, [], ◌∷◌, ◌++◌, map, length, get_or, take, set, sym, ap, ◌∙◌, subst, inl, inr, arith}
use Rattle.std.proofs.lemmas.List.{take_more, take_more_set, length-take-le, take_all, length-take, length-map, length_push, map_push, get_or_append_left, get_or_push, length-set}
use Rattle.std.proofs.lemmas.Bool.{cases_lt, not-true}
use Rattle.std.proofs.lemmas.Bool.Decides.{Decides-not}
use Rattle.std.proofs.lemmas.List.Sums.{position_or_len_is}
use Rattle.cells.specs.Parts.{cells}
use Rattle.dayfile.specs.declared.column.Column.{Column}
use Rattle.dayfile.specs.declared.column.Column.TheVariants.{Call}
use Rattle.dayfile.specs.Columns.{name_of}
use Rattle.dayfile.specs.Names.{Among, Distinct, New, Begins, Names, Stops}
use Rattle.dayfile.specs.declared.fault.Fault.{Fault}
use Rattle.dayfile.specs.declared.fault.Fault.TheVariants as fault
use Rattle.dayfile.specs.Steps.{is, place_of}
use Rattle.dayfile.proofs.Columns.{is-Decides}
use Rattle.dayfile.proofs.Seven.{seven_all}

-- a column that is not among them, put behind them
distinct_push : (cs : List Column) (c : Column) → Distinct cs → (Among c cs → ⊥) → Distinct (cs ++ (c ∷ []))
distinct_push cs c h fresh j k a b e =
    let last = length_push cs c in
    elim (cases_lt k (length cs)) [
      | inl inside ↦ h j k a inside (sym (get_or_append_left cs (c ∷ []) Call j (omega arith)) ∙ e ∙ get_or_append_left cs (c ∷ []) Call k inside)
      | inr end ↦ (let here : length cs ≡ k = omega arith in
          fresh (j, omega arith, sym (get_or_append_left cs (c ∷ []) Call j (omega arith)) ∙ e ∙ get_or_push cs c Call k here))
    ]

-- one new name more
begins_push : (line : List ℕ) (seen : List Column) (c : Column) → Begins line seen → New line seen c → Begins line (seen ++ (c ∷ []))
begins_push line seen c h n = record {
  names =
      ap (λ k. take k (cells line)) (length_push seen c) ∙ take_more (cells line) (length seen) [] n.there
      ∙ ap (λ l. l ++ (get_or (cells line) (length seen) [] ∷ [])) h.names
      ∙ ap (λ w. map name_of seen ++ (w ∷ [])) n.named
      ∙ sym (map_push name_of seen c);
  once = distinct_push seen c h.once n.fresh;
}

-- the loop over the places of the names
module _ (line : List ℕ) (cs : List Column) (i : ℕ) (l : i < 7) (seven : length cs ≡ 7) (h : Begins line (take i cs)) where
  -- no new name comes
  pub names_stop : (f : Fault) → (f ≡ fault.Names (length (take i cs) + 1)) × (length (take i cs) < 7 → (c : Column) → New line (take i cs) c → ⊥) → (seen : List Column) × Stops line seen × (f ≡ fault.Names (length seen + 1))
  names_stop f told =
      let long = length-take-le i cs (omega arith) in
      (take i cs, record { begins = h; next = told.1 (omega arith); missing = λ e. omega arith }, told.0)

  -- one comes, and goes into its place
  pub names_more : (c : Column) → New line (take i cs) c → (length (set cs i c) ≡ 7) × Begins line (take (i + 1) (set cs i c))
  names_more c n =
      (length-set cs i c ∙ seven, subst (Begins line) (sym (take_more_set cs i c (omega arith))) (begins_push line (take i cs) c h n))

module _ (line : List ℕ) (cs : List Column) (i : ℕ) (end : 7 ≤ i) (seven : length cs ≡ 7) (h : Begins line (take i cs)) where
  all_begin : Begins line cs
  all_begin = subst (Begins line) (take_all i cs (omega arith)) h

  -- after seven names no cell is a new one
  pub names_over : (f : Fault) → 7 < length (cells line) → f ≡ fault.Names 8 → (seen : List Column) × Stops line seen × (f ≡ fault.Names (length seen + 1))
  names_over f more is = (
    cs,
    record {
      begins = all_begin;
      next = λ c n. n.fresh (seven_all cs seven all_begin.once c);
      missing = λ e. absurd (omega arith);
    },
    is ∙ ap (λ n. fault.Names (n + 1)) (sym seven),
  )

  pub names_all : length (cells line) ≤ 7 → Names line cs
  names_all l =
      let has = ap length all_begin.names ∙ length-map cs name_of in
      record {
        begins = all_begin;
        whole = omega (arith, length-take (length cs) (cells line), has);
        all = seven_all cs seven all_begin.once;
        count = seven;
      }

  pub names_once : Distinct cs
  names_once = all_begin.once

-- a column stands at one place only
pub same_place : (cs : List Column) (j k : ℕ) → Distinct cs → j < length cs → k < length cs → get_or cs j Call ≡ get_or cs k Call → j ≡ k
same_place cs j k once a b e = elim (cases_lt j k) [
  | inl less ↦ absurd (once j k less b e)
  | inr more ↦ elim (cases_lt k j) [
    | inl less ↦ absurd (once k j less a (sym e))
    | inr same ↦ omega arith
  ]
]

-- a column is found at the place at which it stands
place_is : (cs : List Column) (c : Column) (k : ℕ) → Distinct cs → k < length cs → get_or cs k Call ≡ c → place_of cs c ≡ k
place_is cs c k once l e =
    position_or_len_is (is c) cs k Call (omega arith) (λ j m. not-true _ ((Decides-not _ (is-Decides c (get_or cs j Call))).1 (λ same. once j k m l (sym same ∙ sym e)))) (λ _. (is-Decides c (get_or cs k Call)).1 (sym e))

-- each of seven different columns stands at one
module _ (cs : List Column) (once : Distinct cs) (seven : length cs ≡ 7) (c : Column) where
  pub one_place : (k : ℕ) → k < length cs → get_or cs k Call ≡ c → k ≡ place_of cs c
  one_place k l e = sym (place_is cs c k once l e)

  pub found_place : (place_of cs c < length cs) × (get_or cs (place_of cs c) Call ≡ c)
  found_place =
      let all = seven_all cs seven once c in
      rw (place_is cs c all.0 once all.1 all.2) (all.1, all.2)
