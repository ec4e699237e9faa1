-- The parts of a text, one after the other.
use Rattle.std.proofs.Common.{◌≡◌, ℕ, ◌+◌, ◌<◌, ◌≤◌, eqb, List, [], ◌∷◌, length, get_or, take, drop, Option, Some, None, unwrap_or, position, sym, refl, ap, ◌∙◌, inl, inr, arith, length-take}
use Rattle.std.specs.List.{position_or_len}
use Rattle.std.proofs.lemmas.List.{take_all}
use Rattle.std.proofs.lemmas.List.Folds.{length-prefix_len}
use Rattle.std.proofs.lemmas.List.Splits.{slice_split_first, slice_split_none}
use Rattle.std.proofs.lemmas.List.Sums.{fails_before_first}
use Rattle.std.proofs.lemmas.Bool.{cases_lt, cond_below, cond_above}
use Rattle.cells.specs.Parts.{up_to, parts}

module _ (mark : ℕ) where
  -- where the first mark stands, or the length
  abbrev pub first_mark : List ℕ → ℕ
  first_mark bs = position_or_len (λ b. eqb b mark) bs

  pub up_to_le : (bs : List ℕ) → length (up_to mark bs) ≤ length bs
  up_to_le bs = omega (arith, length-take (first_mark bs) bs)

  -- the first part is what stands before the first mark, and the others come after it
  pub parts_more : (bs : List ℕ) → first_mark bs < length bs → parts mark bs ≡ up_to mark bs ∷ parts mark (drop (length (up_to mark bs) + 1) bs)
  parts_more bs h = slice_split_first _ bs 0 h ∙ ap (λ n. up_to mark bs ∷ parts mark (drop (n + 1) bs)) (sym (length-prefix_len _ bs))

  -- where no mark stands, all the bytes are the last part
  pub parts_last : (bs : List ℕ) → length bs ≤ first_mark bs → parts mark bs ≡ up_to mark bs ∷ []
  parts_last bs h =
      slice_split_none _ bs (λ k d l. fails_before_first (λ b. eqb b mark) bs k d (omega arith)) ∙ ap (λ p. p ∷ []) (sym (take_all _ bs h))

  pub parts_first : (bs : List ℕ) → get_or (parts mark bs) 0 [] ≡ up_to mark bs
  parts_first bs = elim (cases_lt (first_mark bs) (length bs)) [
    | inl h ↦ ap (λ ps. get_or ps 0 []) (parts_more bs h)
    | inr h ↦ ap (λ ps. get_or ps 0 []) (parts_last bs h)
  ]

  -- the search finds the first mark, and nothing where no mark stands
  pub position_some : (bs : List ℕ) → first_mark bs < length bs → position (λ b. eqb b mark) bs ≡ Some (first_mark bs)
  position_some bs h = sym (cond_below _ _ _ _ h)

  pub position_none : (bs : List ℕ) → length bs ≤ first_mark bs → position (λ b. eqb b mark) bs ≡ None
  position_none bs h = sym (cond_above _ _ _ _ _ h refl)

  -- what is taken up to the first mark that was found
  pub take_found : (bs : List ℕ) (found : Option ℕ) → found ≡ position (λ b. eqb b mark) bs → take (unwrap_or found (length bs)) bs ≡ up_to mark bs
  take_found bs found e = elim (cases_lt (first_mark bs) (length bs)) [
    | inl h ↦ ap (λ o. take (unwrap_or o (length bs)) bs) (e ∙ position_some bs h)
    | inr h ↦ ap (λ o. take (unwrap_or o (length bs)) bs) (e ∙ position_none bs h) ∙ take_all (length bs) bs (omega arith) ∙ sym (take_all _ bs h)
  ]
