-- The cells of a line and the lines of a file, put together again, are the bytes, and no other parts are.
use Rattle.std.proofs.Common.{◌≡◌, ℕ, suc, ◌-◌, ◌<◌, false, eqb, ◌⊎◌, List, [], ◌∷◌, ◌++◌, length, get_or, sym, refl, ap, ◌∙◌, inl, inr, sub-one, arith, All, ◌≢◌, eq-eqb, ne_eqb}
use Rattle.std.specs.List.{join_with_byte, onto_first}
use Rattle.std.proofs.lemmas.List.{append-nil, append_assoc, append_cancel_right, length_push}
use Rattle.std.proofs.lemmas.List.Elements.{All-nil, All-cons, All-push}
use Rattle.std.proofs.lemmas.List.Splits.{slice_split_none, slice_split_at, length-slice_split, join_with_byte-slice_split}
use Rattle.std.proofs.lemmas.Bool.{cond_both, eqb-false}
use Rattle.cells.specs.Parts.{parts, trimmed, lines}
use Rattle.cells.specs.Laws.{NoneHas, ended, Lines, CellsAreSo, LinesAreSo}

module _ (mark : ℕ) where
  -- the mark does not stand in the part
  abbrev Plain : List ℕ → Type 0
  Plain = All (λ b. b ≢ mark)

  fails : (p : List ℕ) → Plain p → All (λ b. eqb b mark ≡ false) p
  fails p h k d l = ne_eqb _ mark (h k d l)

  -- a byte that is not the mark, in front of parts without it
  plain_ahead : (b : ℕ) (ps : List (List ℕ)) → b ≢ mark → NoneHas mark ps → NoneHas mark (onto_first b ps)
  plain_ahead b [] ne h = All-cons Plain (b ∷ []) [] (All-cons (λ c. c ≢ mark) b [] ne (All-nil _)) (All-nil Plain)
  plain_ahead b (p ∷ ps) ne h = All-cons Plain (b ∷ p) ps (All-cons (λ c. c ≢ mark) b p ne (h 0 [] (omega arith))) (λ k d l. h (suc k) d (omega arith))

  -- none of the parts of a text has the mark
  parts_plain : (bs : List ℕ) → NoneHas mark (parts mark bs)
  parts_plain [] = All-cons Plain [] [] (All-nil (λ c. c ≢ mark)) (All-nil Plain)
  parts_plain (b ∷ bs) =
      cond_both (eqb b mark) _ _ (NoneHas mark) (λ e. All-cons Plain [] _ (All-nil (λ c. c ≢ mark)) (parts_plain bs)) (λ e. plain_ahead b _ (eqb-false b mark e) (parts_plain bs))

  pub parts_some : (bs : List ℕ) → 0 < length (parts mark bs)
  parts_some bs = omega (arith, length-slice_split (λ b. eqb b mark) bs)

  -- joined parts come apart again
  parts_joined : (ps : List (List ℕ)) → 0 < length ps → NoneHas mark ps → parts mark (join_with_byte mark ps) ≡ ps
  parts_joined [] l h = absurd (omega arith)
  parts_joined (p ∷ []) l h = slice_split_none _ p (fails p (h 0 [] (omega arith)))
  parts_joined (p ∷ (q ∷ ps)) l h =
      slice_split_at _ p mark (join_with_byte mark (q ∷ ps)) (fails p (h 0 [] (omega arith))) (eq-eqb mark mark refl)
      ∙ ap (λ qs. p ∷ qs) (parts_joined (q ∷ ps) (omega arith) (λ k d m. h (suc k) d (omega arith)))

  -- no other parts, joined, are the text
  parts_only : (bs : List ℕ) (ps : List (List ℕ)) → 0 < length ps → NoneHas mark ps → join_with_byte mark ps ≡ bs → ps ≡ parts mark bs
  parts_only bs ps l h e = sym (parts_joined ps l h) ∙ ap (parts mark) e

pub cells_are_so : CellsAreSo
cells_are_so line = (
  record { some = parts_some 44 line; plain = parts_plain 44 line; whole = join_with_byte-slice_split 44 line },
  λ cs h. parts_only 44 line cs h.some h.plain h.whole,
)

-- the last part is not empty
abbrev Ends : List (List ℕ) → Type 0
Ends ps = 0 < length (get_or ps (length ps - 1) [])

-- a part in front of others leaves the last as it is
pub trimmed_more : (p : List ℕ) (ps : List (List ℕ)) → 0 < length ps → trimmed (p ∷ ps) ≡ p ∷ trimmed ps
trimmed_more p [] l = absurd (omega arith)
trimmed_more p (q ∷ ps) l = refl

-- an empty part at the end goes, and nothing else
trimmed_push : (ps : List (List ℕ)) → trimmed (ps ++ ([] ∷ [])) ≡ ps
trimmed_push [] = refl
trimmed_push (p ∷ ps) = trimmed_more p _ (omega (arith, length_push ps [])) ∙ ap (λ qs. p ∷ qs) (trimmed_push ps)

trimmed_ends : (ps : List (List ℕ)) → Ends ps → trimmed ps ≡ ps
trimmed_ends [] h = refl
trimmed_ends ([] ∷ []) h = absurd (omega arith)
trimmed_ends ((b ∷ p) ∷ []) h = refl
trimmed_ends (p ∷ (q ∷ ps)) h = ap (λ qs. p ∷ qs) (trimmed_ends (q ∷ ps) (simp sub-one (simp sub-one at h)))

trimmed_either : (ps : List (List ℕ)) → 0 < length ps → Ends ps ⊎ (ps ≡ trimmed ps ++ ([] ∷ []))
trimmed_either [] l = absurd (omega arith)
trimmed_either ([] ∷ []) l = inr refl
trimmed_either ((b ∷ p) ∷ []) l = inl (omega arith)
trimmed_either (p ∷ (q ∷ ps)) l = elim (trimmed_either (q ∷ ps) (omega arith)) [
  | inl h ↦ inl (simp sub-one (simp sub-one at h))
  | inr e ↦ inr (ap (λ qs. p ∷ qs) e)
]

-- lines ended are lines joined, with a line feed more, or with an empty line more
ended_joined : (ls : List (List ℕ)) → 0 < length ls → ended ls ≡ join_with_byte 10 ls ++ (10 ∷ [])
ended_joined [] l = absurd (omega arith)
ended_joined (p ∷ []) l = simp append-nil
ended_joined (p ∷ (q ∷ ls)) l = rw (ended_joined (q ∷ ls) (omega arith)) (simp append_assoc)

joined_end : (ls : List (List ℕ)) → join_with_byte 10 (ls ++ ([] ∷ [])) ≡ ended ls
joined_end [] = refl
joined_end (p ∷ []) = simp append-nil
joined_end (p ∷ (q ∷ ls)) = rw (joined_end (q ∷ ls)) (simp append_assoc)

lines_whole : (bytes : List ℕ) → (ended (lines bytes) ≡ bytes) ⊎ ((ended (lines bytes) ≡ bytes ++ (10 ∷ [])) × Ends (lines bytes))
lines_whole bytes =
    let ps = parts 10 bytes in
    let some = parts_some 10 bytes in
    let whole = join_with_byte-slice_split 10 bytes in
    elim (trimmed_either ps some) [
      | inl h ↦ inr (rw (trimmed_ends ps h) (ended_joined ps some ∙ ap (λ bs. bs ++ (10 ∷ [])) whole, h))
      | inr e ↦ inl (sym (joined_end (trimmed ps)) ∙ ap (join_with_byte 10) (sym e) ∙ whole)
    ]

lines_only : (bytes : List ℕ) (ls : List (List ℕ)) → Lines bytes ls → ls ≡ lines bytes
lines_only bytes ls h = elim h.whole [
  | inl e ↦ sym (trimmed_push ls) ∙ ap trimmed (parts_only 10 bytes (ls ++ ([] ∷ [])) (omega (arith, length_push ls [])) (All-push (Plain 10) ls [] h.plain (All-nil (λ c. c ≢ 10))) (joined_end ls ∙ e))
  | inr k ↦ (
      let some : 0 < length ls = ends_some ls k.1 in
      sym (trimmed_ends ls k.1) ∙ ap trimmed (parts_only 10 bytes ls some h.plain (append_cancel_right _ _ (10 ∷ []) (sym (ended_joined ls some) ∙ k.0))))
]
  where
    ends_some : (ps : List (List ℕ)) → Ends ps → 0 < length ps
    ends_some [] h = absurd (omega arith)
    ends_some (p ∷ ps) h = omega arith

-- a line is part of the text between line feeds
lines_plain : (bytes : List ℕ) → NoneHas 10 (lines bytes)
lines_plain bytes = trimmed_plain (parts 10 bytes) (parts_plain 10 bytes)
  where
    trimmed_plain : (ps : List (List ℕ)) → NoneHas 10 ps → NoneHas 10 (trimmed ps)
    trimmed_plain [] h = h
    trimmed_plain ([] ∷ []) h = All-nil (Plain 10)
    trimmed_plain ((b ∷ p) ∷ []) h = h
    trimmed_plain (p ∷ (q ∷ ps)) h = All-cons (Plain 10) p _ (h 0 [] (omega arith)) (trimmed_plain (q ∷ ps) (λ k d l. h (suc k) d (omega arith)))

pub lines_are_so : LinesAreSo
lines_are_so bytes = (record { plain = lines_plain bytes; whole = lines_whole bytes }, lines_only bytes)
