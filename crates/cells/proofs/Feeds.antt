-- The lines of a file, one after the other.
use Rattle.std.proofs.Common.{◌≡◌, ℕ, ◌+◌, ◌<◌, List, [], ◌∷◌, length, get_or, take, drop, sym, refl, ap, ◌∙◌, inl, inr, arith}
use Rattle.std.proofs.lemmas.List.{drop_all, drop-take, take_all}
use Rattle.std.proofs.lemmas.List.Folds.{length-prefix_len}
use Rattle.std.proofs.lemmas.Bool.{cases_lt}
use Rattle.cells.specs.Parts.{up_to, trimmed, lines}
use Rattle.cells.proofs.Cuts.{first_mark, parts_more, parts_last}
use Rattle.cells.proofs.Rejoined.{parts_some, trimmed_more}

-- the part of a file that ends where its line ends holds, from the line's beginning on, just the line
pub line_part : (bs : List ℕ) (from end : ℕ) → end ≡ from + length (up_to 10 (drop from bs)) → drop from (take end bs) ≡ up_to 10 (drop from bs)
line_part bs from end e =
    rw e (drop-take from (length (up_to 10 (drop from bs))) bs ∙ ap (λ n. take n (drop from bs)) (length-prefix_len _ (drop from bs)))

-- the first line stands before the first line feed, and the others come after it
pub lines_more : (bs : List ℕ) → 0 < length bs → lines bs ≡ (up_to 10 bs ∷ lines (drop (length (up_to 10 bs) + 1) bs))
lines_more [] some = absurd (omega arith)
lines_more (b ∷ bs) some = elim (cases_lt (first_mark 10 (b ∷ bs)) (length (b ∷ bs))) [
  | inl h ↦ ap trimmed (parts_more 10 (b ∷ bs) h) ∙ trimmed_more _ _ (parts_some 10 (drop (length (up_to 10 (b ∷ bs)) + 1) (b ∷ bs)))
  | inr h ↦ (
      let all : up_to 10 (b ∷ bs) ≡ b ∷ bs = take_all _ (b ∷ bs) h in
      ap trimmed (parts_last 10 (b ∷ bs) h) ∙ rw all (ap (λ l. (b ∷ bs) ∷ lines l) (sym (drop_all (length (b ∷ bs) + 1) (b ∷ bs) (omega arith)))))
]

pub lines_first : (bs : List ℕ) → get_or (lines bs) 0 [] ≡ up_to 10 bs
lines_first [] = refl
lines_first (b ∷ bs) = ap (λ ls. get_or ls 0 []) (lines_more (b ∷ bs) (omega arith))
