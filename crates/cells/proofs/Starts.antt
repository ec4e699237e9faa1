-- Where the cells of a line begin.
use Rattle.std.proofs.Common.{◌≡◌, ℕ, zero, suc, ◌+◌, ◌<◌, ◌≤◌, List, [], ◌∷◌, length, get_or, take, drop, sym, refl, ap, ◌∙◌, subst, inl, inr, arith, get_or-drop, eqb, Option, Some, None, option_map, MatchOption, position, length-drop}
use Rattle.std.proofs.lemmas.List.{drop-drop}
use Rattle.std.proofs.lemmas.List.Splits.{length-slice_split}
use Rattle.std.proofs.lemmas.List.Sums.{sum_by-cons, sum_by_more, count_by-le-length}
use Rattle.std.proofs.lemmas.List.Folds.{length-prefix_len}
use Rattle.std.proofs.lemmas.Bool.{cases_lt, cond_below, cond_above}
use Rattle.cells.specs.Parts.{up_to, cells, start_of, start_at, CellAt}
use Rattle.cells.proofs.Cuts.{first_mark, parts_first, parts_more, parts_last, position_some, position_none}
use Rattle.cells.proofs.Rejoined.{parts_some}

-- from where a cell begins on, the line has that cell and those after it
cells_on : (line : List ℕ) (k : ℕ) → k < length (cells line) → cells (drop (start_of (cells line) k) line) ≡ drop k (cells line)
cells_on line zero l = refl
cells_on line (suc k) l = elim (cases_lt (first_mark 44 line) (length line)) [
  | inl h ↦ (
      let c = up_to 44 line in
      let rest = drop (length c + 1) line in
      let more : cells line ≡ c ∷ cells rest = parts_more 44 line h in
      let past : drop (start_of (c ∷ cells rest) (suc k)) line ≡ drop (start_of (cells rest) k) rest =
      ap (λ n. drop n line) (sum_by-cons (λ p. length p + 1) c (take k (cells rest))) ∙ sym (drop-drop (start_of (cells rest) k) (length c + 1) line) in
      subst (λ cs. cells (drop (start_of cs (suc k)) line) ≡ drop (suc k) cs) (sym more)
      (ap cells past ∙ cells_on rest k (omega (arith, ap length more))))
  | inr h ↦ absurd (omega (arith, ap length (parts_last 44 line h)))
]

-- a start is told exactly where the line has the cell
start_some : (bs : List ℕ) (from k : ℕ) → k < length (cells (drop from bs)) → start_at bs from k ≡ Some (from + start_of (cells (drop from bs)) k)
start_some bs from k l = sym (cond_below _ _ _ _ l)

start_none : (bs : List ℕ) (from k : ℕ) → length (cells (drop from bs)) ≤ k → start_at bs from k ≡ None
start_none bs from k l = sym (cond_above _ _ _ _ _ l refl)

module _ (bs : List ℕ) (from k : ℕ) (among : k < length (cells (drop from bs))) where
  abbrev line : List ℕ
  line = drop from bs

  abbrev at : ℕ
  at = from + start_of (cells line) k

  cells_at : cells (drop at bs) ≡ drop k (cells line)
  cells_at = ap cells (sym (drop-drop (start_of (cells line) k) from bs)) ∙ cells_on line k among

  -- each cell stands where it begins, up to the next comma
  cell_stands : up_to 44 (drop at bs) ≡ get_or (cells line) k []
  cell_stands = sym (parts_first 44 (drop at bs)) ∙ ap (λ cs. get_or cs 0 []) cells_at ∙ grind (arith, get_or-drop)

  -- the next cell begins after the next comma, and without one there is no next cell
  pub start_next : (next : Option ℕ) → next ≡ option_map (λ comma. at + comma + 1) (position (λ b. eqb b 44) (drop at bs)) → next ≡ start_at bs from (k + 1)
  start_next next e =
      let here = drop at bs in
      let left = length-drop k (cells line) in
      elim (cases_lt (first_mark 44 here) (length here)) [
        | inl h ↦ (
            let more = ap length (sym cells_at ∙ parts_more 44 here h) in
            let some = parts_some 44 (drop (length (up_to 44 here) + 1) here) in
            let l : k + 1 < length (cells line) = omega arith in
            let long : length (get_or (cells line) k []) ≡ first_mark 44 here = ap length (sym cell_stands) ∙ length-prefix_len _ here in
            let i : at + first_mark 44 here + 1 ≡ from + start_of (cells line) (k + 1) = omega (arith, sum_by_more (λ c. length c + 1) (cells line) k [] among) in
            e ∙ ap (option_map (λ comma. at + comma + 1)) (position_some 44 here h) ∙ ap Some i ∙ sym (start_some bs from (k + 1) l))
        | inr h ↦ (
            let last = ap length (sym cells_at ∙ parts_last 44 here h) in
            let l : length (cells line) ≤ k + 1 = omega arith in
            e ∙ ap (option_map (λ comma. at + comma + 1)) (position_none 44 here h) ∙ sym (start_none bs from (k + 1) l))
      ]

-- a start that is told is that of a cell
start_told : (bs : List ℕ) (from k start : ℕ) → start_at bs from k ≡ Some start → (k < length (cells (drop from bs))) × (start ≡ from + start_of (cells (drop from bs)) k)
start_told bs from k start e = elim (cases_lt k (length (cells (drop from bs)))) [
  | inl l ↦ (let s = sym (start_some bs from k l) ∙ e in (l, cc))
  | inr l ↦ (let s = sym (start_none bs from k l) ∙ e in absurd cc)
]

-- what stands at a cell's start, up to the next comma, is the cell
pub found_cell : (bs : List ℕ) (from k start : ℕ) (cell : List ℕ) → start_at bs from k ≡ Some start → cell ≡ up_to 44 (drop start bs) → CellAt bs from k start cell
found_cell bs from k start cell e held =
    let told = start_told bs from k start e in
    record {
      among = told.0;
      holds = held ∙ ap (λ s. up_to 44 (drop s bs)) told.1 ∙ cell_stands bs from k told.0;
      begins = told.1;
      stands = rw held (ap (λ n. take n (drop start bs)) (sym (length-prefix_len _ (drop start bs))));
    }

-- the first cell begins where the line does
pub start_first : (bs : List ℕ) (from : ℕ) → Some from ≡ start_at bs from 0
start_first bs from = let e : from ≡ from + 0 = omega arith in ap Some e ∙ sym (start_some bs from 0 (parts_some 44 (drop from bs)))

-- from start to start
pub start_more : (bs : List ℕ) (from k : ℕ) (this next : Option ℕ) → this ≡ start_at bs from k → MatchOption this (next ≡ None) (λ at. next ≡ option_map (λ comma. at + comma + 1) (position (λ b. eqb b 44) (drop at bs))) → next ≡ start_at bs from (k + 1)
start_more bs from k None next e h = elim (cases_lt k (length (cells (drop from bs)))) [
  | inl l ↦ (let s = e ∙ start_some bs from k l in absurd cc)
  | inr l ↦ h ∙ sym (start_none bs from (k + 1) (omega arith))
]
start_more bs from k (Some at) next e h =
    let told = start_told bs from k at (sym e) in
    start_next bs from k told.0 next (rw told.1 at h)

-- a start counts its cell, and from the next start on there are the others
pub counted_more : (bs : List ℕ) (n m all : ℕ) (this next : Option ℕ) → MatchOption this (n ≡ all) (λ at. n + length (cells (drop at bs)) ≡ all) → MatchOption this (m ≡ n) (λ at. m ≡ n + 1)
    → MatchOption this (next ≡ None) (λ at. next ≡ option_map (λ comma. at + comma + 1) (position (λ b. eqb b 44) (drop at bs))) → MatchOption next (m ≡ all) (λ at. m + length (cells (drop at bs)) ≡ all)
counted_more bs n m all None next e h t = rw t (h ∙ e)
counted_more bs n m all (Some start) next e h t =
    let here = drop start bs in
    elim (cases_lt (first_mark 44 here) (length here)) [
      | inl l ↦ (
          let more = ap length (parts_more 44 here l) in
          let long : length (up_to 44 here) ≡ first_mark 44 here = length-prefix_len _ here in
          let i : start + (length (up_to 44 here) + 1) ≡ start + first_mark 44 here + 1 = omega (arith, long) in
          let past = ap (λ r. length (cells r)) (drop-drop (length (up_to 44 here) + 1) start bs ∙ ap (λ n. drop n bs) i) in
          rw (t ∙ ap (option_map (λ comma. start + comma + 1)) (position_some 44 here l)) (omega (arith, e, h, more, past)))
      | inr l ↦ (
          let last = ap length (parts_last 44 here l) in
          rw (t ∙ ap (option_map (λ comma. start + comma + 1)) (position_none 44 here l)) (omega (arith, e, h, last)))
    ]

-- the cells that were counted start by start, and those after them
pub counted_all : (bs : List ℕ) (n more all : ℕ) (next : Option ℕ) → MatchOption next (n ≡ all) (λ at. n + length (cells (drop at bs)) ≡ all) → MatchOption next (more ≡ 0) (λ at. more ≡ length (cells (drop at bs))) → n + more ≡ all
counted_all bs n more all None e h = omega (arith, e, h)
counted_all bs n more all (Some start) e h = omega (arith, e, h)

-- a line has at most one cell more than bytes
pub cells_few : (line : List ℕ) → length (cells line) ≤ length line + 1
cells_few line = omega (arith, length-slice_split (λ b. eqb b 44) line, count_by-le-length (λ b. eqb b 44) line)
