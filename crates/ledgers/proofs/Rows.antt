-- Rows of equal width in one list, of which each has a first part in use: before and after a write.
use Rattle.std.proofs.Common.{◌≡◌, ℕ, zero, suc, ◌+◌, ◌-◌, ◌*◌, ◌<◌, ◌≤◌, max, Bool, true, false, cond, eqb, ltb, ◌≢◌, ◌⊎◌, List, [], ◌∷◌, length, get_or, take, drop, set, replicate, Some, sym, refl, ap, ◌∙◌, ⊎_elim, zero-le, le_of_suc-le-suc, not-suc-le-zero, mul-le-mul_right, suc-mul, arith, length-drop, length-take, get_or-drop, get_or-set_other, get_or-take, get_or-set_same, drop-set-lt, le-ltb, lt-ltb}
use Rattle.std.proofs.lemmas.List.{take-set-le, drop-set-add}
use Rattle.std.proofs.lemmas.Option.{slice_get-get_or}
use Rattle.std.proofs.lemmas.Bool.{cases_order}
use Rattle.std.proofs.lemmas.Bool.Decides.{eqb_tells, leb_tells}
use Rattle.std.specs.List.{slice_get}
use Rattle.ledgers.specs.Puts.{put}
use Rattle.ledgers.specs.Rows.{row}

-- row v of k places ends where row w begins, or before
pub rows_apart : (v w k : ℕ) → v < w → v * k + k ≤ w * k
rows_apart v w k h = omega (arith, mul-le-mul_right k h, suc-mul v k)

pub zeros : (n k : ℕ) → ◌≡◌ {A = ℕ} (get_or (replicate n 0) k 0) 0
zeros zero k = refl
zeros (suc n) zero = refl
zeros (suc n) (suc k) = zeros n k

-- a place below the length of a list is of a unit that there is
pub counted_inside : (units n u p : ℕ) → p < cond (ltb u units) n 0 → (u < units) × (p < n)
counted_inside units n u p lt = ⊎_elim
    (λ (t : (ltb u units ≡ true) × (u < units)). (t.1, omega (arith, lt, ap (λ b. cond b n 0) t.0)))
    (λ (t : (ltb u units ≡ false) × (units < suc u)). absurd (let f : ⊥ = omega (arith, lt, ap (λ b. cond b n 0) t.0) in f))
    (leb_tells (suc u) units)

module _ {X : Type 0} where
  window_before : (a n : ℕ) (xs : List X) (i : ℕ) (x : X) → a + n ≤ i → take n (drop a (set xs i x)) ≡ take n (drop a xs)
  window_before a n xs i x le =
      let is : i ≡ a + (i - a) = omega arith in
      ap (λ j. take n (drop a (set xs j x))) is ∙ ap (take n) (drop-set-add a xs (i - a) x) ∙ take-set-le n (drop a xs) (i - a) x (omega arith)

  -- the first n, or one more where the next is written
  put_window : (xs : List X) (n p : ℕ) (x : X) → p ≤ n → p < length xs → take (max n (p + 1)) (set xs p x) ≡ put (take n xs) p x
  put_window [] n p x le lt = absurd (not-suc-le-zero lt)
  put_window (y ∷ xs) zero zero x le lt = refl
  put_window (y ∷ xs) (suc n) zero x le lt = ap (λ k. take k (x ∷ xs)) (let e : max (suc n) 1 ≡ suc n = omega arith in e)
  put_window (y ∷ xs) zero (suc p) x le lt = absurd (not-suc-le-zero le)
  put_window (y ∷ xs) (suc n) (suc p) x le lt =
      let e : max (suc n) (suc p + 1) ≡ suc (max n (p + 1)) = omega arith in
      ap (λ k. take k (y ∷ set xs p x)) e ∙ ap (λ l. y ∷ l) (put_window xs n p x (le_of_suc-le-suc le) (le_of_suc-le-suc lt))

  -- a write at place p of row u
  row_same : (xs : List X) (lens : List ℕ) (k units u p : ℕ) (x : X) → u < units → u < length lens → p ≤ get_or lens u 0 → p < k → units * k ≤ length xs → row (set xs (u * k + p) x) (set lens u (max (get_or lens u 0) (p + 1))) k units u ≡ put (row xs lens k units u) p x
  row_same xs lens k units u p x lt has at room fits =
      let n = get_or lens u 0 in
      let on : ltb u units ≡ true = lt-ltb u units lt in
      let far : u * k + k ≤ units * k = rows_apart u units k lt in
      let long : p < length (drop (u * k) xs) = simp length-drop (omega arith) in
      ap (λ b. cond b (take (get_or (set lens u (max n (p + 1))) u 0) (drop (u * k) (set xs (u * k + p) x))) []) on
      ∙ ap (λ m. take m (drop (u * k) (set xs (u * k + p) x))) (get_or-set_same lens u (max n (p + 1)) 0 has)
      ∙ ap (take (max n (p + 1))) (drop-set-add (u * k) xs p x)
      ∙ put_window (drop (u * k) xs) n p x at long
      ∙ sym (ap (λ b. put (cond b (take n (drop (u * k) xs)) []) p x) on)

  -- and no other row changes
  row_other : (xs : List X) (lens : List ℕ) (k units u v p m : ℕ) (x : X) → p < k → ((j : ℕ) → get_or lens j 0 ≤ k) → v ≢ u → row (set xs (u * k + p) x) (set lens u m) k units v ≡ row xs lens k units v
  row_other xs lens k units u v p m x room filled ne =
      let most : get_or lens v 0 ≤ k = filled v in
      ap (λ j. cond (ltb v units) (take j (drop (v * k) (set xs (u * k + p) x))) []) (get_or-set_other lens u v m 0 ne)
      ∙ ap (λ ys. cond (ltb v units) ys [])
      (⊎_elim
      (λ (same : v ≡ u). absurd (ne same))
      (λ (o : (v < u) ⊎ (u < v)). ⊎_elim
      (λ (less : v < u).
      let far : v * k + k ≤ u * k = rows_apart v u k less in
      window_before (v * k) (get_or lens v 0) xs (u * k + p) x (omega arith))
      (λ (more : u < v).
      let far : u * k + k ≤ v * k = rows_apart u v k more in
      ap (take (get_or lens v 0)) (drop-set-lt (v * k) xs (u * k + p) x (omega arith)))
      o)
      (cases_order v u))

  -- each row after a write
  pub rows_written : (xs : List X) (lens : List ℕ) (k units u p m : ℕ) (x : X) → u < units → u < length lens → p ≤ get_or lens u 0 → p < k → units * k ≤ length xs → ((j : ℕ) → get_or lens j 0 ≤ k) → m ≡ max (get_or lens u 0) (p + 1) → (v : ℕ) → row (set xs (u * k + p) x) (set lens u m) k units v ≡ cond (eqb v u) (put (row xs lens k units u) p x) (row xs lens k units v)
  rows_written xs lens k units u p m x lt has at room fits filled more v =
      let to = row (set xs (u * k + p) x) in
      ⊎_elim
      (λ (e : (eqb v u ≡ true) × (v ≡ u)).
      ap (λ n. to (set lens u n) k units v) more ∙ ap (to (set lens u (max (get_or lens u 0) (p + 1))) k units) e.1
      ∙ row_same xs lens k units u p x lt has at room fits
      ∙ sym (ap (λ b. cond b (put (row xs lens k units u) p x) (row xs lens k units v)) e.0))
      (λ (e : (eqb v u ≡ false) × (v ≡ u → ⊥)).
      row_other xs lens k units u v p m x room filled e.1
      ∙ sym (ap (λ b. cond b (put (row xs lens k units u) p x) (row xs lens k units v)) e.0))
      (eqb_tells v u)

  pub row_known : (xs : List X) (lens : List ℕ) (k units u : ℕ) → u < units → row xs lens k units u ≡ take (get_or lens u 0) (drop (u * k) xs)
  row_known xs lens k units u lt = ap (λ b. cond b (take (get_or lens u 0) (drop (u * k) xs)) []) (lt-ltb u units lt)

  pub row_unknown : (xs : List X) (lens : List ℕ) (k units u : ℕ) → units ≤ u → row xs lens k units u ≡ []
  row_unknown xs lens k units u le = ap (λ b. cond b (take (get_or lens u 0) (drop (u * k) xs)) []) (le-ltb u units le)

  pub row_length : (xs : List X) (lens : List ℕ) (k units u : ℕ) → u < units → get_or lens u 0 ≤ k → units * k ≤ length xs → length (row xs lens k units u) ≡ get_or lens u 0
  row_length xs lens k units u lt most fits =
      let far : u * k + k ≤ units * k = rows_apart u units k lt in
      ap length (row_known xs lens k units u lt) ∙ simp (length-take, length-drop) (omega arith)

  -- how long each row is, also one that there is not
  pub row_count : (xs : List X) (lens : List ℕ) (k units u : ℕ) → get_or lens u 0 ≤ k → units * k ≤ length xs → length (row xs lens k units u) ≡ cond (ltb u units) (get_or lens u 0) 0
  row_count xs lens k units u most fits = ⊎_elim
      (λ (t : (ltb u units ≡ true) × (u < units)). row_length xs lens k units u t.1 most fits ∙ sym (ap (λ b. cond b (get_or lens u 0) 0) t.0))
      (λ (t : (ltb u units ≡ false) × (units < suc u)). ap length (row_unknown xs lens k units u (omega (arith, t.1))) ∙ sym (ap (λ b. cond b (get_or lens u 0) 0) t.0))
      (leb_tells (suc u) units)

  -- what stands at place p of row u
  pub row_at : (xs : List X) (lens : List ℕ) (k units u p : ℕ) (x : X) → u < units → get_or lens u 0 ≤ k → units * k ≤ length xs → p < get_or lens u 0 → x ≡ get_or xs (u * k + p) x → Some x ≡ slice_get (row xs lens k units u) p
  row_at xs lens k units u p x lt most fits at e =
      let n = get_or lens u 0 in
      let here : get_or (row xs lens k units u) p x ≡ x =
      ap (λ l. get_or l p x) (row_known xs lens k units u lt)
      ∙ get_or-take n (drop (u * k) xs) p x at
      ∙ get_or-drop (u * k) xs p x
      ∙ sym e in
      sym (slice_get-get_or (row xs lens k units u) p x (omega (arith, row_length xs lens k units u lt most fits)) ∙ ap Some here)

  -- rows without a part in use
  both : (b : Bool) → cond {A = List X} b [] [] ≡ []
  both true = refl
  both false = refl

  pub row_empty : (xs : List X) (n k units u : ℕ) → row xs (replicate n 0) k units u ≡ []
  row_empty xs n k units u = ap (λ m. cond (ltb u units) (take m (drop (u * k) xs)) []) (zeros n u) ∙ both (ltb u units)

  part_short : (b : Bool) (n k : ℕ) (xs : List X) → n ≤ k → length (cond b (take n xs) []) ≤ k
  part_short true n k xs le = simp length-take (omega arith)
  part_short false n k xs le = zero-le

  pub row_short : (xs : List X) (lens : List ℕ) (k units u : ℕ) → get_or lens u 0 ≤ k → length (row xs lens k units u) ≤ k
  row_short xs lens k units u le = part_short (ltb u units) (get_or lens u 0) k (drop (u * k) xs) le
