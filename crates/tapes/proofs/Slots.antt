-- The lists that written slots stand for: one slot more, where each filing stands, and how many slots are needed.
use Rattle.std.proofs.Common.{◌≡◌, ℕ, zero, suc, ◌+◌, ◌*◌, ◌<◌, ◌≤◌, Bool, true, false, cond, eqb, List, [], ◌∷◌, ◌++◌, length, get_or, Some, None, sym, refl, ap, ◌∙◌, ⊎_elim, le_of_suc-le-suc, append_assoc, suc-mul, arith, length-append}
use Rattle.std.proofs.lemmas.List.{get_or_at, length_push}
use Rattle.std.proofs.Math.Arith.{lt_of_le-ne}
use Rattle.std.proofs.lemmas.Option.{none-some, slice_get_cases, slice_get_past}
use Rattle.std.proofs.lemmas.Bool.Decides.{eqb_tells}
use Rattle.std.specs.List.{slice_get}
use Rattle.ledgers.specs.declared.filing.Filing.{Filing}
use Rattle.ledgers.specs.declared.write.Write.{Write}
use Rattle.ledgers.specs.Verdicts.{waits}
use Rattle.ledgers.specs.Puts.{put, made}
use Rattle.ledgers.specs.Rows.{row}
use Rattle.ledgers.proofs.Rows.{row_short, row_unknown}
use Rattle.ledgers.proofs.Steps.{clash}
use Rattle.tapes.specs.Slots.{total, list_by, filings, counting}

pub total_none : (n : ℕ) → total (λ u. 0) n ≡ 0
total_none zero = refl
total_none (suc n) = omega (arith, total_none n)

-- a sum of which one part grows by one
total_below : (f g : ℕ → ℕ) (u n : ℕ) → n ≤ u → ((v : ℕ) → v < u → g v ≡ f v) → total g n ≡ total f n
total_below f g u zero le same = refl
total_below f g u (suc n) le same = omega (arith, total_below f g u n (omega arith) same, same n le)

pub total_more : (f g : ℕ → ℕ) (u n : ℕ) → u < n → g u ≡ f u + 1 → ((v : ℕ) → (v ≡ u → ⊥) → g v ≡ f v) → total g n ≡ total f n + 1
total_more f g u zero lt one same = absurd (let q : ⊥ = omega arith in q)
total_more f g u (suc n) lt one same = ⊎_elim
    (λ (e : (eqb n u ≡ true) × (n ≡ u)).
    let here : g n ≡ f n + 1 = ap g e.1 ∙ one ∙ ap (λ k. f k + 1) (sym e.1) in
    omega (arith, total_below f g u n (omega (arith, e.1)) (λ v h. same v (λ q. omega (arith, q))), here))
    (λ (e : (eqb n u ≡ false) × (n ≡ u → ⊥)).
    let less : u < n = lt_of_le-ne (le_of_suc-le-suc lt) (λ q. e.1 (sym q)) in
    omega (arith, total_more f g u n less one same, same n e.1))
    (eqb_tells n u)

pub total_most : (f : ℕ → ℕ) (c n : ℕ) → ((v : ℕ) → f v ≤ c) → total f n ≤ n * c
total_most f c zero most = omega arith
total_most f c (suc n) most = omega (arith, total_most f c n most, most n, suc-mul n c)

one_or_two : (b : Bool) → cond b 1 2 ≤ 2
one_or_two true = omega arith
one_or_two false = omega arith

pub put_short : {X : Type 0} (xs : List X) (p k : ℕ) (x : X) → length xs ≤ k → p < k → length (put xs p x) ≤ k
put_short [] p k x le lt = omega arith
put_short (y ∷ ys) zero k x le lt = le
put_short (y ∷ ys) (suc p) zero x le lt = absurd (let q : ⊥ = omega arith in q)
put_short (y ∷ ys) (suc p) (suc k) x le lt = omega (arith, put_short ys p k x (omega arith) (omega arith))

none_past : {X : Type 0} (xs : List X) (p : ℕ) → None ≡ slice_get xs p → length xs ≤ p
none_past xs p e = ⊎_elim (λ t. absurd (none-some t.0 (e ∙ t.2))) (λ t. t.0) (slice_get_cases xs p).1

module _ {B : Type 0} where
  pub made_most : (fs : List (Filing B)) → made fs ≤ 2 * length fs
  made_most [] = omega arith
  made_most (f ∷ fs) = omega (arith, made_most fs, one_or_two (waits f.verdict))

  -- one slot more
  pub list_more : {X : Type 0} (x : ℕ → Write B → X) (n : ℕ) (so : List X) (ws : List (Write B)) (w : Write B) (u : ℕ) → list_by x n so (ws ++ w ∷ []) u ≡ cond (eqb u w.unit) (put (list_by x n so ws u) w.place (x (n + length ws) w)) (list_by x n so ws u)
  list_more x n so [] w u = ap (λ k. cond (eqb u w.unit) (put so w.place (x k w)) so) (let e : n ≡ n + 0 = omega arith in e)
  list_more x n so (y ∷ ws) w u =
      let now = cond (eqb u y.unit) (put so y.place (x n y)) so in
      list_more x (suc n) now ws w u
      ∙ ap (λ k. cond (eqb u w.unit) (put (list_by x (suc n) now ws u) w.place (x k w)) (list_by x (suc n) now ws u)) (let e : suc n + length ws ≡ n + suc (length ws) = omega arith in e)

  -- the slots of these numbers have these filings
  abbrev pub Points : List (Write B) → List ℕ → List (Filing B) → Type 0
  Points all [] [] = Unit {0}
  Points all [] (f ∷ fs) = ⊥
  Points all (n ∷ ns) [] = ⊥
  Points all (n ∷ ns) (f ∷ fs) = ((n < length all) × ((d : Write B) → (get_or all n d).filing ≡ f)) × Points all ns fs

  put_points : (all : List (Write B)) (ns : List ℕ) (fs : List (Filing B)) (p n : ℕ) (f : Filing B) → Points all ns fs → (n < length all) × ((d : Write B) → (get_or all n d).filing ≡ f) → Points all (put ns p n) (put fs p f)
  put_points all [] [] p n f so here = (here, tt)
  put_points all [] (g ∷ fs) p n f so here = absurd so
  put_points all (m ∷ ns) [] p n f so here = absurd so
  put_points all (m ∷ ns) (g ∷ fs) zero n f so here = (here, so.1)
  put_points all (m ∷ ns) (g ∷ fs) (suc p) n f so here = (so.0, put_points all ns fs p n f so.1 here)

  by_unit : (all : List (Write B)) (ns : List ℕ) (fs : List (Filing B)) (b : Bool) (p n : ℕ) (f : Filing B) → Points all ns fs → (n < length all) × ((d : Write B) → (get_or all n d).filing ≡ f) → Points all (cond b (put ns p n) ns) (cond b (put fs p f) fs)
  by_unit all ns fs true p n f so here = put_points all ns fs p n f so here
  by_unit all ns fs false p n f so here = so

  all_points : (all old ws : List (Write B)) (n : ℕ) (ns : List ℕ) (fs : List (Filing B)) (u : ℕ) → all ≡ old ++ ws → length old ≡ n → Points all ns fs → Points all (list_by (λ m w. m) n ns ws u) (list_by (λ m w. w.filing) n fs ws u)
  all_points all old [] n ns fs u is len so = so
  all_points all old (w ∷ ws) n ns fs u is len so =
      let there : (d : Write B) → (get_or all n d).filing ≡ w.filing = λ d. ap (λ l. (get_or l n d).filing) is ∙ ap (λ y. y.filing) (get_or_at old w ws d n len) in
      let inside : n < length all = omega (arith, ap length is, length-append old (w ∷ ws)) in
      all_points all (old ++ w ∷ []) ws (suc n) _ _ u (is ∙ sym (append_assoc old (w ∷ []) ws)) (omega (arith, length_push old w)) (by_unit all ns fs (eqb u w.unit) w.place n w.filing so (inside, there))

  points : (ws : List (Write B)) (u : ℕ) → Points ws (counting ws u) (filings ws u)
  points ws u = all_points ws [] ws 0 [] [] u refl refl tt

  points_length : (all : List (Write B)) (ns : List ℕ) (fs : List (Filing B)) → Points all ns fs → length fs ≡ length ns
  points_length all [] [] so = refl
  points_length all [] (f ∷ fs) so = absurd so
  points_length all (n ∷ ns) [] so = absurd so
  points_length all (n ∷ ns) (f ∷ fs) so = ap suc (points_length all ns fs so.1)

  points_at : (all : List (Write B)) (ns : List ℕ) (fs : List (Filing B)) (p i : ℕ) (w : Write B) → Points all ns fs → Some i ≡ slice_get ns p → w ≡ get_or all i w → (i < length all) × (Some w.filing ≡ slice_get fs p)
  points_at all [] fs p i w so at is = clash cc
  points_at all (n ∷ ns) [] p i w so at is = absurd so
  points_at all (n ∷ ns) (f ∷ fs) zero i w so at is =
      let same : i ≡ n = cc in
      (omega (arith, so.0.0), ap (λ y. Some y.filing) (is ∙ ap (λ j. get_or all j w) same) ∙ ap Some (so.0.1 w))
  points_at all (n ∷ ns) (f ∷ fs) (suc p) i w so at is = points_at all ns fs p i w so.1 at is

  -- as many filings as slots that count
  pub filings_length : (ws : List (Write B)) (u : ℕ) → length (filings ws u) ≡ length (counting ws u)
  filings_length ws u = points_length ws (counting ws u) (filings ws u) (points ws u)

  -- and each in its slot
  pub filing_at_lem : (ws : List (Write B)) (u p i : ℕ) (w : Write B) → Some i ≡ slice_get (counting ws u) p → w ≡ get_or ws i w → (i < length ws) × (Some w.filing ≡ slice_get (filings ws u) p)
  filing_at_lem ws u p i w at is = points_at ws (counting ws u) (filings ws u) p i w (points ws u) at is

  pub filing_none : (ws : List (Write B)) (u p : ℕ) → None ≡ slice_get (counting ws u) p → None ≡ slice_get (filings ws u) p
  filing_none ws u p e = sym (slice_get_past (filings ws u) p (omega (arith, none_past (counting ws u) p e, filings_length ws u)))

  pub short_list : (ws : List (Write B)) (latest lens : List ℕ) (k units u : ℕ) → row latest lens k units u ≡ counting ws u → get_or lens u 0 ≤ k → length (filings ws u) ≤ k
  short_list ws latest lens k units u is le = omega (arith, filings_length ws u, ap length (sym is), row_short latest lens k units u le)

  pub no_list : (ws : List (Write B)) (latest lens : List ℕ) (k units u : ℕ) → row latest lens k units u ≡ counting ws u → units ≤ u → length (filings ws u) ≡ 0
  no_list ws latest lens k units u is le = filings_length ws u ∙ ap length (sym is ∙ row_unknown latest lens k units u le)
