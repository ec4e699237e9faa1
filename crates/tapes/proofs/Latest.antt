-- The slot that counts for a place is the latest that has it.
use Rattle.std.proofs.Common.{◌≡◌, ℕ, zero, suc, ◌+◌, ◌<◌, ◌≤◌, Bool, true, false, cond, eqb, List, [], ◌∷◌, ◌++◌, length, get_or, take, Some, None, Option, sym, refl, ap, ◌∙◌, subst, ⊎_elim, le_of_suc-le-suc, not-suc-le-zero, arith, length-take}
use Rattle.std.proofs.Math.Arith.{lt_of_le-ne}
use Rattle.std.proofs.lemmas.List.{take_more}
use Rattle.std.proofs.lemmas.Bool.Decides.{eqb_tells}
use Rattle.std.specs.List.{slice_get}
use Rattle.ledgers.specs.declared.write.Write.{Write}
use Rattle.ledgers.specs.Puts.{put}
use Rattle.tapes.specs.Slots.{counting, Has, Latest, Orderly}
use Rattle.tapes.proofs.Slots.{list_more}

nth_put_same : {X : Type 0} (xs : List X) (p : ℕ) (x : X) → p ≤ length xs → slice_get (put xs p x) p ≡ Some x
nth_put_same [] zero x le = refl
nth_put_same [] (suc p) x le = absurd (not-suc-le-zero le)
nth_put_same (y ∷ ys) zero x le = refl
nth_put_same (y ∷ ys) (suc p) x le = nth_put_same ys p x (le_of_suc-le-suc le)

nth_put_other : {X : Type 0} (xs : List X) (p q : ℕ) (x : X) → p ≤ length xs → (q ≡ p → ⊥) → slice_get (put xs p x) q ≡ slice_get xs q
nth_put_other [] zero zero x le ne = absurd (ne refl)
nth_put_other [] zero (suc q) x le ne = refl
nth_put_other [] (suc p) q x le ne = absurd (not-suc-le-zero le)
nth_put_other (y ∷ ys) zero zero x le ne = absurd (ne refl)
nth_put_other (y ∷ ys) zero (suc q) x le ne = refl
nth_put_other (y ∷ ys) (suc p) zero x le ne = refl
nth_put_other (y ∷ ys) (suc p) (suc q) x le ne = nth_put_other ys p q x (le_of_suc-le-suc le) (λ e. ne (ap suc e))

item_at : {X : Type 0} (xs : List X) (n : ℕ) → n < length xs → (x : X) × ((d : X) → get_or xs n d ≡ x)
item_at [] n lt = absurd (not-suc-le-zero lt)
item_at (x ∷ xs) zero lt = (x, λ d. refl)
item_at (x ∷ xs) (suc n) lt = item_at xs n (le_of_suc-le-suc lt)

last_or_before : (j n : ℕ) → j < suc n → (P : ℕ → Type 0) → (j < n → P j) → P n → P j
last_or_before j n lt P before here = ⊎_elim
    (λ (e : (eqb j n ≡ true) × (j ≡ n)). subst P (sym e.1) here)
    (λ (e : (eqb j n ≡ false) × (j ≡ n → ⊥)). before (lt_of_le-ne (le_of_suc-le-suc lt) e.1))
    (eqb_tells j n)

module _ {B : Type 0} (slots : List (Write B)) where
  -- a slot more, of another unit or place
  one_more : (n u p : ℕ) (o : Option ℕ) → Latest slots n u p o → (Has slots n u p → ⊥) → Latest slots (suc n) u p o
  one_more n u p None so other = λ j lt. last_or_before j n lt (λ k. Has slots k u p → ⊥) (so j) other
  one_more n u p (Some i) so other = (omega (arith, so.0), so.1, λ j after lt. last_or_before j n lt (λ k. Has slots k u p → ⊥) (so.2 j after) other)

  -- the first n, and slot n with its place
  module _ (n : ℕ) (w : Write B) (is : (d : Write B) → get_or slots n d ≡ w) (lt : n < length slots) (within : w.place ≤ length (counting (take n slots) w.unit)) where
    abbrev before : ℕ → List ℕ
    before u = counting (take n slots) u

    counted : (u : ℕ) → counting (take (suc n) slots) u ≡ cond (eqb u w.unit) (put (before u) w.place n) (before u)
    counted u =
        let long : 0 + length (take n slots) ≡ n = omega (arith, length-take n slots) in
        ap (λ k. counting (take k slots) u) (let e : suc n ≡ n + 1 = omega arith in e)
        ∙ ap (λ l. counting l u) (take_more slots n w lt ∙ ap (λ x. take n slots ++ x ∷ []) (is w))
        ∙ list_more (λ m x. m) 0 [] (take n slots) w u
        ∙ ap (λ k. cond (eqb u w.unit) (put (before u) w.place k) (before u)) long

    has_place : (u p : ℕ) → Has slots n u p → (w.unit ≡ u) × (w.place ≡ p)
    has_place u p has = (ap (λ x. x.unit) (sym (is w)) ∙ (has w).0, ap (λ x. x.place) (sym (is w)) ∙ (has w).1)

    at_place : (u p : ℕ) → u ≡ w.unit → ((q : ℕ) → Latest slots n u q (slice_get (before u) q)) → Latest slots (suc n) u p (slice_get (put (before u) w.place n) p)
    at_place u p same so =
        let fits : w.place ≤ length (before u) = omega (arith, within, ap (λ k. length (before k)) same) in
        ⊎_elim
        (λ (e : (eqb p w.place ≡ true) × (p ≡ w.place)).
        let has : Has slots n u p = λ d. (ap (λ x. x.unit) (is d) ∙ sym same, ap (λ x. x.place) (is d) ∙ sym e.1) in
        subst (Latest slots (suc n) u p) (sym (ap (slice_get (put (before u) w.place n)) e.1 ∙ nth_put_same (before u) w.place n fits)) (omega arith, has, λ j after le here. let q : ⊥ = omega arith in q))
        (λ (e : (eqb p w.place ≡ false) × (p ≡ w.place → ⊥)).
        subst (Latest slots (suc n) u p) (sym (nth_put_other (before u) w.place p n fits e.1)) (one_more n u p (slice_get (before u) p) (so p) (λ has. e.1 (sym (has_place u p has).1))))
        (eqb_tells p w.place)

    latest_step : (u p : ℕ) → ((q : ℕ) → Latest slots n u q (slice_get (before u) q)) → Latest slots (suc n) u p (slice_get (counting (take (suc n) slots) u) p)
    latest_step u p so =
        let to : Bool → List ℕ = λ b. cond b (put (before u) w.place n) (before u) in
        subst (λ l. Latest slots (suc n) u p (slice_get l p)) (sym (counted u))
        (⊎_elim
        (λ (e : (eqb u w.unit ≡ true) × (u ≡ w.unit)). subst (λ b. Latest slots (suc n) u p (slice_get (to b) p)) (sym e.0) (at_place u p e.1 so))
        (λ (e : (eqb u w.unit ≡ false) × (u ≡ w.unit → ⊥)). subst (λ b. Latest slots (suc n) u p (slice_get (to b) p)) (sym e.0) (one_more n u p (slice_get (before u) p) (so p) (λ has. e.1 (sym (has_place u p has).0))))
        (eqb_tells u w.unit))

  pub latest_so : (n : ℕ) → n ≤ length slots → Orderly slots n → (u p : ℕ) → Latest slots n u p (slice_get (counting (take n slots) u) p)
  latest_so zero le orderly u p = λ j lt has. not-suc-le-zero lt
  latest_so (suc n) le orderly u p =
      let at = item_at slots n le in
      let w = at.0 in
      let within : w.place ≤ length (counting (take n slots) w.unit) = subst (λ x. x.place ≤ length (counting (take n slots) x.unit)) (at.1 w) (orderly n w (omega arith)) in
      latest_step n w at.1 le within u p (λ q. latest_so n (omega arith) (λ j d lt. orderly j d (omega arith)) u q)
