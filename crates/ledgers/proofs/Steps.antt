-- An add and a mark as writes to a list.
use Rattle.std.proofs.Common.{◌≡◌, ℕ, zero, suc, ◌+◌, ◌<◌, Bool, true, false, cond, ◌&&◌, eqb, ltb, List, [], ◌∷◌, ◌++◌, length, set, ℤ, pos, negsuc, Some, None, Ok, Err, Option, Result, sym, refl, ap, ◌∙◌, subst, ⊎_elim, le_of_suc-le-suc, not-suc-le-zero, arith}
use Rattle.std.proofs.lemmas.Bool.Decides.{leb_tells}
use Rattle.std.proofs.lemmas.Option.{slice_get_within}
use Rattle.std.specs.List.{slice_get}
use Rattle.refusals.specs.declared.ledger.LedgerRefusal.{LedgerRefusal}
use Rattle.refusals.specs.declared.ledger.LedgerRefusal.TheVariants.{UnknownUnit, ListFull, NotMarkable}
use Rattle.ledgers.specs.declared.filing.Filing.{Filing}
use Rattle.ledgers.specs.declared.verdict.Verdict.{Verdict}
use Rattle.ledgers.specs.declared.verdict.Verdict.TheVariants.{Consistent, Capped, PassedOver}
use Rattle.ledgers.specs.declared.write.Write.{Write}
use Rattle.ledgers.specs.Verdicts.{waits, judgement}
use Rattle.ledgers.specs.Held.{Held, Bounded, number_below, natural_of}
use Rattle.ledgers.specs.Writes.{given, add_of, mark_of, judged, judged_as, is_round, with_list, after_add, after_mark}
use Rattle.ledgers.specs.Puts.{put, written, made, Fits}

-- two variants are not one value: the premise is found by `cc`
pub clash : {C : Type 0} → ◌≡◌ {A = ℕ} 0 1 → C
clash e = absurd (let f : ⊥ = omega arith in f)

-- a number that is one below an end
pub below_some : (x : ℤ) (end n : ℕ) → Some n ≡ number_below x end → (x ≡ pos n) × (n < end)
below_some (pos m) end n e = ⊎_elim
    (λ (t : (ltb m end ≡ true) × (m < end)). let s : Some n ≡ Some m = e ∙ ap (λ b. cond b (Some m) None) t.0 in let q : n ≡ m = cc in (ap pos (sym q), omega arith))
    (λ (t : (ltb m end ≡ false) × (end < suc m)). let s : Some n ≡ None = e ∙ ap (λ b. cond b (Some m) None) t.0 in clash cc)
    (leb_tells (suc m) end)
below_some (negsuc m) end n e = clash cc

pub put_end : {X : Type 0} (xs : List X) (x : X) → put xs (length xs) x ≡ xs ++ x ∷ []
put_end [] x = refl
put_end (y ∷ ys) x = ap (λ l. y ∷ l) (put_end ys x)

pub put_set : {X : Type 0} (xs : List X) (p : ℕ) (x : X) → p < length xs → put xs p x ≡ set xs p x
put_set [] p x lt = absurd (not-suc-le-zero lt)
put_set (y ∷ ys) zero x lt = refl
put_set (y ∷ ys) (suc p) x lt = ap (λ l. y ∷ l) (put_set ys p x (le_of_suc-le-suc lt))

where_both : {X : Type 0} (a b : Bool) (x : X) (o : Option X) → Some x ≡ cond (a && b) o None → (a ≡ true) × (Some x ≡ o)
where_both true true x o e = (refl, e)
where_both true false x o e = clash cc
where_both false b x o e = clash cc

given_so : {A C : Type 0} (o : Option A) (e : LedgerRefusal) (next : A → Result C LedgerRefusal) (c : C) → Ok c ≡ given o e next → (a : A) × (o ≡ Some a) × (Ok c ≡ next a)
given_so None e next c is = clash cc
given_so (Some a) e next c is = (a, refl, is)

ok_is : {C : Type 0} (c d : C) → ◌≡◌ {A = Result C LedgerRefusal} (Ok c) (Ok d) → c ≡ d
ok_is c d e = cc

module _ {B : Type 0} where
  made_end : (fs : List (Filing B)) (f : Filing B) → waits f.verdict ≡ true → made (put fs (length fs) f) ≡ made fs + 1
  made_end [] f w = ap (λ b. cond b 1 2 + 0) w
  made_end (g ∷ fs) f w = omega (arith, made_end fs f w)

  made_mark : (fs : List (Filing B)) (p : ℕ) (f g : Filing B) → Some f ≡ slice_get fs p → waits f.verdict ≡ true → waits g.verdict ≡ false → made (put fs p g) ≡ made fs + 1
  made_mark [] p f g at w j = clash cc
  made_mark (x ∷ fs) zero f g at w j =
      let same : f ≡ x = cc in
      let wx : waits x.verdict ≡ true = ap (λ y. waits y.verdict) (sym same) ∙ w in
      let one : ◌≡◌ {A = ℕ} (cond (waits x.verdict) 1 2) 1 = ap (λ b. cond b 1 2) wx in
      let two : ◌≡◌ {A = ℕ} (cond (waits g.verdict) 1 2) 2 = ap (λ b. cond b 1 2) j in
      omega (arith, one, two)
  made_mark (x ∷ fs) (suc p) f g at w j = omega (arith, made_mark fs p f g at w j)

  -- a filing that is judged waited, and waits no more
  by_number : (f g : Filing B) (r : ℤ) (a b c : Bool) → Some g ≡ judged_as f (cond a (Some Consistent) (cond b (Some Capped) (cond c (Some PassedOver) None))) r → waits g.verdict ≡ false
  by_number f g r true b c e = let v : g.verdict ≡ Consistent = cc in ap waits v
  by_number f g r false true c e = let v : g.verdict ≡ Capped = cc in ap waits v
  by_number f g r false false true e = let v : g.verdict ≡ PassedOver = cc in ap waits v
  by_number f g r false false false e = clash cc

  as_judged : (f g : Filing B) (v r : ℤ) → Some g ≡ judged_as f (judgement v) r → waits g.verdict ≡ false
  as_judged f g (negsuc n) r e = clash cc
  as_judged f g (pos n) r e = by_number f g r (eqb n 1) (eqb n 2) (eqb n 3) e

  -- and its submission is kept
  kept : (f g : Filing B) (o : Option Verdict) (r : ℤ) → Some g ≡ judged_as f o r → g.submission ≡ f.submission
  kept f g None r e = clash cc
  kept f g (Some v) r e = let is : g ≡ record { submission = f.submission; verdict = v; round = r } = cc in ap (λ x. x.submission) is

  some_is : (f g : Filing B) → Some f ≡ Some g → f ≡ g
  some_is f g e = cc

  -- what is known of a write that an add or a mark makes
  add_so : (h : Held B) (o : Option ℕ) (f : Filing B) (w : Write B) → Ok w ≡ given o UnknownUnit (λ u. cond (ltb (length (h.list u)) h.places) (Ok (record { unit = u; place = length (h.list u); filing = f })) (Err ListFull)) → (Some w.unit ≡ o) × (w.place ≡ length (h.list w.unit)) × (w.place < h.places) × (w.filing ≡ f)
  add_so h None f w e = clash cc
  add_so h (Some u) f w e =
      let at : Bool → Result (Write B) LedgerRefusal = λ b. cond b (Ok (record { unit = u; place = length (h.list u); filing = f })) (Err ListFull) in
      ⊎_elim
      (λ (t : (ltb (length (h.list u)) h.places ≡ true) × (length (h.list u) < h.places)).
      let is : Ok w ≡ Ok (record { unit = u; place = length (h.list u); filing = f }) = e ∙ ap at t.0 in
      let same : w ≡ record { unit = u; place = length (h.list u); filing = f } = cc in
      let place : w.place ≡ length (h.list u) = ap (λ x. x.place) same in
      (ap (λ x. Some x.unit) same, place ∙ sym (ap (λ x. length (h.list x.unit)) same), omega (arith, t.1), ap (λ x. x.filing) same))
      (λ (t : (ltb (length (h.list u)) h.places ≡ false) × (h.places < suc (length (h.list u)))).
      let is : Ok w ≡ Err ListFull = e ∙ ap at t.0 in
      clash cc)
      (leb_tells (suc (length (h.list u))) h.places)

  pub add_fits : (h : Held B) (x : ℤ) (f : Filing B) (w : Write B) → Ok w ≡ add_of h x f → waits f.verdict ≡ true → Fits h w
  add_fits h x f w e waits-so =
      let t = add_so h (number_below x h.units) f w e in
      let fs = h.list w.unit in
      let still : waits w.filing.verdict ≡ true = ap (λ g. waits g.verdict) t.3 ∙ waits-so in
      record {
        known = (below_some x h.units w.unit t.0).1;
        room = t.2;
        within = omega (arith, t.1);
        one = ap (λ n. made (put fs n w.filing)) t.1 ∙ made_end fs w.filing still;
        same = λ g at. absurd (omega (arith, t.1, slice_get_within fs w.place g (sym at)));
      }

  pub add_after : (h : Held B) (x : ℤ) (f : Filing B) (w : Write B) → Ok w ≡ add_of h x f → written h w ≡ after_add h (add_of h x f)
  add_after h x f w e =
      let fs = h.list w.unit in
      let is = (add_so h (number_below x h.units) f w e).1 in
      ap (with_list h w.unit) (ap (λ n. put fs n w.filing) is ∙ put_end fs w.filing) ∙ ap (after_add h) e

  -- the filing that a mark found, waiting at its place, and its verdict
  record Found (h : Held B) (x v r : ℤ) (w : Write B) : Type 0 where
    known : Some w.unit ≡ number_below x h.units
    old : Filing B
    there : Some old ≡ slice_get (h.list w.unit) w.place
    inside : w.place < length (h.list w.unit)
    so : Some w.filing ≡ judged old v r

  found : (h : Held B) (x y v r : ℤ) (w : Write B) → Ok w ≡ mark_of h x y v r → Found h x v r w
  found h x y v r w e =
      let a = given_so (number_below x h.units) UnknownUnit _ w e in
      let b = given_so (natural_of y) NotMarkable _ w a.2 in
      let c = given_so (slice_get (h.list a.0) b.0) NotMarkable _ w b.2 in
      let d = given_so (judged c.0 v r) NotMarkable _ w c.2 in
      let same : w ≡ record { unit = a.0; place = b.0; filing = d.0 } = ok_is w _ d.2 in
      record {
        known = ap (λ z. Some z.unit) same ∙ sym a.1;
        old = c.0;
        there = sym c.1 ∙ sym (ap (λ z. slice_get (h.list z.unit) z.place) same);
        inside = subst (λ z. z.place < length (h.list z.unit)) (sym same) (slice_get_within (h.list a.0) b.0 c.0 c.1);
        so = ap (λ z. Some z.filing) same ∙ sym d.1;
      }

  pub mark_fits : (h : Held B) (x y v r : ℤ) (w : Write B) → Ok w ≡ mark_of h x y v r → Bounded h → Fits h w
  mark_fits h x y v r w e limits =
      let fs = h.list w.unit in
      let m = found h x y v r w e in
      let b = where_both (waits m.old.verdict) (is_round r) w.filing (judged_as m.old (judgement v) r) m.so in
      record {
        known = (below_some x h.units w.unit m.known).1;
        room = omega (arith, m.inside, limits.short w.unit);
        within = omega (arith, m.inside);
        one = made_mark fs w.place m.old w.filing m.there b.0 (as_judged m.old w.filing v r b.1);
        same = λ g at. kept m.old w.filing (judgement v) r b.1 ∙ ap (λ x. x.submission) (some_is m.old g (m.there ∙ sym at));
      }

  pub mark_after : (h : Held B) (x y v r : ℤ) (w : Write B) → Ok w ≡ mark_of h x y v r → written h w ≡ after_mark h (mark_of h x y v r)
  mark_after h x y v r w e =
      let m = found h x y v r w e in
      ap (with_list h w.unit) (put_set (h.list w.unit) w.place w.filing m.inside) ∙ ap (after_mark h) e
