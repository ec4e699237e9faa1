-- Such kinds show the laws of every kind.
use Rattle.std.specs.Prelude.{◌≡◌, Bool, true, false, cond, ◌&&◌, ◌⊎◌, ℤ, pos, ◌≤ℤ◌, ◌<ℤ◌, int_le, refl}
use Rattle.std.proofs.Common.{sym, ◌∙◌, ap, arith, inl, inr}
use Rattle.std.specs.Int.Signed.{≤ℤ_refl}
use Rattle.std.proofs.lemmas.Int.{ints}
use Rattle.std.proofs.lemmas.Bool.{and_parts, and_left, and_right, cond-true, cond-false, cases_Bool}
use Rattle.offers.specs.declared.ceilings.Ceilings.{Ceilings}
use Rattle.offers.specs.declared.terms.Terms.{Terms}
use Rattle.offers.specs.Bodies.{possible, priced, Rules, Capping}
use Rattle.offers.specs.Laws.{Filed, Idle, Lawful}
use Rattle.offers.specs.Meaning.{Meaning}
use Rattle.offers.specs.Widest.{widest_terms}

-- a cost is 0 outside 0 to top
outside_0 : (can : Bool) (q most x : ℤ) → (q <ℤ pos 0) ⊎ (cond can most (pos 0) <ℤ q) → cond (can && (int_le (pos 0) q && int_le q most)) x (pos 0) ≡ pos 0
outside_0 false q most x h = refl
outside_0 true q most x h = grind (arith, ints)

module _ {B : Type 0} (F : Meaning B) (Keeps : B → Terms → Type 0) (R : Rules F Keeps) (C : Capping F) where
  module _ (b : B) (t : Terms) (c : Ceilings) (h : Filed (priced F) b t c) where
    filed : Filed F b t c
    filed = record { allowed = h.allowed; bring = h.bring; admitted = h.admitted }

    -- the body is possible, and capped it still is
    can : possible F b ≡ true
    can = R.widest b t h.allowed h.admitted

    still : possible F (F.capped b c) ≡ true
    still = R.widest (F.capped b c) t h.allowed (C.stays_admissible b t c filed)

    -- a body that was filed is capped as it says by itself
    pub lowers : (priced F).capped b c ≡ F.capped b c
    lowers = cond-true _ _ _ can

    less : (q : ℤ) → (priced F).cost ((priced F).capped b c) q ≤ℤ (priced F).cost b q
    less q = rw (can, still, C.same_top b t c filed) (elim (cases_Bool (int_le (pos 0) q && int_le q (F.top b))) [
      | inl in_range ↦ (
          let p = and_parts (int_le (pos 0) q) (int_le q (F.top b)) in_range in
          rw in_range (C.no_dearer b t c filed q (omega (arith, ints)) (omega (arith, ints))))
      | inr out ↦ rw out (≤ℤ_refl (pos 0))
    ])

  -- where no price is above its ceiling, capping changes nothing
  own : (b : B) (c : Ceilings) → (priced F).exceeds b c ≡ false → (priced F).capped b c ≡ b
  own b c x = elim (cases_Bool (possible F b)) [
    | inl can ↦ cond-true _ _ _ can ∙ C.own b c (sym (ap (λ v. v && F.exceeds b c) can) ∙ x)
    | inr not ↦ cond-false _ _ _ not
  ]

  idles : (b : B) → possible F b ≡ false → Idle (priced F) b
  idles b x = record {
    top = cond-false _ _ _ x;
    cost = λ q. cond-false _ _ _ (and_left _ _ x);
    start = cond-false _ _ _ x;
    exceeds = λ c. and_left _ _ x;
    capped = λ c. cond-false _ _ _ x;
  }

  pub lawful : Lawful (priced F)
  lawful = record {
    stays_admissible = λ b t c h. rw (can b t c h) (C.stays_admissible b t c (filed b t c h));
    same_top = λ b t c h. rw (can b t c h, still b t c h) (C.same_top b t c (filed b t c h));
    exceeds_none = λ b t c h. rw (can b t c h) (and_right _ _ (C.exceeds_none b t c (filed b t c h)));
    own = own;
    no_dearer = less;
    start_no_dearer = λ b t c h. rw (can b t c h, still b t c h) (C.start_no_dearer b t c (filed b t c h));
    idle = λ b h. idles b (h widest_terms R.allowed);
    outside = λ b q h. outside_0 (possible F b) q (F.top b) _ h;
  }
