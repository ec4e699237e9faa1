-- Costs and capped prices of a curve, step by step.
use Rattle.std.proofs.Common.{◌≡◌, ℕ, ◌+◌, ◌*◌, ◌<◌, ◌≤◌, true, false, ◌&&◌, List, [], ◌∷◌, length, get_or, drop, ℤ, pos, ◌+ℤ◌, ◌-ℤ◌, neg_ℤ, ◌≤ℤ◌, sym, refl, ap, ◌∙◌, arith, w64, SFits}
use lib.IntN.{+ℤ_idr, +ℤ_assoc}
use lib.Signed.{le_z, lt_z, ≤ℤ_refl}
use Rattle.std.specs.Int.{int_min}
use Rattle.std.proofs.lemmas.List.{at_drop_more, at_drop_all}
use Rattle.std.proofs.lemmas.Int.{ints, clamps}
use Rattle.std.proofs.lemmas.Bool.{and_parts, and_from, or_parts, or_from, cond-false}
use Rattle.curves.specs.declared.steps.Step.{Step}
use Rattle.curves.specs.declared.steps.Steps.{Steps}
use Rattle.curves.specs.Curve.{no_step, part_cost, cost_above, cost_at, capped_step, capped_steps, rises, climbs, above, last_upper}
use Rattle.curves.specs.Fits.{PartFits}
use Rattle.curves.specs.PlaceLaws.{first_capped}
use Rattle.curves.specs.Steps.{steps_in, lowered}
use Rattle.curves.proofs.Decisions.{int_le_from, int_le_to, int_lt_to, int_lt_not, int_lt_not_to}
use Rattle.curves.proofs.Packing.{same_steps}
use Rattle.curves.proofs.Products.{times_mono, times_high, times_low}

-- upper kW do not fall below `lower`
abbrev pub Grows : ℤ → List Step → Type 0
Grows lower [] = Unit {0}
Grows lower (s ∷ ss) = (lower ≤ℤ s.upper) × Grows s.upper ss

pub rises_grows : (lower : ℤ) (ss : List Step) → rises lower ss ≡ true → Grows lower ss
rises_grows lower [] h = tt
rises_grows lower (s ∷ ss) h =
    let p = and_parts (lt_z lower s.upper) (rises s.upper ss) h in
    (let x = int_lt_to lower s.upper p.0 in omega (arith, ints), rises_grows s.upper ss p.1)

-- no step has a negative part of an output
pub part_grows : (q a b : ℤ) → a ≤ℤ b → pos 0 ≤ℤ (int_min q b -ℤ int_min q a)
part_grows q a b h = omega (arith, ints, clamps)

lesser_low : (a b : ℤ) → int_min a b ≤ℤ a
lesser_low a b = omega (arith, ints, clamps)

plus_mono : (a b c d : ℤ) → a ≤ℤ b → c ≤ℤ d → (a +ℤ c) ≤ℤ (b +ℤ d)
plus_mono a b c d h k = omega (arith, ints)

-- with lower prices no output is dearer
pub no_dearer : (q lower e : ℤ) (ss : List Step) → Grows lower ss → cost_above q lower (capped_steps e ss) ≤ℤ cost_above q lower ss
no_dearer q lower e [] h = ≤ℤ_refl (pos 0)
no_dearer q lower e (s ∷ ss) h =
    plus_mono _ _ _ _ (times_mono _ _ _ (part_grows q lower s.upper h.0) (lesser_low s.price e)) (no_dearer q s.upper e ss h.1)

pub rises_capped : (lower e : ℤ) (ss : List Step) → rises lower (capped_steps e ss) ≡ rises lower ss
rises_capped lower e [] = refl
rises_capped lower e (s ∷ ss) = ap (λ x. lt_z lower s.upper && x) (rises_capped s.upper e ss)

pub last_capped : (d e : ℤ) (ss : List Step) → last_upper d (capped_steps e ss) ≡ last_upper d ss
last_capped d e [] = refl
last_capped d e (s ∷ ss) = last_capped s.upper e ss

pub climbs_capped : (low least e : ℤ) (ss : List Step) → climbs low ss ≡ true → least ≤ℤ low → least ≤ℤ e → climbs least (capped_steps e ss) ≡ true
climbs_capped low least e [] h a b = refl
climbs_capped low least e (s ∷ ss) h a b =
    let p = and_parts (le_z low s.price) (climbs s.price ss) h in
    let x = int_le_to low s.price p.0 in
    let u : least ≤ℤ int_min s.price e = omega (arith, ints, clamps) in
    let w : int_min s.price e ≤ℤ e = omega (arith, ints, clamps) in
    and_from _ _ (int_le_from _ _ u) (climbs_capped s.price (int_min s.price e) e ss p.1 (lesser_low s.price e) w)

pub climbs_wider : (low low' : ℤ) (ss : List Step) → climbs low ss ≡ true → low' ≤ℤ low → climbs low' ss ≡ true
climbs_wider low low' [] h a = refl
climbs_wider low low' (s ∷ ss) h a =
    let p = and_parts (le_z low s.price) (climbs s.price ss) h in
    let x = int_le_to low s.price p.0 in
    let u : low' ≤ℤ s.price = omega (arith, ints) in
    and_from _ _ (int_le_from _ _ u) p.1

pub above_wider : (high high' : ℤ) (ss : List Step) → above high ss ≡ false → high ≤ℤ high' → above high' ss ≡ false
above_wider high high' [] h a = refl
above_wider high high' (s ∷ ss) h a =
    let p = or_parts (lt_z high s.price) (above high ss) h in
    let x = int_lt_not_to high s.price p.0 in
    let u : s.price ≤ℤ high' = omega (arith, ints) in
    or_from _ _ (int_lt_not _ _ u) (above_wider high high' ss p.1 a)

-- capped prices are above no ceiling that the prices were not above
pub above_lower : (e high : ℤ) (ss : List Step) → above high ss ≡ false → above high (capped_steps e ss) ≡ false
above_lower e high [] h = refl
above_lower e high (s ∷ ss) h =
    let p = or_parts (lt_z high s.price) (above high ss) h in
    let x = int_lt_not_to high s.price p.0 in
    let u : int_min s.price e ≤ℤ high = omega (arith, ints, clamps) in
    or_from _ _ (int_lt_not _ _ u) (above_lower e high ss p.1)

-- nor above their own
pub above_capped : (e : ℤ) (ss : List Step) → above e (capped_steps e ss) ≡ false
above_capped e [] = refl
above_capped e (s ∷ ss) =
    let w : int_min s.price e ≤ℤ e = omega (arith, ints, clamps) in
    or_from _ _ (int_lt_not _ _ w) (above_capped e ss)

pub lesser_own : (p e : ℤ) → lt_z e p ≡ false → int_min p e ≡ p
lesser_own p e h = cond-false _ _ _ h

-- prices that are not above the ceiling are their own capped prices
pub capped_own : (e : ℤ) (ss : List Step) → above e ss ≡ false → capped_steps e ss ≡ ss
capped_own e [] h = refl
capped_own e (s ∷ ss) h =
    let p = or_parts (lt_z e s.price) (above e ss) h in
    let a : capped_step e s ≡ s = ap (λ x. record { upper = s.upper; price = x }) (lesser_own s.price e p.0) in
    let b = capped_own e ss p.1 in
    cc

pub steps_lowered : (s : Steps) (e : ℤ) → steps_in (lowered s e) ≡ capped_steps e (steps_in s)
steps_lowered s e = first_capped s.places s.count e _ s.in_places

-- so in their places too
pub lowered_own : (s : Steps) (e : ℤ) → above e (steps_in s) ≡ false → lowered s e ≡ s
lowered_own s e h = same_steps (lowered s e) s (steps_lowered s e ∙ capped_own e (steps_in s) h)

-- the most that a step adds to a cost, either way
abbrev pub most_part : ℕ
most_part = 20000000000000

part_bounds : (s : Step) (lower q : ℤ) → PartFits s lower q → (part_cost q lower s ≤ℤ pos most_part) × (neg_ℤ (pos most_part) ≤ℤ part_cost q lower s)
part_bounds s lower q h =
    let w = int_min q s.upper -ℤ int_min q lower in
    let a : pos 0 ≤ℤ w = part_grows q lower s.upper h.climbs in
    let b : w ≤ℤ pos 2000000 = omega (arith, ints, clamps) in
    (times_high w s.price 2000000 10000000 a b h.price_high, times_low w s.price 2000000 10000000 a b h.price_low)

pub part_difference : (s : Step) (lower q : ℤ) → PartFits s lower q → SFits w64 (int_min q s.upper -ℤ int_min q lower)
part_difference s lower q h = omega (arith, ints, clamps)

pub part_product : (s : Step) (lower q : ℤ) → PartFits s lower q → SFits w64 (part_cost q lower s)
part_product s lower q h = let b = part_bounds s lower q h in omega (arith, ints)

-- the sum of the parts of the first i steps, which end at `lower` kW
pub record Running (q : ℤ) (all : List Step) (lower sum : ℤ) (i : ℕ) : Type 0 where
  pub from_0 : pos 0 ≤ℤ q
  pub to_most : q ≤ℤ pos 2000000
  pub value : cost_at q all ≡ (sum +ℤ cost_above q lower (drop i all))
  pub rising : rises lower (drop i all) ≡ true
  pub climbing : climbs (neg_ℤ (pos 10000000)) (drop i all) ≡ true
  pub below : above (pos 10000000) (drop i all) ≡ false
  pub lower_low : pos 0 ≤ℤ lower
  pub high : sum ≤ℤ pos (i * most_part)
  pub low : neg_ℤ (pos (i * most_part)) ≤ℤ sum

module _ (q : ℤ) (all : List Step) (lower sum : ℤ) (i : ℕ) (h : Running q all lower sum i) (t : i < length all) where
  here : Step
  here = get_or all i no_step

  rest : List Step
  rest = drop (i + 1) all

  -- what the tests say of the step at i, and of the rest
  rising_here : (lt_z lower (get_or all i no_step).upper ≡ true) × (rises (get_or all i no_step).upper (drop (i + 1) all) ≡ true)
  rising_here = and_parts _ _ (sym (at_drop_more (rises lower) all i no_step t) ∙ h.rising)

  climbing_here : (le_z (neg_ℤ (pos 10000000)) (get_or all i no_step).price ≡ true) × (climbs (get_or all i no_step).price (drop (i + 1) all) ≡ true)
  climbing_here = and_parts _ _ (sym (at_drop_more (climbs (neg_ℤ (pos 10000000))) all i no_step t) ∙ h.climbing)

  below_here : (lt_z (pos 10000000) (get_or all i no_step).price ≡ false) × (above (pos 10000000) (drop (i + 1) all) ≡ false)
  below_here = or_parts _ _ (sym (at_drop_more (above (pos 10000000)) all i no_step t) ∙ h.below)

  pub running_fits : PartFits (get_or all i no_step) lower q
  running_fits =
      let x = int_lt_to lower (get_or all i no_step).upper rising_here.0 in
      record {
        from_0 = h.from_0;
        to_most = h.to_most;
        lower_low = h.lower_low;
        climbs = omega (arith, ints);
        price_low = int_le_to _ _ climbing_here.0;
        price_high = int_lt_not_to _ _ below_here.0;
      }

  pub running_sum : length all ≤ 16 → SFits w64 (sum +ℤ part_cost q lower (get_or all i no_step))
  running_sum few =
      let b = part_bounds (get_or all i no_step) lower q running_fits in
      let x = h.high in
      let y = h.low in
      omega (arith, ints)

  pub running_more : Running q all (get_or all i no_step).upper (sum +ℤ part_cost q lower (get_or all i no_step)) (i + 1)
  running_more =
      let s = get_or all i no_step in
      let f = running_fits in
      let b = part_bounds s lower q f in
      record {
        from_0 = h.from_0;
        to_most = h.to_most;
        value = h.value ∙ ap (λ x. sum +ℤ x) (at_drop_more (cost_above q lower) all i no_step t) ∙ sym (+ℤ_assoc sum (part_cost q lower s) (cost_above q s.upper (drop (i + 1) all)));
        rising = rising_here.1;
        climbing = climbs_wider s.price (neg_ℤ (pos 10000000)) (drop (i + 1) all) climbing_here.1 f.price_low;
        below = below_here.1;
        lower_low = omega (arith, ints);
        high = omega (arith, ints);
        low = omega (arith, ints);
      }

pub running_all : (q : ℤ) (all : List Step) (lower sum : ℤ) (i : ℕ) → Running q all lower sum i → length all ≤ i → cost_at q all ≡ sum
running_all q all lower sum i h t = h.value ∙ ap (λ x. sum +ℤ x) (at_drop_all (cost_above q lower) all i t) ∙ +ℤ_idr sum
