-- Thermal bodies keep their rules, and are capped as every kind is.
use Rattle.std.specs.Prelude.{◌≡◌, ◌≤◌, true, false, not, ◌&&◌, length, ℤ, pos, ◌≤ℤ◌, Decides, int_le, int_lt, nat_le, refl}
use Rattle.std.specs.Ordering.{int_eq}
use Rattle.std.proofs.Common.{sym, ◌∙◌, ap, arith, le-leb}
use Rattle.std.specs.Int.Signed.{≤ℤ_refl}
use Rattle.offers.specs.declared.ceilings.Ceilings.{Ceilings}
use Rattle.offers.specs.declared.terms.Terms.{Terms}
use Rattle.offers.specs.Bodies.{Rules, Capping, possible}
use Rattle.offers.specs.BodyLaws.{lawful as body_lawful}
use Rattle.offers.specs.Laws.{Allowed, Filed, Lawful}
use Rattle.offers.specs.Widest.{widest_terms}
use Rattle.std.specs.Int.{int_min}
use Rattle.std.proofs.lemmas.Int.{ints, clamps}
use Rattle.std.proofs.lemmas.Bool.{and_parts, and_from, or_from, or_parts, cond-true, not-true, not_from_false}
use Rattle.std.proofs.lemmas.Bool.Decides.{Decides-int_eq, Decides-not, not_from_Decides}
use Rattle.thermal.specs.declared.Thermal.{Thermal}
use Rattle.curves.specs.Curve.{above, climbs, rises, last_upper}
use Rattle.curves.specs.Steps.{steps_in, lowered}
use Rattle.thermal.specs.Thermals.{Status, Economic, Emergency, Start, Admissible, good_status, good_economic, good_limits, good_emergency_min, good_emergency_max, good_start, good_steps, admits, capped_body, meaning, written}
use Rattle.curves.proofs.Curves.{no_dearer, above_capped, above_lower, above_wider, lesser_own, rises_grows, rises_capped, last_capped, climbs_capped, climbs_wider, steps_lowered, lowered_own}
use Rattle.curves.specs.Priced.{step_cost}
use Rattle.curves.proofs.Decisions.{int_le_from, int_lt_not}
use Rattle.curves.proofs.Priced.{cost_told}
use Rattle.curves.proofs.Places.{rising_decided, climbing_decided, above_decided, last_is, curve_laws}
use Rattle.offers.proofs.WidestAllowed.{widest_allowed}

-- the rules as the tests have them
pub record Passed (b : Thermal) (t : Terms) : Type 0 where
  pub status : Status b
  pub economic : Economic b
  pub emergency : Emergency b t.maximum
  pub start : Start b
  pub some : 1 ≤ length (steps_in b.steps)
  pub few : length (steps_in b.steps) ≤ 8
  pub rising : rises (pos 0) (steps_in b.steps) ≡ true
  pub last : last_upper (pos 0) (steps_in b.steps) ≡ b.economic_max
  pub climbing : climbs t.floor (steps_in b.steps) ≡ true
  pub below : above t.cap (steps_in b.steps) ≡ false

steps_good : (b : Thermal) (t : Terms) → admits b t ≡ true → good_steps b t.floor t.cap ≡ true
steps_good b t h =
    let p = and_parts (good_status b) (good_limits b t.maximum && (good_start b && good_steps b t.floor t.cap)) h in
    let q = and_parts (good_limits b t.maximum) (good_start b && good_steps b t.floor t.cap) p.1 in
    (and_parts (good_start b) (good_steps b t.floor t.cap) q.1).1

pub parts : (b : Thermal) (t : Terms) → admits b t ≡ true → Passed b t
parts b t h =
    let ss = steps_in b.steps in
    let counted = nat_le 1 (length ss) && nat_le (length ss) 8 in
    let priced = climbs t.floor ss && not (above t.cap ss) in
    let p = and_parts counted (rises (pos 0) ss && (int_eq (last_upper (pos 0) ss) b.economic_max && priced)) (steps_good b t h) in
    let q = and_parts (rises (pos 0) ss) (int_eq (last_upper (pos 0) ss) b.economic_max && priced) p.1 in
    let r = and_parts (int_eq (last_upper (pos 0) ss) b.economic_max) priced q.1 in
    let x = and_parts (climbs t.floor ss) (not (above t.cap ss)) r.1 in
    record {
      status = record { low = grind (arith, ints); high = grind (arith, ints) };
      economic = record { low = grind (arith, ints); ordered = grind (arith, ints) };
      emergency = record { low = grind (arith, ints); minimums = grind (arith, ints); maximums = grind (arith, ints); registered = grind (arith, ints) };
      start = record { low = grind (arith, ints); high = grind (arith, ints) };
      some = grind (arith, ints);
      few = grind (arith, ints);
      rising = q.0;
      last = grind (arith, ints);
      climbing = x.0;
      below = not-true _ x.1;
    }

steps_whole : (b : Thermal) (t : Terms) → Passed b t → good_steps b t.floor t.cap ≡ true
steps_whole b t h =
    and_from _ _ (and_from _ _ (le-leb _ _ h.some) (le-leb _ _ h.few))
    (and_from _ _ h.rising (and_from _ _ ((Decides-int_eq _ _).1 h.last) (and_from _ _ h.climbing (not_from_false _ h.below))))

whole : (b : Thermal) (t : Terms) → Passed b t → admits b t ≡ true
whole b t h =
    let status = h.status in
    let economic = h.economic in
    let emergency = h.emergency in
    let start = h.start in
    let status_good : good_status b ≡ true = grind (arith, ints) in
    let economic_good : good_economic b ≡ true = grind (arith, ints) in
    let min_good : good_emergency_min b ≡ true = grind (arith, ints) in
    let max_good : good_emergency_max b t.maximum ≡ true = grind (arith, ints) in
    let start_good : good_start b ≡ true = grind (arith, ints) in
    and_from _ _ status_good (and_from _ _ (and_from _ _ (and_from _ _ economic_good min_good) max_good) (and_from _ _ start_good (steps_whole b t h)))

-- the tests decide the rules
pub decided : (b : Thermal) (t : Terms) → Decides (admits b t) (Admissible b t)
decided b t =
    let ss = steps_in b.steps in (
      (λ h. (let a = parts b t h in record {
        status = a.status;
        economic = a.economic;
        emergency = a.emergency;
        start = a.start;
        steps = record {
          some = a.some;
          few = a.few;
          rising = (rising_decided ss).0 a.rising;
          last = sym (last_is ss) ∙ a.last;
          climbing = (climbing_decided t.floor ss).0 a.climbing;
          below = not_from_Decides _ (above_decided t.cap ss) a.below;
        };
      })),
      (λ a. whole b t (record {
        status = a.status;
        economic = a.economic;
        emergency = a.emergency;
        start = a.start;
        some = a.steps.some;
        few = a.steps.few;
        rising = (rising_decided ss).1 a.steps.rising;
        last = last_is ss ∙ a.steps.last;
        climbing = (climbing_decided t.floor ss).1 a.steps.climbing;
        below = not-true _ ((Decides-not _ (above_decided t.cap ss)).1 a.steps.below);
      })),
    )

widest : (b : Thermal) (t : Terms) → Allowed t → admits b t ≡ true → admits b widest_terms ≡ true
widest b t l h =
    let a = parts b t h in
    let e = a.emergency in
    let ss = steps_in b.steps in
    whole b widest_terms (record {
      status = a.status;
      economic = a.economic;
      emergency = record { low = e.low; minimums = e.minimums; maximums = e.maximums; registered = omega (arith, ints) };
      start = a.start;
      some = a.some;
      few = a.few;
      rising = a.rising;
      last = a.last;
      climbing = climbs_wider t.floor widest_terms.floor ss a.climbing l.lowest;
      below = above_wider t.cap widest_terms.cap ss a.below l.highest;
    })

-- a body that some book admits has the cost that its steps tell
pub cost_is : (b : Thermal) (q : ℤ) → possible written b ≡ true → pos 0 ≤ℤ q → q ≤ℤ b.economic_max → step_cost (steps_in b.steps) q ≡ meaning.cost b q
cost_is b q h low high =
    let a = parts b widest_terms h in
    let t = and_from (possible written b) (int_le (pos 0) q && int_le q b.economic_max) h (and_from _ _ (int_le_from _ _ low) (int_le_from _ _ high)) in
    cost_told (steps_in b.steps) q a.few a.rising a.climbing a.below low (omega (arith, ints)) ∙ sym (cond-true _ _ _ t)

pub rules : Rules written Admissible
rules = record { decides = decided; widest = widest; allowed = widest_allowed }

module _ (b : Thermal) (t : Terms) (c : Ceilings) (h : Filed written b t c) where
  stays : admits (capped_body b c) t ≡ true
  stays =
      let a = parts b t h.admitted in
      let start = a.start in
      let k = h.bring in
      let ss = steps_in b.steps in
      let w = steps_lowered b.steps c.energy in
      let many = ap length w ∙ curve_laws.capped_count c.energy ss in
      whole (capped_body b c) t (record {
        status = record { low = a.status.low; high = a.status.high };
        economic = record { low = a.economic.low; ordered = a.economic.ordered };
        emergency = record { low = a.emergency.low; minimums = a.emergency.minimums; maximums = a.emergency.maximums; registered = a.emergency.registered };
        start = record { low = omega (arith, ints, clamps); high = omega (arith, ints, clamps) };
        some = rw many a.some;
        few = rw many a.few;
        rising = ap (rises (pos 0)) w ∙ rises_capped (pos 0) c.energy ss ∙ a.rising;
        last = ap (last_upper (pos 0)) w ∙ last_capped (pos 0) c.energy ss ∙ a.last;
        climbing = ap (climbs t.floor) w ∙ climbs_capped t.floor t.floor c.energy ss a.climbing (≤ℤ_refl t.floor) k.energy_low;
        below = ap (above t.cap) w ∙ above_lower c.energy t.cap ss a.below;
      })

  none : written.exceeds (capped_body b c) c ≡ false
  none =
      let p : int_min b.start_price c.start ≤ℤ c.start = omega (arith, ints, clamps) in
      or_from _ _ (ap (above c.energy) (steps_lowered b.steps c.energy) ∙ above_capped c.energy (steps_in b.steps)) (int_lt_not _ _ p)

  less : (q : ℤ) → written.cost (capped_body b c) q ≤ℤ written.cost b q
  less q =
      let a = parts b t h.admitted in
      let ss = steps_in b.steps in
      rw (steps_lowered b.steps c.energy) (no_dearer q (pos 0) c.energy ss (rises_grows (pos 0) ss a.rising))

-- where no price is above its ceiling, capping changes nothing
own : (b : Thermal) (c : Ceilings) → written.exceeds b c ≡ false → capped_body b c ≡ b
own b c x =
    let y = or_parts (above c.energy (steps_in b.steps)) (int_lt c.start b.start_price) x in
    let u : lowered b.steps c.energy ≡ b.steps = lowered_own b.steps c.energy y.0 in
    let v : int_min b.start_price c.start ≡ b.start_price = lesser_own b.start_price c.start y.1 in
    ap (λ p. record b { start_price = p; steps = lowered b.steps c.energy }) v ∙ ap (λ l. record b { steps = l }) u

pub capping : Capping written
capping = record {
  stays_admissible = stays;
  same_top = λ b t c h. refl;
  exceeds_none = none;
  own = own;
  no_dearer = λ b t c h q low high. less b t c h q;
  start_no_dearer = λ b t c h. omega (arith, ints, clamps);
}

-- so their meaning shows the laws of every kind
pub lawful : Lawful meaning
lawful = body_lawful written Admissible rules capping
