-- Intermittent bodies keep their rules, and are capped as every kind is.
use Rattle.std.specs.Prelude.{◌≡◌, true, false, ◌&&◌, ℤ, pos, ◌-ℤ◌, ◌*ℤ◌, ◌≤ℤ◌, Decides, int_le, refl}
use Rattle.std.proofs.Common.{sym, ◌∙◌, ap, arith}
use Rattle.std.proofs.Math.IntN.{+ℤ_idr}
use Rattle.std.specs.Int.Signed.{≤ℤ_refl}
use Rattle.offers.specs.declared.ceilings.Ceilings.{Ceilings}
use Rattle.offers.specs.declared.terms.Terms.{Terms}
use Rattle.offers.specs.Bodies.{Rules, Capping, possible}
use Rattle.offers.specs.BodyLaws.{lawful as body_lawful}
use Rattle.offers.specs.Laws.{Allowed, Filed, Lawful}
use Rattle.offers.specs.Widest.{widest_terms}
use Rattle.std.specs.Int.{int_min}
use Rattle.std.proofs.lemmas.Int.{ints, clamps}
use Rattle.std.proofs.lemmas.Bool.{and_from, cond-true}
use Rattle.curves.proofs.Decisions.{int_le_from}
use Rattle.intermittent.specs.declared.Intermittent.{Intermittent}
use Rattle.intermittent.specs.Intermittents.{Admissible, admits, lowered, steps_of, meaning, written}
use Rattle.curves.proofs.Curves.{no_dearer}
use Rattle.offers.proofs.WidestAllowed.{widest_allowed}

-- the tests decide the rules
pub decided : (b : Intermittent) (t : Terms) → Decides (admits b t) (Admissible b t)
decided b t = (
  λ h. record { forecast_low = grind (arith, ints); forecast_high = grind (arith, ints); price_low = grind (arith, ints); price_high = grind (arith, ints) },
  λ a. grind (arith, ints),
)

widest : (b : Intermittent) (t : Terms) → Allowed t → admits b t ≡ true → admits b widest_terms ≡ true
widest b t l h = grind (arith, ints)

-- the one step's part of an output is all of it
pub own_cost : (b : Intermittent) (q : ℤ) → pos 0 ≤ℤ q → q ≤ℤ b.forecast → (q *ℤ b.price) ≡ written.cost b q
own_cost b q low high =
    let w : int_min q b.forecast -ℤ int_min q (pos 0) ≡ q = omega (arith, ints, clamps) in
    sym (+ℤ_idr _ ∙ ap (λ x. x *ℤ b.price) w)

pub cost_is : (b : Intermittent) (q : ℤ) → possible written b ≡ true → pos 0 ≤ℤ q → q ≤ℤ b.forecast → (q *ℤ b.price) ≡ meaning.cost b q
cost_is b q h low high =
    let t = and_from (possible written b) (int_le (pos 0) q && int_le q b.forecast) h (and_from _ _ (int_le_from _ _ low) (int_le_from _ _ high)) in
    own_cost b q low high ∙ sym (cond-true _ _ _ t)

pub rules : Rules written Admissible
rules = record { decides = decided; widest = widest; allowed = widest_allowed }

stays : (b : Intermittent) (t : Terms) (c : Ceilings) → Filed written b t c → admits (lowered b c.energy) t ≡ true
stays b t c h = let k = h.bring in let a = h.admitted in grind (arith, ints, clamps)

-- where no price is above its ceiling, capping changes nothing
own : (b : Intermittent) (c : Ceilings) → written.exceeds b c ≡ false → lowered b c.energy ≡ b
own b c x = let p : int_min b.price c.energy ≡ b.price = grind (arith, ints, clamps) in ap (λ v. record b { price = v }) p

pub capping : Capping written
capping = record {
  stays_admissible = stays;
  same_top = λ b t c h. refl;
  exceeds_none = λ b t c h. let k = h.bring in grind (arith, ints, clamps);
  own = own;
  no_dearer = λ b t c h q low high. no_dearer q (pos 0) c.energy (steps_of b) (((decided b t).0 h.admitted).forecast_low, tt);
  start_no_dearer = λ b t c h. ≤ℤ_refl (pos 0);
}

-- so their meaning shows the laws of every kind
pub lawful : Lawful meaning
lawful = body_lawful written Admissible rules capping
