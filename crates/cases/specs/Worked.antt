-- Worked cases, computed on the definitions that the contracts cite.
use Rattle.std.specs.Prelude.{◌≡◌, true, false, ◌∷◌, ℤ, pos, neg_ℤ, replicate, refl}
use Rattle.std.proofs.Common.{leb-true}
use Rattle.gates.specs.Gates.{real_time, cut_at}
use Rattle.curves.specs.declared.steps.Step.{Step}
use Rattle.thermal.specs.declared.Thermal.{Thermal}
use Rattle.intermittent.specs.Intermittents as intermittent
use Rattle.thermal.specs.Thermals as thermal
use Rattle.offers.specs.declared.ceilings.Ceilings.{Ceilings}
use Rattle.offers.specs.declared.terms.Terms.{Terms}

abbrev step : ℤ → ℤ → Step
step u p = record { upper = u; price = p }

-- a thermal body of 250 kW: 100 kW at 50,000 centavos per MWh, and 150 kW more at 70,000
abbrev pub two_steps : Thermal
two_steps = record {
  status = pos 1;
  emergency_min = pos 0;
  economic_min = pos 0;
  economic_max = pos 250;
  emergency_max = pos 250;
  start_price = pos 0;
  steps = record {
    places = step (pos 100) (pos 50000) ∷ (step (pos 250) (pos 70000) ∷ replicate 6 (step (pos 0) (pos 0)));
    count = 2;
    in_places = record { few = leb-true _ _ refl; counted = refl; rest = refl };
  };
}

-- terms that fit it exactly
abbrev terms : Terms
terms = record { maximum = pos 250; floor = pos 50000; cap = pos 70000 }

abbrev ceiling : ℤ → Ceilings
ceiling e = record { energy = e; start = pos 0 }

pub record WorkedCases : Type 0 where
  -- real time admits minute 719 for hour 12, and not 720
  pub hour_12 : real_time (pos 719) (pos 12) ≡ true
  pub hour_12_over : real_time (pos 720) (pos 12) ≡ false
  -- a cut gate admits the minute before its own, and not its own
  pub before_cut : cut_at (neg_ℤ (pos 840)) (neg_ℤ (pos 841)) (pos 1) ≡ true
  pub at_cut : cut_at (neg_ℤ (pos 840)) (neg_ℤ (pos 840)) (pos 1) ≡ false
  -- 100 kW at 50,000 and 80 kW at 70,000 cost 10,600,000 thousandths of a centavo
  pub admitted : (thermal.meaning).admits two_steps terms ≡ true
  pub filed : (thermal.meaning).cost two_steps (pos 180) ≡ pos 10600000
  -- capped at 60,000 they cost 9,800,000
  pub capped : (thermal.meaning).cost ((thermal.meaning).capped two_steps (ceiling (pos 60000))) (pos 180) ≡ pos 9800000
  -- a price equal to its ceiling does not exceed, and one above it does
  pub level : (thermal.meaning).exceeds two_steps (ceiling (pos 70000)) ≡ false
  pub over : (thermal.meaning).exceeds two_steps (ceiling (pos 69999)) ≡ true
  -- a low price is not raised to its ceiling
  pub low : (thermal.meaning).capped two_steps (ceiling (pos 70000)) ≡ two_steps
  -- an intermittent body costs its output times its price
  pub wind : (intermittent.meaning).cost (record { forecast = pos 200; price = neg_ℤ (pos 5) }) (pos 200) ≡ neg_ℤ (pos 1000)
