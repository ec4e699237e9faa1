-- The offer of an intermittent unit: one step up to its forecast, and a start price of 0.
use Rattle.std.specs.Prelude.{Bool, ◌&&◌, ◌||◌, List, [], ◌∷◌, ℤ, pos, ◌≤ℤ◌, int_le, int_lt}
use Rattle.offers.specs.declared.terms.Terms.{Terms}
use Rattle.offers.specs.Bodies.{priced}
use Rattle.offers.specs.Meaning.{Meaning}
use Rattle.std.specs.Int.{int_min}
use Rattle.intermittent.specs.declared.Intermittent.{Intermittent}
use Rattle.curves.specs.declared.steps.Step.{Step}
use Rattle.curves.specs.Curve.{cost_at, above}

-- the rules of admission: a forecast from 0 to the registered maximum, and a price from floor to cap
pub record Admissible (b : Intermittent) (t : Terms) : Type 0 where
  pub forecast_low : pos 0 ≤ℤ b.forecast
  pub forecast_high : b.forecast ≤ℤ t.maximum
  pub price_low : t.floor ≤ℤ b.price
  pub price_high : b.price ≤ℤ t.cap

-- the tests of these
abbrev pub good_forecast : Intermittent → Terms → Bool
good_forecast b t = int_le (pos 0) b.forecast && int_le b.forecast t.maximum

abbrev pub good_price : Intermittent → Terms → Bool
good_price b t = int_le t.floor b.price && int_le b.price t.cap

abbrev pub admits : Intermittent → Terms → Bool
admits b t = good_forecast b t && good_price b t

abbrev pub steps_of : Intermittent → List Step
steps_of b = record { upper = b.forecast; price = b.price } ∷ []

-- the price the lesser of itself and its ceiling
abbrev pub lowered : Intermittent → ℤ → Intermittent
lowered b e = record b { price = int_min b.price e }

-- what a body says by itself: top is the forecast
abbrev pub written : Meaning Intermittent
written = record {
  admits = admits;
  top = λ b. b.forecast;
  cost = λ b q. cost_at q (steps_of b);
  start = λ b. pos 0;
  exceeds = λ b c. above c.energy (steps_of b) || int_lt c.start (pos 0);
  capped = λ b c. lowered b c.energy;
}

-- what it means: what no book admits is idle
abbrev pub meaning : Meaning Intermittent
meaning = priced written
