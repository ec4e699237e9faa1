-- The offer of a thermal unit.
use Rattle.std.specs.Prelude.{◌≡◌, ◌-◌, ◌≤◌, Bool, not, ◌&&◌, ◌||◌, length, ℤ, pos, ◌≤ℤ◌, int_le, int_lt, nat_le}
use Rattle.offers.specs.declared.ceilings.Ceilings.{Ceilings}
use Rattle.offers.specs.declared.terms.Terms.{Terms}
use Rattle.offers.specs.Bodies.{priced}
use Rattle.offers.specs.Meaning.{Meaning}
use Rattle.std.specs.Int.{int_min}
use Rattle.std.specs.Ordering.{int_eq}
use Rattle.thermal.specs.declared.Thermal.{Thermal}
use Rattle.curves.specs.Curve.{Rising, Climbing, Above, upper_at, rises, climbs, above, last_upper, cost_at}
use Rattle.curves.specs.Steps.{steps_in, lowered}

-- 0 not available, 1 economic, 2 must-run
pub record Status (b : Thermal) : Type 0 where
  pub low : pos 0 ≤ℤ b.status
  pub high : b.status ≤ℤ pos 2

-- the economic limits, in kW
pub record Economic (b : Thermal) : Type 0 where
  pub low : pos 0 ≤ℤ b.economic_min
  pub ordered : b.economic_min ≤ℤ b.economic_max

-- the emergency limits around them, up to the registered maximum
pub record Emergency (b : Thermal) (maximum : ℤ) : Type 0 where
  pub low : pos 0 ≤ℤ b.emergency_min
  pub minimums : b.emergency_min ≤ℤ b.economic_min
  pub maximums : b.economic_max ≤ℤ b.emergency_max
  pub registered : b.emergency_max ≤ℤ maximum

-- the start price, in centavos
pub record Start (b : Thermal) : Type 0 where
  pub low : pos 0 ≤ℤ b.start_price
  pub high : b.start_price ≤ℤ pos 1000000000

-- 1 to 8 steps that rise to the economic maximum, at prices that never fall, from floor to cap
pub record StepRules (b : Thermal) (floor cap : ℤ) : Type 0 where
  pub some : 1 ≤ length (steps_in b.steps)
  pub few : length (steps_in b.steps) ≤ 8
  pub rising : Rising (steps_in b.steps)
  pub last : upper_at (steps_in b.steps) (length (steps_in b.steps) - 1) ≡ b.economic_max
  pub climbing : Climbing floor (steps_in b.steps)
  pub below : Above cap (steps_in b.steps) → ⊥

-- the rules of admission
pub record Admissible (b : Thermal) (t : Terms) : Type 0 where
  pub status : Status b
  pub economic : Economic b
  pub emergency : Emergency b t.maximum
  pub start : Start b
  pub steps : StepRules b t.floor t.cap

-- the tests of these
abbrev pub good_status : Thermal → Bool
good_status b = int_le (pos 0) b.status && int_le b.status (pos 2)

abbrev pub good_economic : Thermal → Bool
good_economic b = int_le (pos 0) b.economic_min && int_le b.economic_min b.economic_max

abbrev pub good_emergency_min : Thermal → Bool
good_emergency_min b = int_le (pos 0) b.emergency_min && int_le b.emergency_min b.economic_min

abbrev pub good_emergency_max : Thermal → ℤ → Bool
good_emergency_max b max = int_le b.economic_max b.emergency_max && int_le b.emergency_max max

abbrev pub good_limits : Thermal → ℤ → Bool
good_limits b max = (good_economic b && good_emergency_min b) && good_emergency_max b max

abbrev pub good_start : Thermal → Bool
good_start b = int_le (pos 0) b.start_price && int_le b.start_price (pos 1000000000)

abbrev pub good_steps : Thermal → ℤ → ℤ → Bool
good_steps b floor cap =
    (nat_le 1 (length (steps_in b.steps)) && nat_le (length (steps_in b.steps)) 8)
    && (rises (pos 0) (steps_in b.steps) && (int_eq (last_upper (pos 0) (steps_in b.steps)) b.economic_max && (climbs floor (steps_in b.steps) && not (above cap (steps_in b.steps)))))

abbrev pub admits : Thermal → Terms → Bool
admits b t = good_status b && (good_limits b t.maximum && (good_start b && good_steps b t.floor t.cap))

-- each price the lesser of itself and its ceiling
abbrev pub capped_body : Thermal → Ceilings → Thermal
capped_body b c = record b { start_price = int_min b.start_price c.start; steps = lowered b.steps c.energy }

-- what a body says by itself: top is the economic maximum
abbrev pub written : Meaning Thermal
written = record {
  admits = admits;
  top = λ b. b.economic_max;
  cost = λ b q. cost_at q (steps_in b.steps);
  start = λ b. b.start_price;
  exceeds = λ b c. above c.energy (steps_in b.steps) || int_lt c.start b.start_price;
  capped = capped_body;
}

-- what it means: what no book admits is idle
abbrev pub meaning : Meaning Thermal
meaning = priced written
