-- The steps of an offer: each an upper kW and a price in centavos per MWh.
use Rattle.std.specs.Prelude.{ℕ, zero, suc, ◌<◌, Bool, true, ◌&&◌, List, [], ◌∷◌, map, length, ℤ, pos, ◌+ℤ◌, ◌-ℤ◌, ◌*ℤ◌, ◌≤ℤ◌, ◌<ℤ◌, int_le, int_lt, slice_index_or}
use Rattle.std.specs.Int.{int_min}
use Rattle.std.specs.List.{list_any}
use Rattle.curves.specs.declared.steps.Step.{Step}

-- the part of output q that the step above `lower` kW has
abbrev pub part_of : ℤ → ℤ → Step → ℤ
part_of q lower s = int_min q s.upper -ℤ int_min q lower

-- what it adds to the cost: that part times its price
abbrev pub part_cost : ℤ → ℤ → Step → ℤ
part_cost q lower s = part_of q lower s *ℤ s.price

-- the sum over the steps above `lower` kW
abbrev pub cost_above : ℤ → ℤ → List Step → ℤ
cost_above q lower [] = pos 0
cost_above q lower (s ∷ ss) = part_cost q lower s +ℤ cost_above q s.upper ss

-- the cost of one hour at output q, in thousandths of a centavo
abbrev pub cost_at : ℤ → List Step → ℤ
cost_at q ss = cost_above q (pos 0) ss

-- each price the lesser of itself and the ceiling
abbrev pub capped_step : ℤ → Step → Step
capped_step e s = record { upper = s.upper; price = int_min s.price e }

abbrev pub capped_steps : ℤ → List Step → List Step
capped_steps e ss = map (capped_step e) ss

abbrev pub no_step : Step
no_step = record { upper = pos 0; price = pos 0 }

abbrev pub upper_at : List Step → ℕ → ℤ
upper_at ss k = (slice_index_or ss k no_step).upper

abbrev pub price_at : List Step → ℕ → ℤ
price_at ss k = (slice_index_or ss k no_step).price

-- where a step begins: at the upper kW of the one before it, the first at 0
abbrev pub lower_at : List Step → ℕ → ℤ
lower_at ss zero = pos 0
lower_at ss (suc k) = upper_at ss k

-- the price of the step before, for the first the floor
abbrev pub price_before : ℤ → List Step → ℕ → ℤ
price_before floor ss zero = floor
price_before floor ss (suc k) = price_at ss k

-- upper kW rise strictly, the first from at least 1
abbrev pub Rising : List Step → Type 0
Rising ss = (k : ℕ) → k < length ss → lower_at ss k <ℤ upper_at ss k

-- prices never fall, and none is below the floor
abbrev pub Climbing : ℤ → List Step → Type 0
Climbing floor ss = (k : ℕ) → k < length ss → price_before floor ss k ≤ℤ price_at ss k

-- some price is above the ceiling
abbrev pub Above : ℤ → List Step → Type 0
Above e ss = (k : ℕ) × (k < length ss) × (e <ℤ price_at ss k)

-- the tests of these
abbrev pub rises : ℤ → List Step → Bool
rises lower [] = true
rises lower (s ∷ ss) = int_lt lower s.upper && rises s.upper ss

abbrev pub climbs : ℤ → List Step → Bool
climbs low [] = true
climbs low (s ∷ ss) = int_le low s.price && climbs s.price ss

abbrev pub above : ℤ → List Step → Bool
above e ss = list_any (λ s. int_lt e s.price) ss

-- the last upper kW, 0 with no step
abbrev pub last_upper : ℤ → List Step → ℤ
last_upper d [] = d
last_upper d (s ∷ ss) = last_upper s.upper ss
