-- What keeps a cost within 64 bits: outputs to 2,000,000 kW and prices to 10,000,000 centavos per MWh either way.
use Rattle.std.specs.Prelude.{◌≡◌, ◌≤◌, true, false, List, length, ℤ, pos, neg_ℤ, ◌≤ℤ◌}
use Rattle.curves.specs.declared.steps.Step.{Step}
use Rattle.curves.specs.Curve.{rises, climbs, above}

pub record PartFits (s : Step) (lower q : ℤ) : Type 0 where
  pub from_0 : pos 0 ≤ℤ q
  pub to_most : q ≤ℤ pos 2000000
  pub lower_low : pos 0 ≤ℤ lower
  pub climbs : lower ≤ℤ s.upper
  pub price_low : neg_ℤ (pos 10000000) ≤ℤ s.price
  pub price_high : s.price ≤ℤ pos 10000000

-- 16 steps are more than may be filed; the bound is for the sum
pub record CostFits (ss : List Step) (q : ℤ) : Type 0 where
  pub from_0 : pos 0 ≤ℤ q
  pub to_most : q ≤ℤ pos 2000000
  pub few : length ss ≤ 16
  pub rising : rises (pos 0) ss ≡ true
  pub climbing : climbs (neg_ℤ (pos 10000000)) ss ≡ true
  pub low : above (pos 10000000) ss ≡ false
