-- What a kind of offer means, for any type B of bodies.
use Rattle.std.specs.Prelude.{Bool, ℤ}
use Rattle.offers.specs.declared.ceilings.Ceilings.{Ceilings}
use Rattle.offers.specs.declared.terms.Terms.{Terms}

pub record Meaning (B : Type 0) : Type 0 where
  -- whether the body may be filed on these terms
  pub admits : B → Terms → Bool
  -- the highest output, in kW
  pub top : B → ℤ
  -- the cost of one hour at an output in kW, in thousandths of a centavo
  pub cost : B → ℤ → ℤ
  -- the price of a start, in centavos
  pub start : B → ℤ
  -- whether some price is above its ceiling
  pub exceeds : B → Ceilings → Bool
  -- the body with each price the lesser of itself and its ceiling
  pub capped : B → Ceilings → B
