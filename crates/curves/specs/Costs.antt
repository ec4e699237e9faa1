-- What the cost of an output comes to.
use Rattle.std.specs.Prelude.{◌≡◌, ℕ, ◌<◌, List, length, ℤ, pos, ◌+ℤ◌, ◌-ℤ◌, ◌*ℤ◌, ◌≤ℤ◌, ◌<ℤ◌}
use Rattle.std.specs.Int.{int_min}
use Rattle.curves.specs.declared.steps.Step.{Step}
use Rattle.curves.specs.Curve.{Rising, lower_at, upper_at, price_at, last_upper, cost_at}

pub record CostLaws : Type 0 where
  -- no step has a negative part of an output
  pub parts : (ss : List Step) → Rising ss → (q : ℤ) (k : ℕ) → k < length ss → pos 0 ≤ℤ (int_min q (upper_at ss k) -ℤ int_min q (lower_at ss k))
  -- output 0 costs 0, where no step ends below 0
  pub nothing : (ss : List Step) → ((k : ℕ) → k < length ss → pos 0 ≤ℤ upper_at ss k) → cost_at (pos 0) ss ≡ pos 0
  -- at one price for all steps, the cost is the output times the price
  pub level : (ss : List Step) (p : ℤ) → Rising ss → ((k : ℕ) → k < length ss → price_at ss k ≡ p) → (q : ℤ) → pos 0 ≤ℤ q → q ≤ℤ last_upper (pos 0) ss → cost_at q ss ≡ q *ℤ p
  -- within a step the cost grows by its price
  pub grows : (ss : List Step) → Rising ss → (k : ℕ) → k < length ss → (q : ℤ) → lower_at ss k ≤ℤ q → q <ℤ upper_at ss k → cost_at (q +ℤ pos 1) ss ≡ (cost_at q ss +ℤ price_at ss k)
