-- What the tests and the capping of a curve say of each of its steps.
use Rattle.std.specs.Prelude.{◌≡◌, ℕ, ◌-◌, ◌<◌, List, length, ℤ, pos, ◌≤ℤ◌, Decides}
use Rattle.std.specs.Int.{int_min}
use Rattle.curves.specs.declared.steps.Step.{Step}
use Rattle.curves.specs.Curve.{Rising, Climbing, Above, upper_at, price_at, capped_steps, rises, climbs, above, last_upper}

pub record CurveLaws : Type 0 where
  pub rising : (ss : List Step) → Decides (rises (pos 0) ss) (Rising ss)
  pub climbing : (floor : ℤ) (ss : List Step) → Decides (climbs floor ss) (Climbing floor ss)
  -- prices that never fall from the floor on are nowhere below it
  pub floor : (floor : ℤ) (ss : List Step) → Climbing floor ss → (k : ℕ) → k < length ss → floor ≤ℤ price_at ss k
  -- a price equal to the ceiling is not above it
  pub above : (e : ℤ) (ss : List Step) → Decides (above e ss) (Above e ss)
  pub last : (ss : List Step) → 0 < length ss → last_upper (pos 0) ss ≡ upper_at ss (length ss - 1)
  -- each price the lesser of itself and the ceiling, and nothing else moves
  pub capped_count : (e : ℤ) (ss : List Step) → length (capped_steps e ss) ≡ length ss
  pub capped_upper : (e : ℤ) (ss : List Step) (k : ℕ) → k < length ss → upper_at (capped_steps e ss) k ≡ upper_at ss k
  pub capped_price : (e : ℤ) (ss : List Step) (k : ℕ) → k < length ss → price_at (capped_steps e ss) k ≡ int_min (price_at ss k) e
