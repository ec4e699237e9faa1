-- The steps of a body, and the body with lower prices.
use Rattle.std.specs.Prelude.{List, ◌++◌, take, drop, ℤ}
use Rattle.curves.specs.declared.steps.Step.{Step}
use Rattle.curves.specs.declared.steps.Steps.{Steps}
use Rattle.curves.specs.Curve.{capped_steps}
use Rattle.curves.specs.PlaceLaws.{packed_capped}

-- the steps of a body
abbrev pub steps_in : Steps → List Step
steps_in s = take s.count s.places

-- places that hold no step stay as they are
abbrev pub lowered : Steps → ℤ → Steps
lowered s e = record { places = capped_steps e (steps_in s) ++ drop s.count s.places; count = s.count; in_places = packed_capped s.places s.count e s.in_places }
