-- How steps lie in their places.
use Rattle.std.specs.Prelude.{◌≡◌, ℕ, ◌-◌, ◌≤◌, List, ◌++◌, length, take, replicate}
use Rattle.curves.specs.declared.steps.Step.{Step}
use Rattle.curves.specs.declared.steps.TheConstants.{PLACES}
use Rattle.curves.specs.Curve.{no_step}

-- these steps in their places, and no step in the others
abbrev pub packed : List Step → List Step
packed ss = ss ++ replicate (PLACES - length ss) no_step

-- the first `count` places are used, and the others hold no step
pub record Packed (places : List Step) (count : ℕ) : Type 0 where
  pub few : count ≤ PLACES
  pub counted : length (take count places) ≡ count
  pub rest : packed (take count places) ≡ places
