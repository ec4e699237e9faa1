-- The cost of the steps of a body, for every body and every output.
use Rattle.std.specs.Prelude.{Bool, cond, not, ◌&&◌, List, length, ℤ, pos, neg_ℤ, int_le, nat_le}
use Rattle.curves.specs.declared.steps.Step.{Step}
use Rattle.curves.specs.Curve.{rises, climbs, above, cost_at}

-- steps that some book could admit: they rise, at prices that never fall, within 10,000,000 centavos per MWh either way
abbrev pub priceable : List Step → Bool
priceable ss = nat_le (length ss) 8 && (rises (pos 0) ss && (climbs (neg_ℤ (pos 10000000)) ss && not (above (pos 10000000) ss)))

-- their cost at an output from 0 to 2,000,000 kW, else 0
abbrev pub step_cost : List Step → ℤ → ℤ
step_cost ss q = cond (priceable ss && (int_le (pos 0) q && int_le q (pos 2000000))) (cost_at q ss) (pos 0)
