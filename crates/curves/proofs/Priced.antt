-- Steps whose cost is told: they fit 64 bits.
use Rattle.std.proofs.Common.{◌≡◌, ◌≤◌, true, false, not, ◌&&◌, leb, List, length, ℤ, pos, neg_ℤ, ◌≤ℤ◌, le-leb, leb-true, arith}
use Rattle.std.proofs.lemmas.Bool.{and_parts, and_from, cond-true, not-true, not_from_false}
use Rattle.curves.specs.declared.steps.Step.{Step}
use Rattle.curves.specs.Curve.{rises, climbs, above, cost_at}
use Rattle.curves.specs.Fits.{CostFits}
use Rattle.curves.specs.Priced.{priceable, step_cost}
use Rattle.curves.proofs.Decisions.{int_le_from}

pub priceable_fits : (ss : List Step) (q : ℤ) → priceable ss ≡ true → pos 0 ≤ℤ q → q ≤ℤ pos 2000000 → CostFits ss q
priceable_fits ss q h low high =
    let a = and_parts (leb (length ss) 8) (rises (pos 0) ss && (climbs (neg_ℤ (pos 10000000)) ss && not (above (pos 10000000) ss))) h in
    let b = and_parts (rises (pos 0) ss) (climbs (neg_ℤ (pos 10000000)) ss && not (above (pos 10000000) ss)) a.1 in
    let c = and_parts (climbs (neg_ℤ (pos 10000000)) ss) (not (above (pos 10000000) ss)) b.1 in
    let few = leb-true (length ss) 8 a.0 in
    record { from_0 = low; to_most = high; few = omega arith; rising = b.0; climbing = c.0; low = not-true _ c.1 }

-- and then their cost is the sum over the steps
pub cost_told : (ss : List Step) (q : ℤ) → length ss ≤ 8 → rises (pos 0) ss ≡ true → climbs (neg_ℤ (pos 10000000)) ss ≡ true → above (pos 10000000) ss ≡ false → pos 0 ≤ℤ q → q ≤ℤ pos 2000000 → step_cost ss q ≡ cost_at q ss
cost_told ss q few rising climbing low from to =
    cond-true _ _ _ (and_from _ _ (and_from _ _ (le-leb _ _ few) (and_from _ _ rising (and_from _ _ climbing (not_from_false _ low)))) (and_from _ _ (int_le_from _ _ from) (int_le_from _ _ to)))
