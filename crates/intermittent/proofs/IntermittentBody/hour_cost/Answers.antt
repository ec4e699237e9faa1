use Rattle.std.proofs.Common.{◌≡◌, ℤ, pos, negsuc, ◌*ℤ◌, ◌≤ℤ◌, ◌∙◌, ap, arith, w64, SFits, rules}
use Rattle.offers.specs.Widest.{widest_terms}
use Rattle.std.specs.Int.{saturate_signed}
use Rattle.std.proofs.lemmas.Int.{ints, to_z-of_z}
use Rattle.intermittent.specs.IntermittentLaws.{decided, own_cost}
use Rattle.curves.proofs.Products.{times_high, times_low}
use Rattle.intermittent.proofs.IntermittentBody.hour_cost.Goals as goal

-- a number that fits is itself
saturated : (z : ℤ) → SFits w64 z → saturate_signed w64 z ≡ z
saturated (pos n) f = ap pos (omega (arith, ints, f))
saturated (negsuc n) f = ap negsuc (omega (arith, ints, f))

pub returns : goal.returns
returns c = λ can low high.
    let a = (decided c.args.self.now widest_terms).0 can in
    let price = c.args.self.now.price in
    let most : c.args.output ≤ℤ pos 2000000 = omega (arith, ints, a.forecast_high) in
    let up = times_high c.args.output price 2000000 10000000 low most (omega (arith, ints, a.price_high)) in
    let down = times_low c.args.output price 2000000 10000000 low most (omega (arith, ints, a.price_low)) in
    let fits : SFits w64 (c.args.output *ℤ price) = omega (arith, ints, up, down) in
    let f : SFits w64 price = search rules in
    let o = c.ranges.output in
    let r : c.saturating_mul.result ≡ c.args.output *ℤ price = (simp to_z-of_z at c.saturating_mul.ensures) ∙ saturated _ fits in
    let s : SFits w64 c.saturating_mul.result = rw r fits in
    simp to_z-of_z (r ∙ own_cost c.args.self.now c.args.output low high)
