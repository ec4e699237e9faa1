use Rattle.std.proofs.Common.{rules}
use Rattle.curves.proofs.Curves.{running_fits, running_sum, running_more, running_all}
use Rattle.curves.proofs.curve.cost_at.Goals as goal

pub part_cost-sum-requires : goal.part_cost-sum-requires
part_cost-sum-requires c = running_fits _ _ _ _ _ c.loop-s.invariant c.loop-s-test.true

pub overflow_add-sum : goal.overflow_add-sum
overflow_add-sum c = search (rules, running_sum _ _ _ _ _ c.loop-s.invariant c.loop-s-test.true c.requires.few)

pub loop-s-preserved : goal.loop-s-preserved
loop-s-preserved c =
    let s = running_sum _ _ _ _ _ c.loop-s.invariant c.loop-s-test.true c.requires.few in
    let more = running_more _ _ _ _ _ c.loop-s.invariant c.loop-s-test.true in
    search rules

pub returns : goal.returns
returns c = let all = running_all _ _ _ _ _ c.loop-s.invariant c.loop-s-test.false in search rules
