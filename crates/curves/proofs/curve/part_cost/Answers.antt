use Rattle.std.proofs.Common.{rules}
use Rattle.curves.proofs.Curves.{part_difference, part_product}
use Rattle.curves.proofs.curve.part_cost.Goals as goal

pub overflow_sub-part : goal.overflow_sub-part
overflow_sub-part c = search (rules, part_difference c.args.step.now c.args.lower c.args.output c.requires)

pub overflow_mul-result : goal.overflow_mul-result
overflow_mul-result c = search (rules, part_product c.args.step.now c.args.lower c.args.output c.requires)

pub returns : goal.returns
returns c = search (rules, part_product c.args.step.now c.args.lower c.args.output c.requires)
