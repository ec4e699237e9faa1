use Rattle.curves.proofs.Curves.{Running}
use Rattle.curves.proofs.curve.cost_at.Given as goal

abbrev pub invariant-loop-s : goal.invariant-loop-s
invariant-loop-s l = Running l.output l.steps l.lower l.sum l.s-index
