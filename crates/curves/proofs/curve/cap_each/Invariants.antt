use Rattle.std.proofs.Common.{◌≡◌, ◌++◌, take, drop}
use Rattle.curves.specs.Curve.{capped_steps}
use Rattle.curves.proofs.curve.cap_each.Given as goal

abbrev pub invariant-loop-s : goal.invariant-loop-s
invariant-loop-s l = l.steps ≡ (capped_steps l.ceiling (take l.s-index l.initial.steps) ++ drop l.s-index l.initial.steps)
