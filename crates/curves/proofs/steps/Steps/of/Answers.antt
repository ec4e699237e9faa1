use Rattle.curves.proofs.Packing.{copied_over}
use Rattle.curves.proofs.steps.Steps.of.Goals as goal

pub invariant_of-result : goal.invariant_of-result
invariant_of-result c = record { in_places = copied_over c.args.steps.now _ c.copy_from_slice.ensures.after c.if-steps-gt-PLACES.false }
