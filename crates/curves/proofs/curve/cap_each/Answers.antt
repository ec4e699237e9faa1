use Rattle.std.proofs.Common.{get_or, rules}
use Rattle.std.proofs.lemmas.List.Edits.{map_over_more}
use Rattle.curves.specs.Curve.{no_step, capped_step}
use Rattle.curves.proofs.curve.cap_each.Goals as goal

pub loop-s-preserved : goal.loop-s-preserved
loop-s-preserved c =
    let i = c.loop-s.s-index in
    let more = map_over_more (capped_step c.args.ceiling) c.args.steps.now c.loop-s.steps i (get_or c.loop-s.steps i no_step) c.loop-s-test.true (search rules) (search rules) in
    search rules
