use Rattle.std.proofs.Common.{rules}
use Rattle.curves.specs.Steps.{steps_in}
use Rattle.curves.proofs.Places.{last_is}
use Rattle.curves.proofs.steps.Steps.last_upper.Goals as goal

pub returns : goal.returns
returns c =
    let ss = steps_in c.args.self.now in
    let last = last_is ss in
    search rules
