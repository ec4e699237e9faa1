use Rattle.std.proofs.Common.{◌∙◌, sym}
use Rattle.tapes.proofs.Tapes.{list_counted}
use Rattle.tapes.proofs.tape.store.TapeLists.list_length.Goals as goal

pub returns : goal.returns
returns g c = c.of.ensures ∙ sym (list_counted c.args.self.now c.args.u)
