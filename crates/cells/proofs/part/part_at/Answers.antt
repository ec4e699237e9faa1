use Rattle.std.proofs.Common.{take, ap, ◌∙◌}
use Rattle.cells.specs.Parts.{up_to}
use Rattle.cells.proofs.Cuts.{take_found}
use Rattle.cells.proofs.part.part_at.Goals as goal

pub returns-clause-bytes : goal.returns-clause-bytes
returns-clause-bytes c =
    let rest = c.rest_from-rest.result.now in
    ap (λ n. take n rest) c.unwrap_or-end.ensures ∙ take_found c.args.mark rest _ c.find.ensures ∙ ap (up_to c.args.mark) c.rest_from-rest.ensures
