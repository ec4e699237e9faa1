use Rattle.std.proofs.Common.{◌≡◌, get_or, Some, None, sym, ◌∙◌, rules}
use Rattle.cells.proofs.Starts.{found_cell}
use Rattle.cells.proofs.line.CutLine.cell.Goals as goal

pub returns : goal.returns
returns g c =
    let line = c.args.self.now in
    let read : get_or line.starts c.args.k None ≡ Some c.in_ok-start.start = search rules in
    let told = sym (line.begin c.args.k (search rules)) ∙ read in
    rw c.part_at.ensures.place (found_cell line.bytes.now line.from c.args.k _ _ told c.part_at.ensures.bytes)
