use Rattle.std.proofs.Common.{◌≡◌, ◌+◌, ◌≤◌, length, drop, refl, ap, arith, rules}
use Rattle.cells.specs.Parts.{up_to}
use Rattle.cells.proofs.Cuts.{up_to_le}
use Rattle.std.proofs.lemmas.List.{length-drop}
use Rattle.dayfile.proofs.Openings.{one_left, row_left}
use Rattle.dayfile.proofs.reader.RowReaderIterator.next.Goals as goal

pub slice_bounds-read-end : goal.slice_bounds-read-end
slice_bounds-read-end c =
    let bs = c.args.self.now.bytes.now in
    let at = c.args.self.now.at in
    let long : length c.part_at.result.bytes.now ≡ length (up_to 10 (drop at bs)) = ap length c.part_at.ensures.bytes in
    let within : at + length c.part_at.result.bytes.now ≤ length bs = omega (arith, up_to_le 10 (drop at bs), length-drop at bs) in
    search rules

pub returns : goal.returns
returns c =
    let self = c.args.self.now in
    let bs = self.bytes.now in
    let ends = ap (λ l. self.at + length l) c.part_at.ensures.bytes in
    let one = one_left bs self.at _ c.past-self.result (omega arith) ends c.past-self.ensures.rest in
    let fewer = ap length one in
    record {
      steps = (
        up_to 10 (drop self.at bs),
        one,
        refl,
        row_left bs self.at _ c.past-self.result (omega arith) ends c.past-self.ensures.rest _ _ _ c.read-row.ensures,
        refl,
        refl,
      );
      goes = record { on = λ _. (tt, tt, omega arith); keeps = tt; rests = λ _. tt };
    }
