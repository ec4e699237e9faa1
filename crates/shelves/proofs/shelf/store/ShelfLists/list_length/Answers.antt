use Rattle.std.proofs.Common.{◌∙◌, sym}
use Rattle.ledgers.proofs.Rows.{row_count}
use Rattle.shelves.proofs.shelf.store.ShelfLists.list_length.Goals as goal

pub returns : goal.returns
returns g c =
    let s = c.args.self.now in
    c.of.ensures ∙ sym (row_count s.slots.now s.lengths.lens s.lengths.size.places s.lengths.size.units c.args.u (s.lengths.filled c.args.u) s.fits)
