use Rattle.std.proofs.Common.{◌≡◌, ℕ, [], ap, ◌∙◌, w64, SFits}
use Rattle.std.proofs.Math.Path.{fun_ext}
use Rattle.std.proofs.lemmas.Int.{to_z-of_z}
use Rattle.ledgers.specs.Rows.{row}
use Rattle.ledgers.proofs.Rows.{row_empty}
use Rattle.shelves.proofs.shelf.Shelf.new.Goals as goal

pub returns-clause-made : goal.returns-clause-made
returns-clause-made g c =
    let fu : SFits w64 c.args.units = c.ranges.units in
    let fp : SFits w64 c.args.places = c.ranges.places in
    let units = simp to_z-of_z at c.of_new-size.ensures.units in
    let places = simp to_z-of_z at c.of_new-size.ensures.places in
    let slots = c.args.slots.now in
    let k = c.new.result.size.places in
    let n = c.new.result.size.units in
    let size = c.new.ensures.size in
    let list : (u : ℕ) → row slots c.new.result.lens k n u ≡ [] = λ u. ap (λ lens. row slots lens k n u) c.new.ensures.none ∙ row_empty slots 32 k n u in
    λ i. record { units = (ap (λ z. z.units) size ∙ units) i; places = (ap (λ z. z.places) size ∙ places) i; list = fun_ext list i }
