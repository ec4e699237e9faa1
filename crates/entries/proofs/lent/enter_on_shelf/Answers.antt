use Rattle.std.proofs.Common.{◌≡◌, length, ap, ◌∙◌, w64, SFits, rules}
use Rattle.std.proofs.lemmas.Int.{to_z-of_z}
use Rattle.ledgers.specs.Sizes.{new_of}
use Rattle.shelves.specs.Shelves.{shelved, slots_after}
use Rattle.shelves.proofs.Traces.{trace_name, trace_slots}
use Rattle.entries.specs.Entries.{writes_of}
use Rattle.entries.proofs.lent.enter_on_shelf.Goals as goal

pub returns : goal.returns
returns g c =
    let fu : SFits w64 c.args.units = c.ranges.units in
    let fp : SFits w64 c.args.places = c.ranges.places in
    let s = c.new-shelf.result in
    let es = c.args.entries.now in
    let slots = c.args.slots.now in
    let made : shelved s ≡ new_of c.args.units c.args.places 1 (length slots) = simp to_z-of_z at c.new-shelf.ensures.made in
    let named : c.enter_all.new.ledger.slots.ghost_name ≡ s.slots.ghost_name = trace_name s c.enter_all.new.ledger (writes_of (shelved s) es) c.enter_all.ensures.wrote in
    let wrote = trace_slots s c.enter_all.new.ledger (writes_of (shelved s) es) c.enter_all.ensures.wrote in
    let back : _ ≡ c.enter_all.new.ledger.slots.now = search rules in
    record {
      answer = c.enter_all.ensures.answer ∙ ap (λ h. length (writes_of h es)) made;
      slots = back ∙ wrote ∙ ap (λ xs. slots_after s.lengths.size.places xs (writes_of (shelved s) es)) c.new-shelf.ensures.same ∙ ap (λ h. slots_after h.places slots (writes_of h es)) made;
    }
