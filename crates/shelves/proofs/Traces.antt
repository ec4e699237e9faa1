-- The slots of a shelf after writes one after another.
use Rattle.std.proofs.Common.{◌≡◌, List, [], ◌∷◌, sym, ap, ◌∙◌}
use Rattle.ledgers.specs.declared.write.Write.{Write}
use Rattle.ledgers.specs.Writes.{Trace}
use Rattle.shelves.specs.declared.shelf.Shelf.{Shelf}
use Rattle.shelves.specs.Shelves.{shelf_writes, slots_after}

module _ {B : Type 0} where
  pub trace_name : (s t : Shelf B) (ws : List (Write B)) → Trace shelf_writes s ws t → t.slots.ghost_name ≡ s.slots.ghost_name
  trace_name s t [] e = sym (ap (λ x. x.slots.ghost_name) e)
  trace_name s t (w ∷ ws) p = trace_name p.0 t ws p.2 ∙ p.1.0

  pub trace_slots : (s t : Shelf B) (ws : List (Write B)) → Trace shelf_writes s ws t → t.slots.now ≡ slots_after s.lengths.size.places s.slots.now ws
  trace_slots s t [] e = sym (ap (λ x. x.slots.now) e)
  trace_slots s t (w ∷ ws) p =
      trace_slots p.0 t ws p.2
      ∙ ap (λ k. slots_after k p.0.slots.now ws) p.1.1
      ∙ ap (λ xs. slots_after s.lengths.size.places xs ws) p.1.2
