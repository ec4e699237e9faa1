-- What a shelf holds, and which slot a write changes.
use Rattle.std.specs.Prelude.{◌≡◌, ℕ, ◌+◌, ◌*◌, List, [], ◌∷◌, slice_set}
use Rattle.ledgers.specs.declared.filing.Filing.{Filing}
use Rattle.ledgers.specs.declared.write.Write.{Write}
use Rattle.ledgers.specs.Held.{Held, Bounded}
use Rattle.ledgers.specs.Rows.{row}
use Rattle.ledgers.specs.Sizes.{both_of}
use Rattle.ledgers.proofs.Rows.{row_short, row_unknown}
use Rattle.shelves.specs.declared.shelf.Shelf.{Shelf}

module _ {B : Type 0} where
  -- the slots are cut into a row of places for each unit
  abbrev pub shelved : Shelf B → Held B
  shelved s = record { units = s.lengths.size.units; places = s.lengths.size.places; list = row s.slots.now s.lengths.lens s.lengths.size.places s.lengths.size.units }

  -- the same slots, of the same size, with the filing at place p of unit u in slot u * places + p
  abbrev pub shelf_writes : Shelf B → Write B → Shelf B → Type 0
  shelf_writes s w t =
      (t.slots.ghost_name ≡ s.slots.ghost_name) × (t.lengths.size.places ≡ s.lengths.size.places)
      × (t.slots.now ≡ slice_set s.slots.now (w.unit * s.lengths.size.places + w.place) w.filing)

  -- the slots after these writes, with this many places to a unit
  abbrev pub slots_after : ℕ → List (Filing B) → List (Write B) → List (Filing B)
  slots_after places slots [] = slots
  slots_after places slots (w ∷ ws) = slots_after places (slice_set slots (w.unit * places + w.place) w.filing) ws

  pub shelf_bounded : (s : Shelf B) → Bounded (shelved s)
  shelf_bounded s = record {
    few = s.lengths.size.few;
    narrow = s.lengths.size.narrow;
    both = both_of s.lengths.size.units s.lengths.size.places s.lengths.size.wide s.lengths.size.some;
    short = λ u. row_short s.slots.now s.lengths.lens s.lengths.size.places s.lengths.size.units u (s.lengths.filled u);
    none = row_unknown s.slots.now s.lengths.lens s.lengths.size.places s.lengths.size.units;
  }
