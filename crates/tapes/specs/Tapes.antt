-- What a tape holds, and which slot a write changes.
use Rattle.std.specs.Prelude.{◌≡◌, ℕ, ◌+◌, List, ◌++◌, length, take, drop, slice_set}
use Rattle.ledgers.specs.declared.write.Write.{Write}
use Rattle.ledgers.specs.Held.{Held, Bounded}
use Rattle.ledgers.specs.Sizes.{both_of}
use Rattle.std.proofs.lemmas.List.{nil_from_length}
use Rattle.tapes.specs.declared.tape.Tape.{Tape}
use Rattle.tapes.specs.Slots.{filings}

module _ {B : Type 0} where
  -- the lists that the slots written so far stand for
  abbrev pub taped : Tape B → Held B
  taped s = record { units = s.lengths.size.units; places = s.lengths.size.places; list = filings (take s.used s.slots.now) }

  -- the same slots with the write in the next one
  abbrev pub tape_writes : Tape B → Write B → Tape B → Type 0
  tape_writes s w t =
      (t.slots.ghost_name ≡ s.slots.ghost_name) × (t.used ≡ s.used + 1)
      × (t.slots.now ≡ slice_set s.slots.now s.used w)

  -- the slots after these writes, of which so many were used before
  abbrev pub slots_after : ℕ → List (Write B) → List (Write B) → List (Write B)
  slots_after used slots ws = take used slots ++ ws ++ drop (used + length ws) slots

  pub tape_bounded : (s : Tape B) → Bounded (taped s)
  tape_bounded s = record {
    few = s.lengths.size.few;
    narrow = s.lengths.size.narrow;
    both = both_of s.lengths.size.units s.lengths.size.places s.lengths.size.wide s.lengths.size.some;
    short = s.short;
    none = λ u h. nil_from_length ((taped s).list u) (s.none u h);
  }
