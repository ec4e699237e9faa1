-- What a list of adds and marks comes to.
use Rattle.std.specs.Prelude.{List, [], ◌∷◌, Ok, Err, Result}
use Rattle.refusals.specs.declared.ledger.LedgerRefusal.{LedgerRefusal}
use Rattle.ledgers.specs.declared.write.Write.{Write}
use Rattle.ledgers.specs.Held.{Held}
use Rattle.ledgers.specs.Writes.{waiting, add_of, mark_of, after_add, after_mark}
use Rattle.entries.specs.declared.entry.Entry.{Entry}
use Rattle.entries.specs.declared.entry.Entry.TheVariants.{Add, Mark}

module _ {B : Type 0} where
  -- the write that it makes, or its refusal
  abbrev pub entered : Held B → Entry B → Result (Write B) LedgerRefusal
  entered h (Add unit submission) = add_of h unit (waiting submission)
  entered h (Mark unit place verdict round) = mark_of h unit place verdict round

  abbrev pub after_entry : Held B → Entry B → Held B
  after_entry h (Add unit submission) = after_add h (add_of h unit (waiting submission))
  after_entry h (Mark unit place verdict round) = after_mark h (mark_of h unit place verdict round)

  -- what a ledger holds after all of them
  abbrev pub held_after : Held B → List (Entry B) → Held B
  held_after h [] = h
  held_after h (e ∷ es) = held_after (after_entry h e) es

  abbrev pub with_write : Result (Write B) LedgerRefusal → List (Write B) → List (Write B)
  with_write (Ok w) ws = w ∷ ws
  with_write (Err e) ws = ws

  -- the writes of those that are accepted, in their order
  abbrev pub writes_of : Held B → List (Entry B) → List (Write B)
  writes_of h [] = []
  writes_of h (e ∷ es) = with_write (entered h e) (writes_of (after_entry h e) es)
