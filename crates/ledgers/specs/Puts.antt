-- What a write does to a list, and which writes can come next.
use Rattle.std.specs.Prelude.{◌≡◌, ℕ, zero, suc, ◌+◌, ◌<◌, ◌≤◌, cond, List, [], ◌∷◌, length, Some}
use Rattle.std.specs.List.{slice_get}
use Rattle.ledgers.specs.declared.filing.Filing.{Filing}
use Rattle.ledgers.specs.declared.write.Write.{Write}
use Rattle.ledgers.specs.Held.{Held}
use Rattle.ledgers.specs.Verdicts.{waits}
use Rattle.ledgers.specs.Writes.{with_list}

-- the list with x at place p: in place of what is there, or behind the last
abbrev pub put : {X : Type 0} → List X → ℕ → X → List X
put {X} [] p x = x ∷ []
put {X} (y ∷ ys) zero x = x ∷ ys
put {X} (y ∷ ys) (suc p) x = y ∷ put ys p x

module _ {B : Type 0} where
  -- a write changes its unit's list and nothing else
  abbrev pub written : Held B → Write B → Held B
  written h w = with_list h w.unit (put (h.list w.unit) w.place w.filing)

  -- how many writes made the list: one for each filing, and one more for each that waits no longer
  abbrev pub made : List (Filing B) → ℕ
  made [] = 0
  made (f ∷ fs) = cond (waits f.verdict) 1 2 + made fs

  -- the write is one that can come next: at a place of a known unit or behind its last, and it adds a filing or ends the waiting of one, whose submission it keeps
  pub record Fits (h : Held B) (w : Write B) : Type 0 where
    pub known : w.unit < h.units
    pub room : w.place < h.places
    pub within : w.place ≤ length (h.list w.unit)
    pub one : made (put (h.list w.unit) w.place w.filing) ≡ made (h.list w.unit) + 1
    pub same : (f : Filing B) → Some f ≡ slice_get (h.list w.unit) w.place → w.filing.submission ≡ f.submission
