-- What an add and a mark do: they are refused, or they write one filing.
use Rattle.std.specs.Prelude.{◌≡◌, ℕ, Bool, cond, ◌&&◌, List, [], ◌∷◌, ◌++◌, length, ℤ, pos, Some, None, Ok, Err, Option, Result, ◌==◌, int_le, nat_lt, slice_set}
use Rattle.std.specs.List.{slice_get}
use Rattle.refusals.specs.declared.ledger.LedgerRefusal.{LedgerRefusal}
use Rattle.refusals.specs.declared.ledger.LedgerRefusal.TheVariants.{UnknownUnit, ListFull, NotMarkable}
use Rattle.ledgers.specs.declared.filing.Filing.{Filing}
use Rattle.ledgers.specs.declared.filing.Submission.{Submission}
use Rattle.ledgers.specs.declared.verdict.Verdict.{Verdict}
use Rattle.ledgers.specs.declared.verdict.Verdict.TheVariants.{Waiting}
use Rattle.ledgers.specs.declared.write.Write.{Write}
use Rattle.ledgers.specs.Verdicts.{waits, judgement}
use Rattle.ledgers.specs.Held.{Held, number_below, natural_of}

-- a unit has at most six rounds, and the default filing is of round 0
abbrev pub is_round : ℤ → Bool
is_round round = int_le (pos 0) round && int_le round (pos 6)

-- go on with what there is, or refuse
abbrev pub given : {A C : Type 0} → Option A → LedgerRefusal → (A → Result C LedgerRefusal) → Result C LedgerRefusal
given {A} {C} None e next = Err e
given {A} {C} (Some a) e next = next a

module _ {B : Type 0} where
  -- a new filing: waiting, of round 0
  abbrev pub waiting : Submission B → Filing B
  waiting submission = record { submission = submission; verdict = Waiting; round = pos 0 }

  abbrev pub judged_as : Filing B → Option Verdict → ℤ → Option (Filing B)
  judged_as f None round = None
  judged_as f (Some v) round = Some (record { submission = f.submission; verdict = v; round = round })

  -- the filing with a verdict from 1 to 3 and a round from 0 to 6: none for other numbers, or where it does not wait
  abbrev pub judged : Filing B → ℤ → ℤ → Option (Filing B)
  judged f verdict round = cond (waits f.verdict && is_round round) (judged_as f (judgement verdict) round) None

  -- add: 6 where the unit is unknown, 16 where its list is full, else the filing at the end of the list
  abbrev pub add_of : Held B → ℤ → Filing B → Result (Write B) LedgerRefusal
  add_of h unit f =
      given (number_below unit h.units) UnknownUnit (λ u.
      cond (nat_lt (length (h.list u)) h.places) (Ok (record { unit = u; place = length (h.list u); filing = f })) (Err ListFull))

  -- mark: 6 where the unit is unknown, 20 where the place is absent or the filing there cannot be judged so, else the judged filing at its place
  abbrev pub mark_of : Held B → ℤ → ℤ → ℤ → ℤ → Result (Write B) LedgerRefusal
  mark_of h unit place verdict round =
      given (number_below unit h.units) UnknownUnit (λ u.
      given (natural_of place) NotMarkable (λ p.
      given (slice_get (h.list u) p) NotMarkable (λ f.
      given (judged f verdict round) NotMarkable (λ g.
      Ok (record { unit = u; place = p; filing = g })))))

  -- what a caller of add and of mark is told
  abbrev pub place_in : Result (Write B) LedgerRefusal → Result ℤ LedgerRefusal
  place_in (Ok w) = Ok (pos w.place)
  place_in (Err e) = Err e

  abbrev pub told_of : Result (Write B) LedgerRefusal → Result (Unit {0}) LedgerRefusal
  told_of (Ok w) = Ok tt
  told_of (Err e) = Err e

  -- the same ledger with another list for one unit
  abbrev pub with_list : Held B → ℕ → List (Filing B) → Held B
  with_list h u fs = record { units = h.units; places = h.places; list = λ v. cond (v == u) fs (h.list v) }

  -- what the ledger holds after an add: the filing behind the others of its unit
  abbrev pub after_add : Held B → Result (Write B) LedgerRefusal → Held B
  after_add h (Ok w) = with_list h w.unit (h.list w.unit ++ w.filing ∷ [])
  after_add h (Err e) = h

  -- and after a mark: the filing in place of the one that waited
  abbrev pub after_mark : Held B → Result (Write B) LedgerRefusal → Held B
  after_mark h (Ok w) = with_list h w.unit (slice_set (h.list w.unit) w.place w.filing)
  after_mark h (Err e) = h

  -- the one write and nothing else, or nothing
  abbrev pub Wrote : {S : Type 0} → (S → Write B → S → Type 0) → S → Result (Write B) LedgerRefusal → S → Type 0
  Wrote {S} W s (Ok w) t = W s w t
  Wrote {S} W s (Err e) t = t ≡ s

  -- these writes, in this order, and nothing else
  abbrev pub Trace : {S : Type 0} → (S → Write B → S → Type 0) → S → List (Write B) → S → Type 0
  Trace {S} W s [] t = s ≡ t
  Trace {S} W s (w ∷ ws) t = (m : S) × W s w m × Trace W m ws t
