-- What a ledger holds, and what its questions answer.
use Rattle.std.specs.Prelude.{◌≡◌, ℕ, ◌≤◌, cond, ◌⊎◌, List, [], length, ℤ, pos, negsuc, Some, None, Option, nat_lt}
use Rattle.std.specs.List.{slice_get}
use Rattle.ledgers.specs.declared.filing.Filing.{Filing}

-- how many units, how many places for each, and the filings of each unit number in their order
pub record Held (B : Type 0) : Type 0 where
  pub units : ℕ
  pub places : ℕ
  pub list : ℕ → List (Filing B)

-- the limits of every ledger: 1 to 32 units and 2 to 64 places for each, or none of either; beyond its units there is no filing
pub record Bounded {B : Type 0} (h : Held B) : Type 0 where
  pub few : h.units ≤ 32
  pub narrow : h.places ≤ 64
  pub both : ((1 ≤ h.units) × (2 ≤ h.places)) ⊎ ((h.units ≡ 0) × (h.places ≡ 0))
  pub short : (u : ℕ) → length (h.list u) ≤ h.places
  pub none : (u : ℕ) → h.units ≤ u → h.list u ≡ []

-- the natural number that x is
abbrev pub natural_of : ℤ → Option ℕ
natural_of (pos n) = Some n
natural_of (negsuc n) = None

-- the same, where it is one below end
abbrev pub number_below : ℤ → ℕ → Option ℕ
number_below (pos n) end = cond (nat_lt n end) (Some n) None
number_below (negsuc n) end = None

module _ {B : Type 0} where
  -- the filings of a unit number, none where it is unknown
  abbrev pub listed : Held B → ℤ → List (Filing B)
  listed h (pos u) = h.list u
  listed h (negsuc u) = []

  -- the filing at a place, counted from 0
  abbrev pub filing_at : List (Filing B) → ℤ → Option (Filing B)
  filing_at fs (pos p) = slice_get fs p
  filing_at fs (negsuc p) = None

  -- all of a filing but its body
  abbrev pub head_of : Filing B → Filing (Unit {0})
  head_of f = record {
    submission = record { minute = f.submission.minute; first = f.submission.first; last = f.submission.last; body = tt };
    verdict = f.verdict;
    round = f.round;
  }

  abbrev pub head_in : Option (Filing B) → Option (Filing (Unit {0}))
  head_in None = None
  head_in (Some f) = Some (head_of f)

  -- the body, or another where there is no filing
  abbrev pub body_in : Option (Filing B) → B → B
  body_in None other = other
  body_in (Some f) other = f.submission.body
