-- The laws that every kind of offer shows.
use Rattle.std.specs.Prelude.{◌≡◌, true, false, ◌⊎◌, ℤ, pos, ◌≤ℤ◌, ◌<ℤ◌}
use Rattle.offers.specs.declared.ceilings.Ceilings.{Ceilings}
use Rattle.offers.specs.declared.terms.Terms.{Terms}
use Rattle.offers.specs.Meaning.{Meaning}
use Rattle.offers.specs.Widest.{widest_terms}

-- terms that a book can have: a maximum from 1 kW, and a floor not above the cap, all within the widest
pub record Allowed (t : Terms) : Type 0 where
  pub some : pos 1 ≤ℤ t.maximum
  pub most : t.maximum ≤ℤ widest_terms.maximum
  pub lowest : widest_terms.floor ≤ℤ t.floor
  pub ordered : t.floor ≤ℤ t.cap
  pub highest : t.cap ≤ℤ widest_terms.cap

-- ceilings that a round can bring: prices from floor to cap, and a start price from 0 to 1,000,000,000 centavos
pub record Bring (t : Terms) (c : Ceilings) : Type 0 where
  pub energy_low : t.floor ≤ℤ c.energy
  pub energy_high : c.energy ≤ℤ t.cap
  pub start_low : pos 0 ≤ℤ c.start
  pub start_high : c.start ≤ℤ pos 1000000000

module _ {B : Type 0} (K : Meaning B) where
  -- a body that was admitted to a book, under ceilings of one of its rounds
  pub record Filed (b : B) (t : Terms) (c : Ceilings) : Type 0 where
    pub allowed : Allowed t
    pub bring : Bring t c
    pub admitted : K.admits b t ≡ true

  -- a body that no book admits: nothing comes of it
  pub record Idle (b : B) : Type 0 where
    pub top : K.top b ≡ pos 0
    pub cost : (q : ℤ) → K.cost b q ≡ pos 0
    pub start : K.start b ≡ pos 0
    pub exceeds : (c : Ceilings) → K.exceeds b c ≡ false
    pub capped : (c : Ceilings) → K.capped b c ≡ b

  pub record Lawful : Type 0 where
    -- a capped body may be filed on the same terms, and has the same top
    pub stays_admissible : (b : B) (t : Terms) (c : Ceilings) → Filed b t c → K.admits (K.capped b c) t ≡ true
    pub same_top : (b : B) (t : Terms) (c : Ceilings) → Filed b t c → K.top (K.capped b c) ≡ K.top b
    -- it exceeds neither ceiling
    pub exceeds_none : (b : B) (t : Terms) (c : Ceilings) → Filed b t c → K.exceeds (K.capped b c) c ≡ false
    -- a body that exceeds neither is its own capped body
    pub own : (b : B) (c : Ceilings) → K.exceeds b c ≡ false → K.capped b c ≡ b
    -- capping makes no output dearer, nor a start
    pub no_dearer : (b : B) (t : Terms) (c : Ceilings) → Filed b t c → (q : ℤ) → K.cost (K.capped b c) q ≤ℤ K.cost b q
    pub start_no_dearer : (b : B) (t : Terms) (c : Ceilings) → Filed b t c → K.start (K.capped b c) ≤ℤ K.start b
    -- what no book admits is idle
    pub idle : (b : B) → ((t : Terms) → Allowed t → K.admits b t ≡ false) → Idle b
    -- outside 0 to top the cost is 0
    pub outside : (b : B) (q : ℤ) → (q <ℤ pos 0) ⊎ (K.top b <ℤ q) → K.cost b q ≡ pos 0
