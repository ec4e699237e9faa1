-- Kinds whose bodies count only where some book admits them.
use Rattle.std.specs.Prelude.{◌≡◌, Bool, true, false, cond, ◌&&◌, ℤ, pos, ◌≤ℤ◌, Decides, int_le}
use Rattle.offers.specs.declared.ceilings.Ceilings.{Ceilings}
use Rattle.offers.specs.declared.terms.Terms.{Terms}
use Rattle.offers.specs.Laws.{Allowed, Filed}
use Rattle.offers.specs.Meaning.{Meaning}
use Rattle.offers.specs.Widest.{widest_terms}

-- F is what a body says by itself
module _ {B : Type 0} (F : Meaning B) where
  -- some book admits the body
  abbrev pub possible : B → Bool
  possible b = F.admits b widest_terms

  -- what it means: what no book admits is idle
  abbrev pub priced : Meaning B
  priced = record {
    admits = F.admits;
    top = λ b. cond (possible b) (F.top b) (pos 0);
    cost = λ b q. cond (possible b && (int_le (pos 0) q && int_le q (F.top b))) (F.cost b q) (pos 0);
    start = λ b. cond (possible b) (F.start b) (pos 0);
    exceeds = λ b c. possible b && F.exceeds b c;
    capped = λ b c. cond (possible b) (F.capped b c) b;
  }

  -- what such a kind shows of its rules of admission, Keeps
  pub record Rules (Keeps : B → Terms → Type 0) : Type 0 where
    -- the test of admission says whether the rules are kept
    pub decides : (b : B) (t : Terms) → Decides (F.admits b t) (Keeps b t)
    -- a body that some book admits is admitted on the widest terms, and these are a book's
    pub widest : (b : B) (t : Terms) → Allowed t → F.admits b t ≡ true → F.admits b widest_terms ≡ true
    pub allowed : Allowed widest_terms

  -- what it shows of capped bodies
  pub record Capping : Type 0 where
    pub stays_admissible : (b : B) (t : Terms) (c : Ceilings) → Filed F b t c → F.admits (F.capped b c) t ≡ true
    pub same_top : (b : B) (t : Terms) (c : Ceilings) → Filed F b t c → F.top (F.capped b c) ≡ F.top b
    pub exceeds_none : (b : B) (t : Terms) (c : Ceilings) → Filed F b t c → F.exceeds (F.capped b c) c ≡ false
    pub own : (b : B) (c : Ceilings) → F.exceeds b c ≡ false → F.capped b c ≡ b
    pub no_dearer : (b : B) (t : Terms) (c : Ceilings) → Filed F b t c → (q : ℤ) → pos 0 ≤ℤ q → q ≤ℤ F.top b → F.cost (F.capped b c) q ≤ℤ F.cost b q
    pub start_no_dearer : (b : B) (t : Terms) (c : Ceilings) → Filed F b t c → F.start (F.capped b c) ≤ℤ F.start b
