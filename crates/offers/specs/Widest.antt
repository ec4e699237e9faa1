-- The widest terms that a book can have.
use Rattle.std.specs.Prelude.{pos, neg_ℤ}
use Rattle.offers.specs.declared.terms.Terms.{Terms}

-- 2,000,000 kW, and from -10,000,000 to 10,000,000 centavos per MWh
abbrev pub widest_terms : Terms
widest_terms = record { maximum = pos 2000000; floor = neg_ℤ (pos 10000000); cap = pos 10000000 }
