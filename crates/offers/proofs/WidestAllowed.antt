-- The widest terms are terms that a book can have.
use lib.Signed.{le_z_yes}
use Rattle.offers.specs.Laws.{Allowed}
use Rattle.offers.specs.Widest.{widest_terms}

pub widest_allowed : Allowed widest_terms
widest_allowed = record { some = le_z_yes tt; most = le_z_yes tt; lowest = le_z_yes tt; ordered = le_z_yes tt; highest = le_z_yes tt }
