-- The number of each refusal of a ledger.
use Rattle.std.specs.Prelude.{ℕ}
use Rattle.refusals.specs.declared.ledger.LedgerRefusal.{LedgerRefusal}
use Rattle.refusals.specs.declared.ledger.LedgerRefusal.TheVariants.{LedgerSize, TooFewSlots, UnknownUnit, ListFull, NotMarkable}

abbrev pub ledger_number_of : LedgerRefusal → ℕ
ledger_number_of LedgerSize = 1
ledger_number_of TooFewSlots = 2
ledger_number_of UnknownUnit = 6
ledger_number_of ListFull = 16
ledger_number_of NotMarkable = 20
