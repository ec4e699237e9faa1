use Rattle.std.proofs.Common.{◌≤◌, take}
use Rattle.entries.proofs.Entries.{Entered}
use Rattle.entries.proofs.enter.enter_all.Given as goal

abbrev pub invariant-loop-e : goal.invariant-loop-e
invariant-loop-e g l = (l.accepted ≤ l.e-index) × Entered g.L.Ledger.writes g.L.Ledger.held l.initial.ledger l.ledger (take l.e-index l.entries) l.accepted
