use Rattle.std.proofs.Common.{refl, arith}
use Rattle.ledgers.proofs.Rows.{zeros}
use Rattle.ledgers.proofs.lengths.Lengths.new.Goals as goal

pub invariant_of-result : goal.invariant_of-result
invariant_of-result c = record { counted = refl; filled = λ u. omega (arith, zeros 32 u) }
