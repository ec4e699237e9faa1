use Rattle.std.proofs.Common.{◌≡◌, length, take}
use Rattle.dayfile.specs.Names.{Begins}
use Rattle.dayfile.proofs.names.OrderTryFromRefSliceU8.try_from.Given as goal

abbrev pub invariant-loop-i : goal.invariant-loop-i
invariant-loop-i l = (length l.columns ≡ 7) × Begins l.line (take l.i l.columns)
