use Rattle.std.proofs.Common.{◌≡◌, ℕ, ◌<◌, true}
use Rattle.cells.specs.Cut.{line_in}
use Rattle.dayfile.specs.Steps.{good_at}
use Rattle.dayfile.proofs.values.Values.check.Given as goal

abbrev pub invariant-loop-place : goal.invariant-loop-place
invariant-loop-place l = (k : ℕ) → k < l.place → good_at l.call l.self.order.columns (line_in l.self.cut) k ≡ true
