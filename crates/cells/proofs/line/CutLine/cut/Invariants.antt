use Rattle.std.proofs.Common.{◌≡◌, ℕ, ◌+◌, ◌<◌, ◌≤◌, length, get_or, drop, None, MatchOption}
use Rattle.cells.specs.Parts.{cells, start_at}
use Rattle.cells.proofs.line.CutLine.cut.Given as goal

abbrev pub invariant-loop-start : goal.invariant-loop-start
invariant-loop-start g l =
    (length l.start-items ≡ g.row.N)
    × (l.next ≡ start_at l.bytes l.from l.start-index)
    × ((k : ℕ) → k < l.start-index → get_or l.start-items k None ≡ start_at l.bytes l.from k)
    × (l.count ≤ l.start-index)
    × MatchOption l.next (l.count ≡ length (cells (drop l.from l.bytes))) (λ at. l.count + length (cells (drop at l.bytes)) ≡ length (cells (drop l.from l.bytes)))
