-- The line that was cut.
use Rattle.std.specs.Prelude.{ℕ, List, drop}
use Rattle.cells.specs.declared.line.CutLine.{CutLine}

-- what stands in the bytes from the line's beginning on
abbrev pub line_in : {n : ℕ} → CutLine n → List ℕ
line_in line = drop line.from line.bytes.now
