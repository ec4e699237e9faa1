-- Rows of equal width in one list.
use Rattle.std.specs.Prelude.{ℕ, ◌*◌, cond, List, [], take, drop, nat_lt, slice_index}

-- row u of a list that is cut into rows of k: as many from its first on as lens says, none from row `rows` on
abbrev pub row : {X : Type 0} → List X → List ℕ → ℕ → ℕ → ℕ → List X
row {X} xs lens k rows u = cond (nat_lt u rows) (take (slice_index lens u) (drop (u * k) xs)) []
