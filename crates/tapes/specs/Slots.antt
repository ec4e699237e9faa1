-- The lists that a sequence of written slots stands for.
use Rattle.std.specs.Prelude.{◌≡◌, ℕ, zero, suc, ◌+◌, ◌<◌, ◌≤◌, cond, List, [], ◌∷◌, length, take, Some, None, Option, ◌==◌, slice_index_or}
use Rattle.ledgers.specs.declared.filing.Filing.{Filing}
use Rattle.ledgers.specs.declared.write.Write.{Write}
use Rattle.ledgers.specs.Puts.{put, made}

-- the sum of the first n
abbrev pub total : (ℕ → ℕ) → ℕ → ℕ
total f zero = 0
total f (suc n) = total f n + f n

module _ {B : Type 0} where
  -- unit u's list after these slots, in their order: each slot of the unit puts something at its place.
  -- What slot n puts is x n; the first of these slots has number n, and `so` is the list before them
  abbrev pub list_by : {X : Type 0} → (ℕ → Write B → X) → ℕ → List X → List (Write B) → ℕ → List X
  list_by {X} x n so [] u = so
  list_by {X} x n so (w ∷ ws) u = list_by x (suc n) (cond (u == w.unit) (put so w.place (x n w)) so) ws u

  -- the filings of unit u: at each place the one in the latest slot that has it
  abbrev pub filings : List (Write B) → ℕ → List (Filing B)
  filings ws u = list_by (λ n w. w.filing) 0 [] ws u

  -- the slots that count for unit u, place by place
  abbrev pub counting : List (Write B) → ℕ → List ℕ
  counting ws u = list_by (λ n w. n) 0 [] ws u

  -- how many writes made the lists of the first n units
  abbrev pub spent_on : List (Write B) → ℕ → ℕ
  spent_on ws n = total (λ u. made (filings ws u)) n

  -- slot j is of unit u and place p
  abbrev pub Has : List (Write B) → ℕ → ℕ → ℕ → Type 0
  Has slots j u p = (d : Write B) → ((slice_index_or slots j d).unit ≡ u) × ((slice_index_or slots j d).place ≡ p)

  -- the latest of the first n slots that is of unit u and place p, or none where none is
  abbrev pub Latest : List (Write B) → ℕ → ℕ → ℕ → Option ℕ → Type 0
  Latest slots n u p None = (j : ℕ) → j < n → Has slots j u p → ⊥
  Latest slots n u p (Some i) = (i < n) × Has slots i u p × ((j : ℕ) → i < j → j < n → Has slots j u p → ⊥)

  -- each of the first n slots is of a place that its unit's list had before, or of the one behind its last
  abbrev pub Orderly : List (Write B) → ℕ → Type 0
  Orderly slots n = (j : ℕ) (d : Write B) → j < n → (slice_index_or slots j d).place ≤ length (counting (take j slots) (slice_index_or slots j d).unit)
