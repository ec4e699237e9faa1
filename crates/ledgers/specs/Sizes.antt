-- Which sizes a ledger can have, and what it holds when it is new.
use Rattle.std.specs.Prelude.{◌≡◌, ℕ, zero, suc, ◌*◌, ◌≤◌, Bool, cond, ◌&&◌, ◌⊎◌, [], ℤ, pos, Ok, Err, Result, int_le, nat_le, unsigned_abs, refl}
use Rattle.std.proofs.Common.{inl, inr, zero-le, suc-le-suc, not-suc-le-zero}
use Rattle.refusals.specs.declared.ledger.LedgerRefusal.{LedgerRefusal}
use Rattle.refusals.specs.declared.ledger.LedgerRefusal.TheVariants.{LedgerSize, TooFewSlots}
use Rattle.ledgers.specs.Held.{Held}

-- 1 to 32 units, and 2 to 64 places for each
abbrev pub is_size : ℤ → ℤ → Bool
is_size units places = (int_le (pos 1) units && int_le units (pos 32)) && (int_le (pos 2) places && int_le places (pos 64))

-- 1 where the size is none, 2 where there are fewer slots than `each` for every place
abbrev pub size_answer : ℤ → ℤ → ℕ → ℕ → Result (Unit {0}) LedgerRefusal
size_answer units places each slots = cond (is_size units places) (cond (nat_le (each * (unsigned_abs units * unsigned_abs places)) slots) (Ok tt) (Err TooFewSlots)) (Err LedgerSize)

-- the size of a new ledger: as asked where the check does not refuse it, else of no units and no places
abbrev pub new_units : ℤ → Result (Unit {0}) LedgerRefusal → ℕ
new_units units (Ok x) = unsigned_abs units
new_units units (Err e) = 0

abbrev pub new_places : ℤ → Result (Unit {0}) LedgerRefusal → ℕ
new_places places (Ok x) = unsigned_abs places
new_places places (Err e) = 0

-- a ledger without filings
abbrev pub empty_of : {B : Type 0} → ℕ → ℕ → Held B
empty_of {B} units places = record { units = units; places = places; list = λ u. [] }

-- a new ledger over so many slots, of which it takes `each` for every place
abbrev pub new_of : {B : Type 0} → ℤ → ℤ → ℕ → ℕ → Held B
new_of {B} units places each slots = empty_of (new_units units (size_answer units places each slots)) (new_places places (size_answer units places each slots))

-- the limits of a size, for the limits that each ledger shows
pub both_of : (u k : ℕ) → (1 ≤ u → 2 ≤ k) → (1 ≤ k → 1 ≤ u) → ((1 ≤ u) × (2 ≤ k)) ⊎ ((u ≡ 0) × (k ≡ 0))
both_of zero zero wide some = inr (refl, refl)
both_of zero (suc k) wide some = absurd (not-suc-le-zero (some (suc-le-suc zero-le)))
both_of (suc u) k wide some = inl (suc-le-suc zero-le, wide (suc-le-suc zero-le))
