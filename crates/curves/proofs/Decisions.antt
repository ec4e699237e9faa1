-- Tests on signed numbers, and numbers that go to their bits and back.
use Rattle.std.proofs.Common.{◌≡◌, true, false, ℤ, ◌≤ℤ◌, ◌<ℤ◌, arith}
use lib.Signed.{le_z, lt_z}
use Rattle.std.proofs.lemmas.Int.{ints}

pub int_le_from : (a b : ℤ) → a ≤ℤ b → le_z a b ≡ true
int_le_from a b h = grind (arith, ints)

pub int_le_to : (a b : ℤ) → le_z a b ≡ true → a ≤ℤ b
int_le_to a b h = omega (arith, ints)

pub int_lt_from : (a b : ℤ) → a <ℤ b → lt_z a b ≡ true
int_lt_from a b h = grind (arith, ints)

pub int_lt_to : (a b : ℤ) → lt_z a b ≡ true → a <ℤ b
int_lt_to a b h = omega (arith, ints)

pub int_lt_not : (a b : ℤ) → b ≤ℤ a → lt_z a b ≡ false
int_lt_not a b h = grind (arith, ints)

pub int_lt_not_to : (a b : ℤ) → lt_z a b ≡ false → b ≤ℤ a
int_lt_not_to a b h = omega (arith, ints)
