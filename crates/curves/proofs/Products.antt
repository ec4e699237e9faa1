-- Products of integers: one factor is not negative.
use Rattle.std.proofs.Common.{◌≡◌, ℕ, suc, ◌*◌, ℤ, pos, negsuc, ◌+ℤ◌, ◌*ℤ◌, neg_ℤ, ◌≤ℤ◌, ap, add-mul, mul-le-mul_left, mul-add, arith}
use borrow.Author.Differences.{up, down, le_out, product_is, sum_is_lem, same_in}
use Rattle.std.proofs.lemmas.Int.{ints}
use Rattle.std.proofs.lemmas.Nat.{mul-le}

pub times_mono : (w p r : ℤ) → pos 0 ≤ℤ w → p ≤ℤ r → (w *ℤ p) ≤ℤ (w *ℤ r)
times_mono (pos n) p r h k =
    let m = mul-le-mul_left n (le_out p r k) in
    omega (arith, ints, product_is (pos n) p, product_is (pos n) r, m, mul-add n (up p) (down r), mul-add n (up r) (down p))
times_mono (negsuc n) p r h k = omega (arith, ints)

pub times_high : (w p : ℤ) (a b : ℕ) → pos 0 ≤ℤ w → w ≤ℤ pos a → p ≤ℤ pos b → (w *ℤ p) ≤ℤ pos (a * b)
times_high (pos n) (pos m) a b h u k = omega (arith, ints, mul-le n m a b (omega (arith, ints)) (omega (arith, ints)))
times_high (pos n) (negsuc m) a b h u k = omega (arith, ints, product_is (pos n) (negsuc m))
times_high (negsuc n) p a b h u k = omega (arith, ints)

pub times_low : (w p : ℤ) (a b : ℕ) → pos 0 ≤ℤ w → w ≤ℤ pos a → neg_ℤ (pos b) ≤ℤ p → neg_ℤ (pos (a * b)) ≤ℤ (w *ℤ p)
times_low (pos n) (pos m) a b h u k = omega (arith, ints)
times_low (pos n) (negsuc m) a b h u k = omega (arith, ints, product_is (pos n) (negsuc m), mul-le n (suc m) a b (omega (arith, ints)) (omega (arith, ints)))
times_low (negsuc n) p a b h u k = omega (arith, ints)

-- a product with a sum
pub times_plus : (a b p : ℤ) → ((a +ℤ b) *ℤ p) ≡ ((a *ℤ p) +ℤ (b *ℤ p))
times_plus a b p =
    let s = sum_is_lem a b in
    let u = simp add-mul at (ap (λ x. x * up p) s) in
    let d = simp add-mul at (ap (λ x. x * down p) s) in
    same_in _ _ (omega (arith, u, d, product_is (a +ℤ b) p, product_is a p, product_is b p, sum_is_lem (a *ℤ p) (b *ℤ p)))
