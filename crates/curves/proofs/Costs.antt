-- The cost of an output, in the words of the subject.
use Rattle.std.proofs.Common.{◌≡◌, ℕ, zero, suc, ◌<◌, true, List, [], ◌∷◌, length, ℤ, pos, ◌+ℤ◌, ◌-ℤ◌, ◌*ℤ◌, ◌≤ℤ◌, ◌<ℤ◌, sym, refl, ap, ◌∙◌, arith}
use lib.IntN.{zero-*ℤ, suc_ℤ-*ℤ, +ℤ_assoc, +ℤ_idl, +ℤ_idr}
use lib.Signed.{lt_z, ≤ℤ_refl}
use Rattle.std.specs.Int.{int_min}
use Rattle.std.proofs.lemmas.Int.{ints, clamps}
use Rattle.std.proofs.lemmas.Bool.{and_parts}
use Rattle.curves.specs.declared.steps.Step.{Step}
use Rattle.curves.specs.Costs.{CostLaws}
use Rattle.curves.specs.Curve.{lower_at, upper_at, price_at, rises, last_upper, part_cost, cost_above}
use Rattle.curves.proofs.Curves.{part_grows}
use Rattle.curves.proofs.Decisions.{int_lt_to}
use Rattle.curves.proofs.Places.{rising_decided}
use Rattle.curves.proofs.Products.{times_plus}

-- at output 0 no step has a part
none_at_0 : (lower : ℤ) (ss : List Step) → pos 0 ≤ℤ lower → ((k : ℕ) → k < length ss → pos 0 ≤ℤ upper_at ss k) → cost_above (pos 0) lower ss ≡ pos 0
none_at_0 lower [] l h = refl
none_at_0 lower (s ∷ ss) l h =
    let u = h zero (omega arith) in
    let w : int_min (pos 0) s.upper -ℤ int_min (pos 0) lower ≡ pos 0 = omega (arith, ints, clamps) in
    let rest = none_at_0 s.upper ss u (λ k i. h (suc k) (omega arith)) in
    rw (w, rest) (ap (λ z. z +ℤ pos 0) (zero-*ℤ s.price))

-- steps above an output add nothing
none_above : (q lower : ℤ) (ss : List Step) → rises lower ss ≡ true → q ≤ℤ lower → cost_above q lower ss ≡ pos 0
none_above q lower [] h l = refl
none_above q lower (s ∷ ss) h l =
    let p = and_parts (lt_z lower s.upper) (rises s.upper ss) h in
    let x = int_lt_to lower s.upper p.0 in
    let w : int_min q s.upper -ℤ int_min q lower ≡ pos 0 = omega (arith, ints, clamps) in
    let rest = none_above q s.upper ss p.1 (omega (arith, ints)) in
    rw (w, rest) (ap (λ z. z +ℤ pos 0) (zero-*ℤ s.price))

-- at one price the parts add up to the output above `lower`
level_above : (q lower p : ℤ) (ss : List Step) → rises lower ss ≡ true → ((k : ℕ) → k < length ss → price_at ss k ≡ p) → cost_above q lower ss ≡ (int_min q (last_upper lower ss) -ℤ int_min q lower) *ℤ p
level_above q lower p [] h same = let w : int_min q lower -ℤ int_min q lower ≡ pos 0 = omega (arith, ints, clamps) in rw w (sym (zero-*ℤ p))
level_above q lower p (s ∷ ss) h same =
    let r = and_parts (lt_z lower s.upper) (rises s.upper ss) h in
    let here : s.price ≡ p = same 0 (omega arith) in
    let rest = level_above q s.upper p ss r.1 (λ k l. same (suc k) (omega arith)) in
    let a = int_min q s.upper -ℤ int_min q lower in
    let b = int_min q (last_upper s.upper ss) -ℤ int_min q s.upper in
    let sum : a +ℤ b ≡ int_min q (last_upper s.upper ss) -ℤ int_min q lower = omega (arith, ints) in
    ap (λ z. part_cost q lower s +ℤ z) rest ∙ ap (λ z. (a *ℤ z) +ℤ (b *ℤ p)) here ∙ sym (times_plus a b p) ∙ ap (λ z. z *ℤ p) sum

once : (p : ℤ) → pos 1 *ℤ p ≡ p
once p = suc_ℤ-*ℤ (pos 0) p ∙ ap (λ z. z +ℤ p) (zero-*ℤ p) ∙ +ℤ_idl p

-- where the step at k begins, the first at `lower`
abbrev begin : ℤ → List Step → ℕ → ℤ
begin lower ss zero = lower
begin lower ss (suc k) = upper_at ss k

-- a step that ends below the output has the same part of one kW more
same_part : (q lower : ℤ) (s : Step) → lower ≤ℤ s.upper → s.upper ≤ℤ q → part_cost (q +ℤ pos 1) lower s ≡ part_cost q lower s
same_part q lower s g h = let w : int_min (q +ℤ pos 1) s.upper -ℤ int_min (q +ℤ pos 1) lower ≡ int_min q s.upper -ℤ int_min q lower = omega (arith, ints, clamps) in ap (λ z. z *ℤ s.price) w

-- the step that the kW falls into has one kW more
one_more : (q lower : ℤ) (s : Step) → lower ≤ℤ q → q <ℤ s.upper → part_cost (q +ℤ pos 1) lower s ≡ (part_cost q lower s +ℤ s.price)
one_more q lower s g h =
    let a = int_min q s.upper -ℤ int_min q lower in
    let w : int_min (q +ℤ pos 1) s.upper -ℤ int_min (q +ℤ pos 1) lower ≡ a +ℤ pos 1 = omega (arith, ints, clamps) in
    ap (λ z. z *ℤ s.price) w ∙ times_plus a (pos 1) s.price ∙ ap (λ z. (a *ℤ s.price) +ℤ z) (once s.price)

-- no step begins below the first
begin_low : (lower : ℤ) (ss : List Step) → rises lower ss ≡ true → (k : ℕ) → k < length ss → lower ≤ℤ begin lower ss k
begin_low lower ss h zero l = ≤ℤ_refl lower
begin_low lower [] h (suc k) l = absurd (omega arith)
begin_low lower (s ∷ ss) h (suc zero) l = let x = int_lt_to lower s.upper (and_parts (lt_z lower s.upper) (rises s.upper ss) h).0 in omega (arith, ints)
begin_low lower (s ∷ ss) h (suc (suc k)) l =
    let r = and_parts (lt_z lower s.upper) (rises s.upper ss) h in
    let x = int_lt_to lower s.upper r.0 in
    let y = begin_low s.upper ss r.1 (suc k) (omega arith) in
    omega (arith, ints)

-- the steps before it keep their parts
further : (q lower : ℤ) (s : Step) (ss : List Step) → rises lower (s ∷ ss) ≡ true → (k : ℕ) → begin s.upper ss k ≤ℤ q → cost_above (q +ℤ pos 1) s.upper ss ≡ (cost_above q s.upper ss +ℤ price_at ss k) → k < length ss → cost_above (q +ℤ pos 1) lower (s ∷ ss) ≡ (cost_above q lower (s ∷ ss) +ℤ price_at ss k)
further q lower s ss h k a rest l =
    let r = and_parts (lt_z lower s.upper) (rises s.upper ss) h in
    let x = int_lt_to lower s.upper r.0 in
    let y = begin_low s.upper ss r.1 k l in
    let same = same_part q lower s (omega (arith, ints)) (omega (arith, ints)) in
    ap (λ z. z +ℤ cost_above (q +ℤ pos 1) s.upper ss) same ∙ ap (λ z. part_cost q lower s +ℤ z) rest ∙ sym (+ℤ_assoc (part_cost q lower s) (cost_above q s.upper ss) (price_at ss k))

-- one kW more within the step at k adds that step's price
grows_above : (q lower : ℤ) (ss : List Step) → rises lower ss ≡ true → (k : ℕ) → k < length ss → begin lower ss k ≤ℤ q → q <ℤ upper_at ss k → cost_above (q +ℤ pos 1) lower ss ≡ (cost_above q lower ss +ℤ price_at ss k)
grows_above q lower [] h k l a b = absurd (omega arith)
grows_above q lower (s ∷ ss) h zero l a b =
    let r = and_parts (lt_z lower s.upper) (rises s.upper ss) h in
    let now-none = none_above q s.upper ss r.1 (omega (arith, ints)) in
    let then-none = none_above (q +ℤ pos 1) s.upper ss r.1 (omega (arith, ints)) in
    rw (now-none, then-none) (+ℤ_idr _ ∙ one_more q lower s a b ∙ ap (λ z. z +ℤ s.price) (sym (+ℤ_idr _)))
grows_above q lower (s ∷ ss) h (suc zero) l a b = further q lower s ss h zero a (grows_above q s.upper ss (and_parts _ _ h).1 zero (omega arith) a b) (omega arith)
grows_above q lower (s ∷ ss) h (suc (suc k)) l a b = further q lower s ss h (suc k) a (grows_above q s.upper ss (and_parts _ _ h).1 (suc k) (omega arith) a b) (omega arith)

begin_is : (ss : List Step) (k : ℕ) → begin (pos 0) ss k ≡ lower_at ss k
begin_is ss zero = refl
begin_is ss (suc k) = refl

pub cost_laws : CostLaws
cost_laws = record {
  parts = λ ss h q k l. (let r = h k l in part_grows q (lower_at ss k) (upper_at ss k) (omega (arith, ints)));
  nothing = λ ss h. none_at_0 (pos 0) ss (omega (arith, ints)) h;
  level = λ ss p h same q low high. (
      let e : int_min q (last_upper (pos 0) ss) -ℤ int_min q (pos 0) ≡ q = omega (arith, ints, clamps) in
      level_above q (pos 0) p ss ((rising_decided ss).1 h) same ∙ ap (λ z. z *ℤ p) e);
  grows = λ ss h k l q a b. grows_above q (pos 0) ss ((rising_decided ss).1 h) k l (rw (begin_is ss k) a) b;
}
