-- What the tests of a curve say of each of its steps.
use Rattle.std.proofs.Common.{◌≡◌, ℕ, zero, suc, ◌-◌, ◌<◌, Bool, true, false, ◌&&◌, List, [], ◌∷◌, length, get_or, ℤ, pos, ◌≤ℤ◌, ◌<ℤ◌, Decides, sym, refl, ap, add-one, ◌∙◌, inl, inr, arith}
use lib.Signed.{le_z, lt_z}
use Rattle.std.proofs.lemmas.Bool.{and_parts, and_from, cases_Bool, false≢true}
use Rattle.std.proofs.lemmas.Bool.Decides.{Decides-by_or}
use Rattle.std.specs.List.{IsAllAdjacentAnswer}
use Rattle.curves.specs.declared.steps.Step.{Step}
use Rattle.curves.specs.CurveLaws.{CurveLaws}
use Rattle.std.proofs.lemmas.List.{length-map, get_or-map, get_or_default}
use Rattle.std.proofs.lemmas.Int.{ints}
use Rattle.curves.specs.Curve.{no_step, capped_step, upper_at, price_at, lower_at, price_before, Rising, Climbing, Above, rises, climbs, above, last_upper}
use Rattle.curves.proofs.Decisions.{int_le_from, int_le_to, int_lt_from, int_lt_to}

-- a test that goes from step to step, by what it asks of a step and of the one before it
module _ (get : Step → ℤ) (test : ℤ → ℤ → Bool) where
  abbrev goes : ℤ → List Step → Bool
  goes low [] = true
  goes low (s ∷ ss) = test low (get s) && goes (get s) ss

  -- what stands before a step, for the first `low`
  abbrev before : ℤ → List Step → ℕ → ℤ
  before low ss zero = low
  before low ss (suc k) = get (get_or ss k no_step)

  goes_at : (low : ℤ) (ss : List Step) → goes low ss ≡ true → (k : ℕ) → k < length ss → test (before low ss k) (get (get_or ss k no_step)) ≡ true
  goes_at low [] h k l = absurd (omega arith)
  goes_at low (s ∷ ss) h zero l = (and_parts _ _ h).0
  goes_at low (s ∷ ss) h (suc zero) l = goes_at (get s) ss (and_parts _ _ h).1 zero (omega arith)
  goes_at low (s ∷ ss) h (suc (suc k)) l = goes_at (get s) ss (and_parts _ _ h).1 (suc k) (omega arith)

  goes_from : (low : ℤ) (ss : List Step) → ((k : ℕ) → k < length ss → test (before low ss k) (get (get_or ss k no_step)) ≡ true) → goes low ss ≡ true
  goes_from low [] h = refl
  goes_from low (s ∷ ss) h = and_from _ _ (h zero (omega arith)) (goes_from (get s) ss (λ k l. shift k l))
    where
      shift : (k : ℕ) → k < length ss → test (before (get s) ss k) (get (get_or ss k no_step)) ≡ true
      shift zero l = h (suc zero) (omega arith)
      shift (suc k) l = h (suc (suc k)) (omega arith)

  -- the test is made of the first step, and of each step and the next
  pub goes_answered : (low : ℤ) (ss : List Step) (r : Bool) → (0 < length ss → test low (get (get_or ss 0 no_step)) ≡ true) → IsAllAdjacentAnswer (λ a b t. t ≡ test (get a) (get b)) ss r → r ≡ goes low ss
  goes_answered low ss true first rest = sym (goes_from low ss (λ k l. each k l))
    where
      each : (k : ℕ) → k < length ss → test (before low ss k) (get (get_or ss k no_step)) ≡ true
      each zero l = first l
      each (suc k) l = sym (rw add-one at (rest k no_step (omega arith)))
  goes_answered low ss false first rest = elim (cases_Bool (goes low ss)) [
    | inl h ↦ absurd (false≢true (rest.2 no_step ∙ rw add-one (goes_at low ss h (suc rest.0) (omega (arith, rest.1)))))
    | inr h ↦ sym h
  ]

-- rising and climbing go from step to step
pub rises_goes : (low : ℤ) (ss : List Step) → rises low ss ≡ goes (λ s. s.upper) lt_z low ss
rises_goes low [] = refl
rises_goes low (s ∷ ss) = ap (λ t. lt_z low s.upper && t) (rises_goes s.upper ss)

pub climbs_goes : (low : ℤ) (ss : List Step) → climbs low ss ≡ goes (λ s. s.price) le_z low ss
climbs_goes low [] = refl
climbs_goes low (s ∷ ss) = ap (λ t. le_z low s.price && t) (climbs_goes s.price ss)

lower_is : (ss : List Step) (k : ℕ) → before (λ s. s.upper) lt_z (pos 0) ss k ≡ lower_at ss k
lower_is ss zero = refl
lower_is ss (suc k) = refl

price_is : (floor : ℤ) (ss : List Step) (k : ℕ) → before (λ s. s.price) le_z floor ss k ≡ price_before floor ss k
price_is floor ss zero = refl
price_is floor ss (suc k) = refl

pub rising_decided : (ss : List Step) → Decides (rises (pos 0) ss) (Rising ss)
rising_decided ss = (
  (λ h k l. rw (sym (lower_is ss k)) (int_lt_to _ _ (goes_at (λ s. s.upper) lt_z (pos 0) ss (sym (rises_goes (pos 0) ss) ∙ h) k l))),
  (λ h. rises_goes (pos 0) ss ∙ goes_from (λ s. s.upper) lt_z (pos 0) ss (λ k l. rw (lower_is ss k) (int_lt_from _ _ (h k l)))),
)

pub climbing_decided : (floor : ℤ) (ss : List Step) → Decides (climbs floor ss) (Climbing floor ss)
climbing_decided floor ss = (
  (λ h k l. rw (sym (price_is floor ss k)) (int_le_to _ _ (goes_at (λ s. s.price) le_z floor ss (sym (climbs_goes floor ss) ∙ h) k l))),
  (λ h. climbs_goes floor ss ∙ goes_from (λ s. s.price) le_z floor ss (λ k l. rw (price_is floor ss k) (int_le_from _ _ (h k l)))),
)

none_below : (floor : ℤ) (ss : List Step) → Climbing floor ss → (k : ℕ) → k < length ss → floor ≤ℤ price_at ss k
none_below floor ss h zero l = h zero l
none_below floor ss h (suc k) l =
    let a = none_below floor ss h k (omega arith) in
    let b = h (suc k) l in
    omega (arith, ints)

pub above_decided : (e : ℤ) (ss : List Step) → Decides (above e ss) (Above e ss)
above_decided e ss =
    let d = Decides-by_or (λ s. lt_z e s.price) (λ s. e <ℤ s.price) (above e) (λ s. (int_lt_to e s.price, int_lt_from e s.price)) refl (λ _ _. refl) ss in
    (λ h. (let a = d.0 h in (a.0, a.1, a.2 no_step)), λ a. d.1 (a.0, a.1, λ x. rw (get_or_default ss a.0 x no_step a.1) a.2))

-- the last step is at the last place
pub last_at : (d : ℤ) (ss : List Step) → 0 < length ss → last_upper d ss ≡ upper_at ss (length ss - 1)
last_at d [] h = absurd (omega arith)
last_at d (s ∷ []) h = refl
last_at d (s ∷ (t ∷ ss)) h =
    let e : suc (length (t ∷ ss) - 1) ≡ length (s ∷ (t ∷ ss)) - 1 = omega arith in
    last_at s.upper (t ∷ ss) (omega arith) ∙ ap (λ n. upper_at (s ∷ (t ∷ ss)) n) e

-- with no step the one read there is no step
pub last_is : (ss : List Step) → last_upper (pos 0) ss ≡ upper_at ss (length ss - 1)
last_is [] = refl
last_is (s ∷ ss) = last_at (pos 0) (s ∷ ss) (omega arith)

pub curve_laws : CurveLaws
curve_laws = record {
  rising = rising_decided;
  climbing = climbing_decided;
  floor = none_below;
  above = above_decided;
  last = last_at (pos 0);
  capped_count = λ e ss. length-map ss (capped_step e);
  capped_upper = λ e ss k l. ap (λ s. s.upper) (get_or-map (capped_step e) ss k no_step no_step l);
  capped_price = λ e ss k l. ap (λ s. s.price) (get_or-map (capped_step e) ss k no_step no_step l);
}
