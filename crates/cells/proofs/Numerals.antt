-- The number in a cell.
use Rattle.std.proofs.Common.{◌≡◌, ℕ, ◌^◌, ◌<◌, ◌≤◌, true, List, [], ◌∷◌, length, pos, neg_ℤ, Some, decimal, ap, ◌∙◌, arith, rules, ne_eqb, le-leb}
use native.Mathlib.Nat.{pow-le-pow_right}
use Rattle.std.proofs.lemmas.Bool.{cond-true, cond-false, and_from, and_parts}
use Rattle.std.proofs.lemmas.Bool.Decides.{nat_tests}
use Rattle.std.specs.Option.{option_map}
use Rattle.std.specs.Str.{all_ascii_digits}
use Rattle.std.specs.Char.{is_ascii_digit}
use Rattle.std.proofs.lemmas.Str.Parse.{IsNumeralModel, numerals_by_fold, tells_all_ascii_digits}
use Rattle.std.proofs.lemmas.Fmt.{digits_decimal, digits_value-decimal, length-decimal-le, decimal_nonempty}
use Rattle.cells.specs.Numbers.{value_after, natural_of, number_of, ReadsBack}

own : IsNumeralModel (λ ds. all_ascii_digits ds ≡ true) (value_after 0)
own = numerals_by_fold _ tells_all_ascii_digits value_after (search rules)

-- a numeral is its value
natural_is : (ds : List ℕ) → 1 ≤ length ds → length ds ≤ 9 → all_ascii_digits ds ≡ true → natural_of ds ≡ Some (value_after 0 ds)
natural_is ds some few all = cond-true _ _ _ (and_from _ _ (and_from _ _ (le-leb 1 (length ds) some) (le-leb (length ds) 9 few)) all)

-- digits do not begin with a minus sign
number_plain : (ds : List ℕ) → all_ascii_digits ds ≡ true → 1 ≤ length ds → number_of ds ≡ option_map pos (natural_of ds)
number_plain [] all some = absurd (omega arith)
number_plain (d ∷ ds) all some =
    let digit : is_ascii_digit d ≡ true = (and_parts _ _ all).0 in
    let ne : d ≡ 45 → ⊥ = λ e. grind (arith, nat_tests) in
    cond-false _ _ _ (ne_eqb d 45 ne)

-- a number of at most eight digits has room for one more
pub eight_digits : (i : ℕ) → i < 9 → 10 ^ i ≤ 10 ^ 8
eight_digits i l =
    let some : 0 < 10 = omega arith in
    let few : i ≤ 8 = omega arith in
    pow-le-pow_right some few

pub reads_back : ReadsBack
reads_back n h =
    let fits : n < 2 ^ 64 = omega arith in
    let nat : natural_of (decimal n) ≡ Some n =
    natural_is (decimal n) (omega (arith, decimal_nonempty n fits)) (length-decimal-le 9 n (omega arith) h fits) (digits_decimal own n fits) ∙ ap Some (digits_value-decimal own n fits) in
    (number_plain (decimal n) (digits_decimal own n fits) (omega (arith, decimal_nonempty n fits)) ∙ ap (option_map pos) nat, ap (option_map (λ m. neg_ℤ (pos m))) nat)
