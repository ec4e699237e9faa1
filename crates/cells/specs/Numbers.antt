-- The number that a cell holds.
use Rattle.std.specs.Prelude.{◌≡◌, ℕ, ◌+◌, ◌-◌, ◌*◌, ◌^◌, ◌<◌, Bool, cond, ◌&&◌, List, [], ◌∷◌, length, ℤ, pos, neg_ℤ, Some, None, decimal, Option, ◌==◌, nat_le}
use Rattle.std.specs.Option.{option_map}
use Rattle.std.specs.Str.{all_ascii_digits}

-- the number that decimal digits write after the digits of n
abbrev pub value_after : ℕ → List ℕ → ℕ
value_after n [] = n
value_after n (b ∷ bs) = value_after (n * 10 + (b - 48)) bs

-- 1 to 9 digits
abbrev pub is_numeral : List ℕ → Bool
is_numeral bs = (nat_le 1 (length bs) && nat_le (length bs) 9) && all_ascii_digits bs

abbrev pub natural_of : List ℕ → Option ℕ
natural_of bs = cond (is_numeral bs) (Some (value_after 0 bs)) None

-- an optional minus sign (45), and then 1 to 9 digits
abbrev pub number_of : List ℕ → Option ℤ
number_of [] = None
number_of (b ∷ bs) = cond (b == 45) (option_map (λ n. neg_ℤ (pos n)) (natural_of bs)) (option_map pos (natural_of (b ∷ bs)))

-- what the program prints of a number below 1,000,000,000, with or without a minus sign, is read as that number
abbrev pub ReadsBack : Type 0
ReadsBack = (n : ℕ) → n < 10 ^ 9 → (number_of (decimal n) ≡ Some (pos n)) × (number_of (45 ∷ decimal n) ≡ Some (neg_ℤ (pos n)))
