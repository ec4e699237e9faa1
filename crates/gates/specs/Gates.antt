-- What a gate means, and the laws that every gate shows.
use Rattle.std.specs.Prelude.{◌≡◌, Bool, true, ℤ, pos, ◌≤ℤ◌, int_lt}
use Rattle.gates.specs.Minutes.{default_minute, end_of}

-- whether an offer of that minute is admitted for that hour
abbrev pub Admits : Type 0
Admits = ℤ → ℤ → Bool

pub record Lawful (admits : Admits) : Type 0 where
  -- the default offer is admitted for every hour
  pub default : (h : ℤ) → pos 1 ≤ℤ h → admits default_minute h ≡ true
  -- and with a minute every earlier one for the same hour
  pub earlier : (s t h : ℤ) → s ≤ℤ t → admits t h ≡ true → admits s h ≡ true

-- the real-time gate: until the hour ends
abbrev pub real_time : Admits
real_time t h = int_lt t (end_of h)

-- a cut gate: what came before its minute, for every hour
abbrev pub cut_at : ℤ → Admits
cut_at m t h = int_lt t m
