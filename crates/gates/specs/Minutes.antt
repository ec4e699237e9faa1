-- Hours and minutes of the operating day.
use Rattle.std.specs.Prelude.{ℤ, pos, ◌*ℤ◌, neg_ℤ, ◌≤ℤ◌}

-- how many hours the day has
abbrev pub hours : ℤ
hours = pos 24

-- hours count from 1
abbrev pub Hour : ℤ → Type 0
Hour h = (pos 1 ≤ℤ h) × (h ≤ℤ hours)

-- minutes count from the start of the day, and hour h is the 60 minutes before this one
abbrev pub end_of : ℤ → ℤ
end_of h = pos 60 *ℤ h

-- the first minute at which an owner may file, seven days before the day
abbrev pub first_minute : ℤ
first_minute = neg_ℤ (pos 10080)

-- the minute of a unit's default offer, before every other
abbrev pub default_minute : ℤ
default_minute = neg_ℤ (pos 10081)
