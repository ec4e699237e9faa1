-- The minutes of cut gates.
use Rattle.std.specs.Prelude.{◌≡◌, ℤ, ◌≤ℤ◌, Ok, Err, Result}
use Rattle.refusals.specs.declared.Refusal.{Refusal}
use Rattle.refusals.specs.declared.Refusal.TheVariants.{MinuteOutOfRange}
use Rattle.gates.specs.declared.cut.CutGate.{CutGate}
use Rattle.gates.specs.Minutes.{hours, end_of, first_minute}

-- from the first minute of filing to the end of the day
abbrev pub CutMinute : ℤ → Type 0
CutMinute m = (first_minute ≤ℤ m) × (m ≤ℤ end_of hours)

-- the gate at that minute, or its refusal
abbrev pub CutMade : ℤ → Result CutGate Refusal → Type 0
CutMade m (Ok gate) = CutMinute m × (gate.minute ≡ m)
CutMade m (Err e) = (CutMinute m → ⊥) × (e ≡ MinuteOutOfRange)
