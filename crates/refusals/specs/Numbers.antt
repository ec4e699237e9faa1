-- The number of each refusal.
use Rattle.std.specs.Prelude.{ℕ}
use Rattle.refusals.specs.declared.Refusal.{Refusal}
use Rattle.refusals.specs.declared.Refusal.TheVariants.{MinuteOutOfRange}

abbrev pub number_of : Refusal → ℕ
number_of MinuteOutOfRange = 12
