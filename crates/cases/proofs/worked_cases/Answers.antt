use Rattle.std.proofs.Common.{pos, refl}
use Rattle.thermal.specs.ThermalLaws.{lawful}
use Rattle.cases.specs.Worked.{two_steps}
use Rattle.cases.proofs.worked_cases.Goals as goal

pub returns : goal.returns
returns c = record {
  hour_12 = refl;
  hour_12_over = refl;
  before_cut = refl;
  at_cut = refl;
  admitted = refl;
  filed = refl;
  capped = refl;
  level = refl;
  over = refl;
  low = lawful.own two_steps (record { energy = pos 70000; start = pos 0 }) refl;
  wind = refl;
}
