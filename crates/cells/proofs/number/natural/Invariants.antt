use Rattle.std.proofs.Common.{◌≡◌, ◌^◌, ◌<◌, drop}
use Rattle.std.specs.Str.{all_ascii_digits}
use Rattle.cells.specs.Numbers.{value_after}
use Rattle.cells.proofs.number.natural.Given as goal

abbrev pub invariant-loop-d : goal.invariant-loop-d
invariant-loop-d l =
    (value_after 0 l.digits ≡ value_after l.n (drop l.d-index l.digits))
    × (all_ascii_digits l.digits ≡ all_ascii_digits (drop l.d-index l.digits))
    × (l.n < 10 ^ l.d-index)
