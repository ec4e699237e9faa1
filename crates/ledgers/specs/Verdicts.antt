-- The number of each verdict.
use Rattle.std.specs.Prelude.{◌≡◌, Bool, true, false, cond, ℤ, pos, negsuc, Some, None, Option, ◌==◌, ◌≢◌}
use Rattle.ledgers.specs.declared.verdict.Verdict.{Verdict}
use Rattle.ledgers.specs.declared.verdict.Verdict.TheVariants.{Waiting, Consistent, Capped, PassedOver}

abbrev pub verdict_number : Verdict → ℤ
verdict_number Waiting = pos 0
verdict_number Consistent = pos 1
verdict_number Capped = pos 2
verdict_number PassedOver = pos 3

-- whether no round has said anything yet
abbrev pub waits : Verdict → Bool
waits Waiting = true
waits Consistent = false
waits Capped = false
waits PassedOver = false

-- the verdict of a round that has this number: 1, 2 or 3
abbrev pub judgement : ℤ → Option Verdict
judgement (pos n) = cond (n == 1) (Some Consistent) (cond (n == 2) (Some Capped) (cond (n == 3) (Some PassedOver) None))
judgement (negsuc n) = None

-- it is the verdict of a round that has this number, or no verdict of a round has it
abbrev pub OfRound : ℤ → Option Verdict → Type 0
OfRound n None = (v : Verdict) → waits v ≡ false → verdict_number v ≢ n
OfRound n (Some v) = (waits v ≡ false) × (verdict_number v ≡ n)
