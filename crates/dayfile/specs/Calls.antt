-- The calls of a day file and their letters.
use Rattle.std.specs.Prelude.{◌≡◌, ℕ, List, codes, Result, MatchResult, ◌≢◌}
use Rattle.dayfile.specs.declared.call.Call.{Call}
use Rattle.dayfile.specs.declared.call.Call.TheVariants.{Register, File, Round, InForce}
use Rattle.dayfile.specs.declared.call.RoundKind.{RoundKind}
use Rattle.dayfile.specs.declared.call.RoundKind.TheVariants.{DayAhead, Reliability, DayAfter}
use Rattle.dayfile.specs.declared.call.UnknownCall.{UnknownCall}

-- the digit of a round
abbrev pub digit : RoundKind → List ℕ
digit DayAhead = codes "1"
digit Reliability = codes "2"
digit DayAfter = codes "3"

-- the letter or digit of a call
abbrev pub letter_of : Call → List ℕ
letter_of Register = codes "R"
letter_of File = codes "F"
letter_of (Round kind) = digit kind
letter_of InForce = codes "Q"

-- the call whose letter the cell is, or none where it is no call's
abbrev pub CallNamed : List ℕ → Result Call UnknownCall → Type 0
CallNamed cell r = MatchResult r (λ call. cell ≡ letter_of call) (λ _. (call : Call) → cell ≢ letter_of call)
