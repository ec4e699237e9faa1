use Rattle.std.proofs.Common.{◌≡◌, ◌<◌, true, length, get_or, pos, sym, ◌∙◌, rules}
use lib.Signed.{lt_z}
use Rattle.std.proofs.lemmas.List.Sorted.{answers_always}
use Rattle.curves.specs.Curve.{no_step}
use Rattle.curves.specs.Steps.{steps_in}
use Rattle.curves.proofs.Places.{rises_goes, goes_answered}
use Rattle.curves.proofs.steps.Steps.is_rising.Goals as goal

pub returns-then-is_none_or : goal.returns-then-is_none_or
returns-then-is_none_or c =
    let ss = steps_in c.args.self.now in
    let first : 0 < length ss → lt_z (pos 0) (get_or ss 0 no_step).upper ≡ true = λ l. search rules in
    let each = c.is_sorted_by.ensures.cases (λ a b. lt_z a.upper b.upper) (answers_always _ _ _ (λ f a r g h. search rules)) in
    goes_answered (λ s. s.upper) lt_z (pos 0) ss c.is_sorted_by.result first (rw c.used-steps.ensures at each) ∙ sym (rises_goes (pos 0) ss)
