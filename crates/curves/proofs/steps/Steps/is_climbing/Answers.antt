use Rattle.std.proofs.Common.{◌≡◌, ◌<◌, true, length, get_or, sym, ◌∙◌, rules}
use lib.Signed.{le_z}
use Rattle.std.proofs.lemmas.List.Sorted.{answers_always}
use Rattle.curves.specs.Curve.{no_step}
use Rattle.curves.specs.Steps.{steps_in}
use Rattle.curves.proofs.Places.{climbs_goes, goes_answered}
use Rattle.curves.proofs.steps.Steps.is_climbing.Goals as goal

pub returns-then-is_none_or : goal.returns-then-is_none_or
returns-then-is_none_or c =
    let ss = steps_in c.args.self.now in
    let first : 0 < length ss → le_z c.args.floor (get_or ss 0 no_step).price ≡ true = λ l. search rules in
    let each = c.is_sorted_by.ensures.cases (λ a b. le_z a.price b.price) (answers_always _ _ _ (λ f a r g h. search rules)) in
    goes_answered (λ s. s.price) le_z c.args.floor ss c.is_sorted_by.result first (rw c.used-steps.ensures at each) ∙ sym (climbs_goes c.args.floor ss)
