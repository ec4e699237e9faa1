use Rattle.std.proofs.Common.{◌≡◌, Ok, ap, ◌∙◌, w64, SFits}
use Rattle.std.proofs.lemmas.Int.{to_z-of_z}
use Rattle.ledgers.specs.Verdicts.{waits}
use Rattle.ledgers.specs.Writes.{waiting, add_of}
use Rattle.ledgers.proofs.Steps.{add_fits, add_after}
use Rattle.ledgers.proofs.store.ledger.AnyLedger.add.Goals as goal

pub write-requires : goal.write-requires
write-requires g c =
    let fu : SFits w64 c.args.unit = c.ranges.unit in
    let h = g.S.Lists.holds c.args.self.now in
    let made : Ok c.in_ok-w.w ≡ add_of h c.args.unit c.waiting.result = simp to_z-of_z at c.in_ok-w.ensures in
    add_fits h c.args.unit c.waiting.result c.in_ok-w.w made (ap (λ f. waits f.verdict) c.waiting.ensures)

pub returns-clause-after : goal.returns-clause-after
returns-clause-after g c =
    let h = g.S.Lists.holds c.args.self.now in
    let fu : SFits w64 c.args.unit = c.ranges.unit in
    let f = waiting c.args.submission in
    let made : Ok c.in_ok-w.w ≡ add_of h c.args.unit c.waiting.result = simp to_z-of_z at c.in_ok-w.ensures in
    let is : Ok c.in_ok-w.w ≡ add_of h c.args.unit f = made ∙ ap (add_of h c.args.unit) c.waiting.ensures in
    c.write.ensures.after ∙ add_after h c.args.unit f c.in_ok-w.w is
