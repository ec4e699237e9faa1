use Rattle.std.proofs.Common.{◌≡◌, Ok, ◌∙◌, w64, SFits}
use Rattle.std.proofs.lemmas.Int.{to_z-of_z}
use Rattle.ledgers.specs.Writes.{mark_of}
use Rattle.ledgers.proofs.Steps.{mark_fits, mark_after}
use Rattle.ledgers.proofs.store.ledger.AnyLedger.mark.Goals as goal

pub write-requires : goal.write-requires
write-requires g c =
    let h = g.S.Lists.holds c.args.self.now in
    let fu : SFits w64 c.args.unit = c.ranges.unit in
    let fp : SFits w64 c.args.place = c.ranges.place in
    let fv : SFits w64 c.args.verdict = c.ranges.verdict in
    let fr : SFits w64 c.args.round = c.ranges.round in
    let is : Ok c.in_ok-w.w ≡ mark_of h c.args.unit c.args.place c.args.verdict c.args.round = simp to_z-of_z at c.in_ok-w.ensures in
    mark_fits h c.args.unit c.args.place c.args.verdict c.args.round c.in_ok-w.w is (g.S.Lists.limits c.args.self.now)

pub returns-clause-after : goal.returns-clause-after
returns-clause-after g c =
    let h = g.S.Lists.holds c.args.self.now in
    let fu : SFits w64 c.args.unit = c.ranges.unit in
    let fp : SFits w64 c.args.place = c.ranges.place in
    let fv : SFits w64 c.args.verdict = c.ranges.verdict in
    let fr : SFits w64 c.args.round = c.ranges.round in
    let is : Ok c.in_ok-w.w ≡ mark_of h c.args.unit c.args.place c.args.verdict c.args.round = simp to_z-of_z at c.in_ok-w.ensures in
    c.write.ensures.after ∙ mark_after h c.args.unit c.args.place c.args.verdict c.args.round c.in_ok-w.w is
