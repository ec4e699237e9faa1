use Rattle.std.proofs.Common.{◌≡◌, ◌+◌, ◌<◌, [], ◌∷◌, ◌++◌, length, take, sym, ap, ◌∙◌, subst, arith}
use Rattle.std.proofs.lemmas.List.{take_more, take_all}
use Rattle.entries.proofs.Entries.{Entered, entered_one, entered_refused}
use Rattle.entries.proofs.enter.enter_all.Goals as goal
use Rattle.entries.proofs.enter.enter_all.Goals.{then-enter, else-enter}

pub loop-e-preserved : goal.loop-e-preserved
loop-e-preserved g c =
    let W = g.L.Ledger.writes in
    let holds = g.L.Ledger.held in
    let es = c.args.entries.now in
    let i = c.loop-e.e-index in
    let e = c.e-item.result in
    let lt : i < length es = omega arith in
    let longer : take (i + 1) es ≡ take i es ++ e ∷ [] = take_more es i e lt ∙ ap (λ x. take i es ++ x ∷ []) (sym c.e-item.is) in
    let so = c.loop-e.invariant.1 in
    elim c.if-enter.branch [
      | then-enter w ↦ (
        omega (arith, w.accepted-is, c.loop-e.invariant.0),
        subst (λ l. Entered W holds c.args.ledger.now c.enter.new.ledger l c.if-enter.accepted) (sym longer)
            (subst (λ n. Entered W holds c.args.ledger.now c.enter.new.ledger (take i es ++ e ∷ []) n) (sym w.accepted-is)
            (entered_one W holds c.args.ledger.now c.loop-e.ledger c.enter.new.ledger (take i es) e c.loop-e.accepted so c.enter.ensures.after c.enter.ensures.wrote (sym c.enter.ensures.answer ∙ w.if-enter.true))),
      )
      | else-enter w ↦ (
        omega (arith, w.accepted-is, c.loop-e.invariant.0),
        subst (λ l. Entered W holds c.args.ledger.now c.enter.new.ledger l c.if-enter.accepted) (sym longer)
            (subst (λ n. Entered W holds c.args.ledger.now c.enter.new.ledger (take i es ++ e ∷ []) n) (sym w.accepted-is)
            (entered_refused W holds c.args.ledger.now c.loop-e.ledger c.enter.new.ledger (take i es) e c.loop-e.accepted so c.enter.ensures.after c.enter.ensures.wrote (sym c.enter.ensures.answer ∙ w.if-enter.false))),
      )
    ]

pub returns : goal.returns
returns g c =
    let all = take_all c.loop-e.e-index c.args.entries.now (omega arith) in
    let so = subst (λ l. Entered g.L.Ledger.writes g.L.Ledger.held c.args.ledger.now c.loop-e.ledger l c.loop-e.accepted) all c.loop-e.invariant.1 in
    record { answer = so.count; after = so.held; wrote = so.trace }
