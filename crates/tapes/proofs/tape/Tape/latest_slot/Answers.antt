use Rattle.std.proofs.Common.{◌<◌, cond, ltb, get_or, sym, ap, subst, arith}
use Rattle.ledgers.proofs.Rows.{counted_inside}
use Rattle.tapes.specs.Slots.{Latest}
use Rattle.tapes.proofs.Latest.{latest_so}
use Rattle.tapes.proofs.Tapes.{used_within, counts_at, counts_none}
use Rattle.tapes.proofs.tape.Tape.latest_slot.Goals as goal

pub returns-then-p-of : goal.returns-then-p-of
returns-then-p-of g c =
    let s = c.args.self.now in
    let lt : c.args.p < cond (ltb c.args.u s.lengths.size.units) (get_or s.lengths.lens c.args.u 0) 0 = omega (arith, c.if-p-of.true, c.of.ensures) in
    let both = counted_inside s.lengths.size.units (get_or s.lengths.lens c.args.u 0) c.args.u c.args.p lt in
    let at = counts_at s c.args.u c.args.p _ both.0 both.1 (ap (λ k. get_or s.latest k 0) c.index-k.ensures.value) in
    record { counts = at; latest = subst (Latest s.slots.now s.used c.args.u c.args.p) (sym at) (latest_so s.slots.now s.used (used_within s) s.orderly c.args.u c.args.p) }

pub returns : goal.returns
returns g c =
    let s = c.args.self.now in
    let none = counts_none s c.args.u c.args.p (omega (arith, c.if-p-of.false, c.of.ensures)) in
    record { counts = none; latest = subst (Latest s.slots.now s.used c.args.u c.args.p) (sym none) (latest_so s.slots.now s.used (used_within s) s.orderly c.args.u c.args.p) }
