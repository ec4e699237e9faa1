use Rattle.std.proofs.Common.{◌≡◌, ◌<◌, length, get_or, take, Some, sym, ap, ◌∙◌, arith, get_or-take}
use Rattle.tapes.proofs.Slots.{filing_at_lem, filing_none}
use Rattle.tapes.proofs.Tapes.{used_within}
use Rattle.tapes.proofs.tape.store.TapeLists.filing.Goals as goal

pub returns-in_err-i : goal.returns-in_err-i
returns-in_err-i g c =
    let s = c.args.self.now in
    c.from_residual.ensures ∙ filing_none (take s.used s.slots.now) c.args.u c.args.p c.in_err-i.ensures.counts

pub offset_bounds-slots-i : goal.offset_bounds-slots-i
offset_bounds-slots-i g c =
    let lt : c.in_ok-i.i < length c.args.self.now.slots.now = omega (arith, c.in_ok-i.ensures.latest.0, used_within c.args.self.now) in
    omega arith

pub bounds-slots-i : goal.bounds-slots-i
bounds-slots-i g c = omega (arith, c.in_ok-i.ensures.latest.0, used_within c.args.self.now)

pub bounds-slots-i-in_ok-i : goal.bounds-slots-i-in_ok-i
bounds-slots-i-in_ok-i g c = omega (arith, c.in_ok-i.ensures.latest.0, used_within c.args.self.now)

pub returns : goal.returns
returns g c =
    let s = c.args.self.now in
    let i = c.in_ok-i.i in
    let w = c.index-slots-i.result in
    let lt : i < s.used = c.in_ok-i.ensures.latest.0 in
    let is : w ≡ get_or (take s.used s.slots.now) i w = c.index-slots-i.is ∙ sym (get_or-take s.used s.slots.now i w lt) in
    ap (λ x. Some x.filing) (sym c.index-slots-i.is) ∙ (filing_at_lem (take s.used s.slots.now) c.args.u c.args.p i w c.in_ok-i.ensures.counts is).1
