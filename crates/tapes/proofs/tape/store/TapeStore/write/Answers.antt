use Rattle.std.proofs.Common.{◌≡◌, ℕ, ◌+◌, ◌<◌, ◌≤◌, ◌*◌, length, take, set, sym, ap, ◌∙◌, subst, mul-le-mul, arith, rules, length-set}
use Rattle.std.proofs.Math.Path.{fun_ext}
use Rattle.ledgers.specs.Puts.{Fits, written}
use Rattle.tapes.specs.Slots.{filings}
use Rattle.tapes.specs.Tapes.{taped}
use Rattle.tapes.proofs.Tapes.{room, filings_now, counts_now, short_now, none_now, spent_now, orderly_now}
use Rattle.tapes.proofs.tape.store.TapeStore.write.Goals as goal

pub offset_bounds-self-i : goal.offset_bounds-self-i
offset_bounds-self-i g c =
    let lt : c.args.self.now.used < length c.args.self.now.slots.now = room c.args.self.now c.args.accepted.now.write c.requires in
    search rules

pub bounds-self-i : goal.bounds-self-i
bounds-self-i g c = room c.args.self.now c.args.accepted.now.write c.requires

pub bounds-self-k : goal.bounds-self-k
bounds-self-k g c =
    let size = c.args.self.now.lengths.size in
    omega (arith, c.index-k.ensures.inside, mul-le-mul size.few size.narrow)

pub overflow_add-self : goal.overflow_add-self
overflow_add-self g c =
    let lt : c.args.self.now.used < length c.args.self.now.slots.now = room c.args.self.now c.args.accepted.now.write c.requires in
    omega arith

pub invariant_of-self : goal.invariant_of-self
invariant_of-self g c =
    let s = c.args.self.now in
    let w = c.write-w.result in
    let req : Fits (taped s) w = subst (Fits (taped s)) (sym c.write-w.ensures) c.requires in
    let k = c.index-k.result in
    let t = c.count.new.self in
    let at = c.index-k.ensures.value in
    let size = c.count.ensures.size in
    let lens = c.count.ensures.lens in
    let fits : 2 * (s.lengths.size.units * s.lengths.size.places) ≤ length s.slots.now = s.fits in
    record {
      indexed = length-set s.latest k _ ∙ s.indexed;
      fits = subst (λ z. 2 * (z.units * z.places) ≤ length (set s.slots.now s.used w)) (sym size) (simp length-set fits);
      short = short_now s w req k t at size lens;
      none = none_now s w req k t at size lens;
      spent = spent_now s w req k t at size lens;
      orderly = orderly_now s w req;
      counts = counts_now s w req k t at size lens;
    }

pub returns-clause-after : goal.returns-clause-after
returns-clause-after g c =
    let s = c.args.self.now in
    let w = c.write-w.result in
    let req : Fits (taped s) w = subst (Fits (taped s)) (sym c.write-w.ensures) c.requires in
    let size = c.count.ensures.size in
    let list : (v : ℕ) → filings (take (s.used + 1) (set s.slots.now s.used w)) v ≡ (written (taped s) c.args.accepted.now.write).list v =
    λ v. filings_now s w req v ∙ ap (λ x. (written (taped s) x).list v) c.write-w.ensures in
    λ i. record { units = (size i).units; places = (size i).places; list = fun_ext list i }
