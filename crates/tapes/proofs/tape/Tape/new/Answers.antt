use Rattle.std.proofs.Common.{◌≤◌, ◌*◌, [], length, sym, refl, ap, ◌∙◌, subst, arith, w64, SFits}
use Rattle.std.proofs.lemmas.Int.{to_z-of_z}
use Rattle.ledgers.proofs.Rows.{row_empty}
use Rattle.tapes.proofs.Slots.{total_none}
use Rattle.tapes.proofs.tape.Tape.new.Goals as goal

pub invariant_of-result : goal.invariant_of-result
invariant_of-result g c =
    let k = c.new.result.size.places in
    let n = c.new.result.size.units in
    record {
      indexed = refl;
      fits = subst (λ z. 2 * (z.units * z.places) ≤ length c.args.slots.now) (sym c.new.ensures.size) c.of_new-size.ensures.fits;
      short = λ u. omega arith;
      none = λ u h. refl;
      spent = sym (total_none n);
      orderly = λ j d lt. omega arith;
      counts = λ u. rw c.new.ensures.none (row_empty _ 32 k n u);
    }

pub returns-clause-made : goal.returns-clause-made
returns-clause-made g c =
    let fu : SFits w64 c.args.units = c.ranges.units in
    let fp : SFits w64 c.args.places = c.ranges.places in
    let units = simp to_z-of_z at c.of_new-size.ensures.units in
    let places = simp to_z-of_z at c.of_new-size.ensures.places in
    let size = c.new.ensures.size in
    λ i. record { units = (ap (λ z. z.units) size ∙ units) i; places = (ap (λ z. z.places) size ∙ places) i; list = λ u. [] }
