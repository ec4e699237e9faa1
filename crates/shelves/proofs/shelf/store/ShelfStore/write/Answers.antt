use Rattle.std.proofs.Common.{◌≡◌, ℕ, ◌+◌, ◌*◌, ◌<◌, ◌≤◌, max, length, get_or, set, sym, refl, ap, ◌∙◌, subst, arith}
use Rattle.std.proofs.Math.Path.{fun_ext}
use Rattle.ledgers.specs.Rows.{row}
use Rattle.ledgers.specs.Puts.{Fits, written}
use Rattle.ledgers.proofs.Rows.{rows_written, row_length}
use Rattle.shelves.specs.Shelves.{shelved}
use Rattle.shelves.proofs.shelf.store.ShelfStore.write.Goals as goal

pub returns-clause-after : goal.returns-clause-after
returns-clause-after g c =
    let s = c.args.self.now in
    let w = c.write-w.result in
    let req : Fits (shelved s) w = subst (Fits (shelved s)) (sym c.write-w.ensures) c.requires in
    let lens = s.lengths.lens in
    let k = s.lengths.size.places in
    let n = s.lengths.size.units in
    let slots = s.slots.now in
    let t = c.count.new.self in
    let few : n ≤ 32 = s.lengths.size.few in
    let known : w.unit < n = req.known in
    let has : w.unit < length lens = omega (arith, s.lengths.counted) in
    let at : w.place ≤ get_or lens w.unit 0 = omega (arith, req.within, row_length slots lens k n w.unit known (s.lengths.filled w.unit) s.fits) in
    let size = c.count.ensures.size in
    let rows = rows_written slots lens k n w.unit w.place (max (get_or lens w.unit 0) (w.place + 1)) w.filing known has at req.room s.fits s.lengths.filled refl in
    let list : (v : ℕ) → row (set slots c.index-i.result w.filing) t.lens t.size.places t.size.units v ≡ (written (shelved s) c.args.accepted.now.write).list v =
    λ v. ap (λ j. row (set slots j w.filing) t.lens t.size.places t.size.units v) c.index-i.ensures.value
    ∙ ap (λ z. row (set slots (w.unit * k + w.place) w.filing) t.lens z.places z.units v) size
    ∙ ap (λ l. row (set slots (w.unit * k + w.place) w.filing) l k n v) c.count.ensures.lens
    ∙ rows v
    ∙ ap (λ x. (written (shelved s) x).list v) c.write-w.ensures in
    λ i. record { units = (size i).units; places = (size i).places; list = fun_ext list i }
