-- A tape before and after a write that fits.
use Rattle.std.proofs.Common.{◌≡◌, ℕ, ◌+◌, ◌*◌, ◌<◌, ◌≤◌, max, Bool, true, false, cond, eqb, ltb, List, [], ◌∷◌, ◌++◌, length, get_or, take, set, Some, None, sym, refl, ap, ◌∙◌, subst, ⊎_elim, mul-le-mul, mul-le-mul_left, mul_left_comm, arith, length-take, get_or-set_other, get_or-set_same}
use Rattle.std.proofs.Math.Path.{fun_ext}
use Rattle.std.proofs.lemmas.List.{take_more_set, take-set, take-set-le, get_or_default}
use Rattle.std.proofs.Math.Arith.{lt_of_le-ne}
use Rattle.std.proofs.lemmas.Option.{slice_get_past}
use Rattle.std.proofs.lemmas.Bool.Decides.{eqb_tells}
use Rattle.std.specs.List.{slice_get}
use Rattle.ledgers.specs.declared.filing.Filing.{Filing}
use Rattle.ledgers.specs.declared.lengths.Lengths.{Lengths}
use Rattle.ledgers.specs.declared.write.Write.{Write}
use Rattle.ledgers.specs.Puts.{put, made, Fits}
use Rattle.ledgers.specs.Rows.{row}
use Rattle.ledgers.proofs.Rows.{rows_apart, rows_written, row_count, row_length, row_at}
use Rattle.tapes.specs.declared.tape.Tape.{Tape}
use Rattle.tapes.specs.Slots.{total, filings, counting, spent_on, Orderly}
use Rattle.tapes.specs.Tapes.{taped}
use Rattle.tapes.proofs.Slots.{total_more, total_most, made_most, put_short, list_more, filings_length, short_list, no_list}

-- a choice by the unit
here_or : {X : Type 0} (P : ℕ → X) (Q : X → X) (v u : ℕ) → cond (eqb v u) (Q (P v)) (P v) ≡ cond (eqb v u) (Q (P u)) (P v)
here_or P Q v u = ⊎_elim
    (λ (e : (eqb v u ≡ true) × (v ≡ u)). ap (λ k. cond (eqb v u) (Q (P k)) (P v)) e.1)
    (λ (e : (eqb v u ≡ false) × (v ≡ u → ⊥)). ap (λ b. cond b (Q (P v)) (P v)) e.0 ∙ sym (ap (λ b. cond b (Q (P u)) (P v)) e.0))
    (eqb_tells v u)

module _ {B : Type 0} (s : Tape B) where
  abbrev wide : Type 0
  wide = s.lengths.size.units * s.lengths.size.places ≤ length s.latest

  pub wide_enough : wide
  wide_enough = omega (arith, mul-le-mul s.lengths.size.few s.lengths.size.narrow, s.indexed)

  -- no more slots are written than there are
  pub used_within : s.used ≤ length s.slots.now
  used_within =
      let ws = take s.used s.slots.now in
      let k = s.lengths.size.places in
      let n = s.lengths.size.units in
      let each : (v : ℕ) → made (filings ws v) ≤ 2 * k = λ v. omega (arith, made_most (filings ws v), mul-le-mul_left 2 (s.short v)) in
      let most : total (λ v. made (filings ws v)) n ≤ n * (2 * k) = total_most (λ v. made (filings ws v)) (2 * k) n each in
      let same : n * (2 * k) ≡ 2 * (n * k) = mul_left_comm n 2 k in
      omega (arith, s.spent, s.fits)

  -- the length of a list
  pub list_length : (u : ℕ) → u < s.lengths.size.units → length ((taped s).list u) ≡ get_or s.lengths.lens u 0
  list_length u lt =
      filings_length (take s.used s.slots.now) u ∙ sym (ap length (s.counts u))
      ∙ row_length s.latest s.lengths.lens s.lengths.size.places s.lengths.size.units u lt (s.lengths.filled u) wide_enough

  pub list_counted : (u : ℕ) → length ((taped s).list u) ≡ cond (ltb u s.lengths.size.units) (get_or s.lengths.lens u 0) 0
  list_counted u =
      filings_length (take s.used s.slots.now) u ∙ sym (ap length (s.counts u))
      ∙ row_count s.latest s.lengths.lens s.lengths.size.places s.lengths.size.units u (s.lengths.filled u) wide_enough

  -- the slot that counts for a place
  pub counts_at : (u p i : ℕ) → u < s.lengths.size.units → p < get_or s.lengths.lens u 0 → i ≡ get_or s.latest (u * s.lengths.size.places + p) 0 → Some i ≡ slice_get (counting (take s.used s.slots.now) u) p
  counts_at u p i lt at is =
      let inside : u * s.lengths.size.places + p < length s.latest = omega (arith, at, s.lengths.filled u, wide_enough, rows_apart u s.lengths.size.units s.lengths.size.places lt) in
      row_at s.latest s.lengths.lens s.lengths.size.places s.lengths.size.units u p i lt (s.lengths.filled u) wide_enough at (is ∙ get_or_default s.latest (u * s.lengths.size.places + p) 0 i inside)
      ∙ ap (λ l. slice_get l p) (s.counts u)

  pub counts_none : (u p : ℕ) → cond (ltb u s.lengths.size.units) (get_or s.lengths.lens u 0) 0 ≤ p → None ≡ slice_get (counting (take s.used s.slots.now) u) p
  counts_none u p le =
      let ws = take s.used s.slots.now in
      let past : length (counting ws u) ≤ p = omega (arith, filings_length ws u, list_counted u) in
      sym (slice_get_past (counting ws u) p past)

module _ {B : Type 0} (s : Tape B) (w : Write B) (fit : Fits (taped s) w) where
  abbrev ws : List (Write B)
  ws = take s.used s.slots.now

  abbrev u : ℕ
  u = w.unit

  abbrev p : ℕ
  p = w.place

  abbrev f : Filing B
  f = w.filing

  abbrev lists : ℕ → List (Filing B)
  lists v = cond (eqb v u) (put (filings ws u) p f) (filings ws v)

  at_unit : lists u ≡ put (filings ws u) p f
  at_unit = ⊎_elim
      (λ (e : (eqb u u ≡ true) × (u ≡ u)). ap (λ b. cond b (put (filings ws u) p f) (filings ws u)) e.0)
      (λ (e : (eqb u u ≡ false) × (u ≡ u → ⊥)). absurd (e.1 refl))
      (eqb_tells u u)

  elsewhere : (v : ℕ) → (v ≡ u → ⊥) → lists v ≡ filings ws v
  elsewhere v ne = ⊎_elim
      (λ (e : (eqb v u ≡ true) × (v ≡ u)). absurd (ne e.1))
      (λ (e : (eqb v u ≡ false) × (v ≡ u → ⊥)). ap (λ b. cond b (put (filings ws u) p f) (filings ws v)) e.0)
      (eqb_tells v u)

  -- one slot more is spent
  spent_more : s.used + 1 ≡ total (λ v. made (lists v)) s.lengths.size.units
  spent_more =
      let more = total_more (λ v. made (filings ws v)) (λ v. made (lists v)) u s.lengths.size.units fit.known (ap made at_unit ∙ fit.one) (λ v ne. ap made (elsewhere v ne)) in
      omega (arith, more, s.spent)

  short_part : (b : Bool) (v : ℕ) → length (cond b (put (filings ws u) p f) (filings ws v)) ≤ s.lengths.size.places
  short_part true v = put_short (filings ws u) p s.lengths.size.places f (s.short u) fit.room
  short_part false v = s.short v

  -- so there is one
  pub room : s.used < length s.slots.now
  room =
      let k = s.lengths.size.places in
      let n = s.lengths.size.units in
      let each : (v : ℕ) → made (lists v) ≤ 2 * k = λ v. omega (arith, made_most (lists v), mul-le-mul_left 2 (short_part (eqb v u) v)) in
      let most : total (λ v. made (lists v)) n ≤ n * (2 * k) = total_most (λ v. made (lists v)) (2 * k) n each in
      let same : n * (2 * k) ≡ 2 * (n * k) = mul_left_comm n 2 k in
      let fits : 2 * (n * k) ≤ length s.slots.now = s.fits in
      omega (arith, spent_more)

  abbrev i : ℕ
  i = s.used

  abbrev slots : List (Write B)
  slots = set s.slots.now i w

  written_so : take (i + 1) slots ≡ ws ++ w ∷ []
  written_so = take_more_set s.slots.now i w room

  length_so : length ws ≡ i
  length_so = length-take i s.slots.now ∙ omega (arith, room)

  -- the lists and the slots that count, after the write
  pub filings_now : (v : ℕ) → filings (take (i + 1) slots) v ≡ lists v
  filings_now v =
      ap (λ l. filings l v) written_so ∙ list_more (λ n x. x.filing) 0 [] ws w v
      ∙ here_or (filings ws) (λ l. put l p f) v u

  counting_now : (v : ℕ) → counting (take (i + 1) slots) v ≡ cond (eqb v u) (put (counting ws u) p i) (counting ws v)
  counting_now v =
      ap (λ l. counting l v) written_so ∙ list_more (λ n x. n) 0 [] ws w v
      ∙ ap (λ k. cond (eqb v u) (put (counting ws v) p k) (counting ws v)) (let e : 0 + length ws ≡ i = omega (arith, length_so) in e)
      ∙ here_or (counting ws) (λ l. put l p i) v u

  -- with the slot counted for its place
  module _ (k : ℕ) (t : Lengths) (at : k ≡ u * s.lengths.size.places + p) (size : t.size ≡ s.lengths.size) (lens : t.lens ≡ set s.lengths.lens u (max (get_or s.lengths.lens u 0) (p + 1))) where
    abbrev latest : List ℕ
    latest = set s.latest k i

    pub counts_now : (v : ℕ) → row latest t.lens t.size.places t.size.units v ≡ counting (take (i + 1) slots) v
    counts_now v =
        let known : u < s.lengths.size.units = fit.known in
        let has : u < length s.lengths.lens = omega (arith, s.lengths.counted, s.lengths.size.few) in
        let before : p ≤ get_or s.lengths.lens u 0 = omega (arith, fit.within, list_length s u fit.known) in
        ap (λ z. row latest t.lens z.places z.units v) size
        ∙ ap (λ l. row latest l s.lengths.size.places s.lengths.size.units v) lens
        ∙ ap (λ j. row (set s.latest j i) (set s.lengths.lens u (max (get_or s.lengths.lens u 0) (p + 1))) s.lengths.size.places s.lengths.size.units v) at
        ∙ rows_written s.latest s.lengths.lens s.lengths.size.places s.lengths.size.units u p _ i known has before fit.room (wide_enough s) s.lengths.filled refl v
        ∙ (λ j. cond (eqb v u) (put (s.counts u j) p i) (s.counts v j))
        ∙ sym (counting_now v)

    pub short_now : (v : ℕ) → length (filings (take (i + 1) slots) v) ≤ t.size.places
    short_now v = short_list (take (i + 1) slots) latest t.lens t.size.places t.size.units v (counts_now v) (t.filled v)

    pub none_now : (v : ℕ) → t.size.units ≤ v → length (filings (take (i + 1) slots) v) ≡ 0
    none_now v = no_list (take (i + 1) slots) latest t.lens t.size.places t.size.units v (counts_now v)

    pub spent_now : i + 1 ≡ spent_on (take (i + 1) slots) t.size.units
    spent_now = spent_more ∙ ap (λ (l : ℕ → List (Filing B)). total (λ v. made (l v)) s.lengths.size.units) (sym (fun_ext filings_now)) ∙ ap (λ z. spent_on (take (i + 1) slots) z.units) (sym size)

  pub orderly_now : Orderly slots (i + 1)
  orderly_now j d lt = ⊎_elim
      (λ (e : (eqb j i ≡ true) × (j ≡ i)).
      let it : get_or slots j d ≡ w = ap (λ n. get_or slots n d) e.1 ∙ get_or-set_same s.slots.now i w d room in
      let those : take j slots ≡ ws = ap (λ n. take n slots) e.1 ∙ take-set s.slots.now i w in
      subst (λ l. (get_or slots j d).place ≤ length (counting l (get_or slots j d).unit)) (sym those)
      (subst (λ x. x.place ≤ length (counting ws x.unit)) (sym it) (omega (arith, fit.within, filings_length ws u))))
      (λ (e : (eqb j i ≡ false) × (j ≡ i → ⊥)).
      let less : j < i = lt_of_le-ne (omega arith) e.1 in
      let it : get_or slots j d ≡ get_or s.slots.now j d = get_or-set_other s.slots.now i j w d e.1 in
      let those : take j slots ≡ take j s.slots.now = take-set-le j s.slots.now i w (omega arith) in
      subst (λ l. (get_or slots j d).place ≤ length (counting l (get_or slots j d).unit)) (sym those)
      (subst (λ x. x.place ≤ length (counting (take j s.slots.now) x.unit)) (sym it) (s.orderly j d (omega (arith, less)))))
      (eqb_tells j i)
