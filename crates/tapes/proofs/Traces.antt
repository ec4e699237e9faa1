-- The slots of a tape after writes one after another.
use Rattle.std.proofs.Common.{◌≡◌, ℕ, suc, ◌+◌, ◌<◌, List, [], ◌∷◌, ◌++◌, length, take, drop, set, sym, ap, ◌∙◌, arith, length-set}
use Rattle.std.proofs.lemmas.List.{append-nil, append_assoc, take-append-drop, take_more_set, drop-set-lt}
use Rattle.ledgers.specs.declared.write.Write.{Write}
use Rattle.ledgers.specs.Writes.{Trace}
use Rattle.tapes.specs.declared.tape.Tape.{Tape}
use Rattle.tapes.specs.Tapes.{tape_writes, slots_after}
use Rattle.tapes.proofs.Tapes.{used_within}

module _ {B : Type 0} where
  pub trace_name : (s t : Tape B) (ws : List (Write B)) → Trace tape_writes s ws t → t.slots.ghost_name ≡ s.slots.ghost_name
  trace_name s t [] e = sym (ap (λ x. x.slots.ghost_name) e)
  trace_name s t (w ∷ ws) p = trace_name p.0 t ws p.2 ∙ p.1.0

  -- the first of the writes, and then the others
  first_then : (used : ℕ) (slots : List (Write B)) (w : Write B) (ws : List (Write B)) → used < length slots → slots_after (used + 1) (set slots used w) ws ≡ slots_after used slots (w ∷ ws)
  first_then used slots w ws lt =
      let n = used + 1 + length ws in
      let same : n ≡ used + suc (length ws) = omega arith in
      ap (λ xs. xs ++ ws ++ drop n (set slots used w)) (take_more_set slots used w lt)
      ∙ ap (λ xs. (take used slots ++ w ∷ []) ++ ws ++ xs) (drop-set-lt n slots used w (omega arith) ∙ ap (λ k. drop k slots) same)
      ∙ ap (λ xs. xs ++ drop (used + suc (length ws)) slots) (append_assoc (take used slots) (w ∷ []) ws)

  pub trace_slots : (s t : Tape B) (ws : List (Write B)) → Trace tape_writes s ws t → t.slots.now ≡ slots_after s.used s.slots.now ws
  trace_slots s t [] e =
      sym (ap (λ x. x.slots.now) e) ∙ sym (take-append-drop s.used s.slots.now)
      ∙ ap (λ xs. xs ++ drop s.used s.slots.now) (sym (append-nil (take s.used s.slots.now)))
      ∙ ap (λ k. take s.used s.slots.now ++ [] ++ drop k s.slots.now) (let e : s.used ≡ s.used + 0 = omega arith in e)
  trace_slots s t (w ∷ ws) p =
      let m = p.0 in
      let more : m.used ≡ s.used + 1 = p.1.1 in
      let wrote : m.slots.now ≡ set s.slots.now s.used w = p.1.2 in
      let room : s.used < length s.slots.now = omega (arith, more, used_within m, ap length wrote, length-set s.slots.now s.used w) in
      trace_slots m t ws p.2
      ∙ ap (λ k. slots_after k m.slots.now ws) more
      ∙ ap (λ xs. slots_after (s.used + 1) xs ws) wrote
      ∙ first_then s.used s.slots.now w ws room
