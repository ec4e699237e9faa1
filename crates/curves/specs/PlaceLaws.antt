-- Steps with lower prices lie in their places as before.
use Rattle.std.specs.Prelude.{◌≡◌, ℕ, ◌-◌, List, ◌++◌, length, take, drop, replicate, ℤ}
use Rattle.std.proofs.Common.{sym, ap, ◌∙◌}
use Rattle.std.proofs.lemmas.List.{take_at, drop_at, length-map}
use Rattle.curves.specs.declared.steps.Step.{Step}
use Rattle.curves.specs.declared.steps.TheConstants.{PLACES}
use Rattle.curves.specs.Curve.{no_step, capped_step, capped_steps}
use Rattle.curves.specs.Places.{packed, Packed}

-- the first places of steps with lower prices hold these
pub first_capped : (places : List Step) (count : ℕ) (e : ℤ) (more : List Step) → Packed places count → take count (capped_steps e (take count places) ++ more) ≡ capped_steps e (take count places)
first_capped places count e more h = take_at _ _ _ (length-map (take count places) (capped_step e) ∙ h.counted)

-- and the others hold no step, as before
pub packed_capped : (places : List Step) (count : ℕ) (e : ℤ) → Packed places count → Packed (capped_steps e (take count places) ++ drop count places) count
packed_capped places count e h =
    let ss = take count places in
    let cs = capped_steps e ss in
    let many : length cs ≡ length ss = length-map ss (capped_step e) in
    let first = first_capped places count e (drop count places) h in
    let empty : replicate (PLACES - length ss) no_step ≡ drop count places = sym (drop_at ss _ _ h.counted) ∙ ap (drop count) h.rest in
    record { few = h.few; counted = ap length first ∙ many ∙ h.counted; rest = ap packed first ∙ ap (λ n. cs ++ replicate (PLACES - n) no_step) many ∙ ap (λ l. cs ++ l) empty }
