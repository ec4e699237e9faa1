-- Steps in their places.
use Rattle.std.proofs.Common.{◌≡◌, ℕ, ◌≤◌, List, ◌++◌, length, take, drop, replicate, sym, refl, ap, ◌∙◌}
use Rattle.std.proofs.Props.{props}
use mathlib.Core.HLevel.{is_prop→PathP}
use Rattle.std.proofs.lemmas.List.{drop-replicate, take_at}
use Rattle.curves.specs.declared.steps.Step.{Step}
use Rattle.curves.specs.declared.steps.Steps.{Steps}
use Rattle.curves.specs.declared.steps.TheConstants.{PLACES}
use Rattle.curves.specs.Curve.{no_step}
use Rattle.curves.specs.Places.{packed, Packed}
use Rattle.curves.specs.Steps.{steps_in}

-- steps copied over the first of the empty places
pub copied_over : (ss front : List Step) → front ≡ ss → length ss ≤ PLACES → Packed (front ++ drop (length ss) (replicate PLACES no_step)) (length ss)
copied_over ss front copied few =
    let all_places : front ++ drop (length ss) (replicate PLACES no_step) ≡ packed ss = rw (copied, drop-replicate (length ss) PLACES no_step) refl in
    let first : take (length ss) (front ++ drop (length ss) (replicate PLACES no_step)) ≡ ss = rw copied (take_at ss _ _ refl) in
    record { few = few; counted = ap length first; rest = ap packed first ∙ sym all_places }

Packed-prop : (places : List Step) (count : ℕ) → IsProp (Packed places count)
Packed-prop places count = hlevel props

same_places : (a b : Steps) → a.places ≡ b.places → a.count ≡ b.count → a ≡ b
same_places a b p n = λ i. record { places = p i; count = n i; in_places = is_prop→PathP (λ j. Packed (p j) (n j)) (λ j. Packed-prop (p j) (n j)) a.in_places b.in_places i }

-- steps with the same list are the same
pub same_steps : (a b : Steps) → steps_in a ≡ steps_in b → a ≡ b
same_steps a b h =
    let p = a.in_places in
    let q = b.in_places in
    same_places a b (sym p.rest ∙ ap packed h ∙ q.rest) (sym p.counted ∙ ap length h ∙ q.counted)
