-- Writes one after another.
use Rattle.std.proofs.Common.{List, [], ◌∷◌, ◌++◌, sym, subst}
use Rattle.ledgers.specs.declared.write.Write.{Write}
use Rattle.ledgers.specs.Writes.{Trace}

module _ {B S : Type 0} (W : S → Write B → S → Type 0) where
  pub trace_join : (s m t : S) (ws vs : List (Write B)) → Trace W s ws m → Trace W m vs t → Trace W s (ws ++ vs) t
  trace_join s m t [] vs first then = subst (λ x. Trace W x vs t) (sym first) then
  trace_join s m t (w ∷ ws) vs first then = (first.0, first.1, trace_join first.0 m t ws vs first.2 then)
