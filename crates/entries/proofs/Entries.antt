-- A list of adds and marks, one more at a time.
use Rattle.std.proofs.Common.{◌≡◌, ℕ, ◌+◌, true, false, List, [], ◌∷◌, ◌++◌, length, is_ok, Ok, Err, Result, sym, refl, ap, ◌∙◌, subst, arith, length-append}
use Rattle.refusals.specs.declared.ledger.LedgerRefusal.{LedgerRefusal}
use Rattle.ledgers.specs.declared.write.Write.{Write}
use Rattle.ledgers.specs.Held.{Held}
use Rattle.ledgers.specs.Writes.{Wrote, Trace}
use Rattle.ledgers.proofs.Steps.{clash}
use Rattle.ledgers.proofs.Traces.{trace_join}
use Rattle.entries.specs.declared.entry.Entry.{Entry}
use Rattle.entries.specs.Entries.{entered, after_entry, held_after, with_write, writes_of}

module _ {B : Type 0} where
  held_more : (h : Held B) (es : List (Entry B)) (e : Entry B) → held_after h (es ++ e ∷ []) ≡ after_entry (held_after h es) e
  held_more h [] e = refl
  held_more h (x ∷ es) e = held_more (after_entry h x) es e

  with_append : (r : Result (Write B) LedgerRefusal) (ws vs : List (Write B)) → with_write r (ws ++ vs) ≡ with_write r ws ++ vs
  with_append (Ok w) ws vs = refl
  with_append (Err e) ws vs = refl

  writes_more : (h : Held B) (es : List (Entry B)) (e : Entry B) → writes_of h (es ++ e ∷ []) ≡ writes_of h es ++ with_write (entered (held_after h es) e) []
  writes_more h [] e = refl
  writes_more h (x ∷ es) e = ap (with_write (entered h x)) (writes_more (after_entry h x) es e) ∙ with_append (entered h x) (writes_of (after_entry h x) es) _

  with_one : (r : Result (Write B) LedgerRefusal) → is_ok r ≡ true → length (with_write r []) ≡ 1
  with_one (Ok w) is = refl
  with_one (Err e) is = clash cc

  with_none : (r : Result (Write B) LedgerRefusal) → is_ok r ≡ false → length (with_write r []) ≡ 0
  with_none (Ok w) is = clash cc
  with_none (Err e) is = refl

module _ {B S : Type 0} (W : S → Write B → S → Type 0) (holds : S → Held B) where
  -- where a ledger has come from s by these entries, of which n were accepted
  pub record Entered (s t : S) (es : List (Entry B)) (n : ℕ) : Type 0 where
    pub held : holds t ≡ held_after (holds s) es
    pub trace : Trace W s (writes_of (holds s) es) t
    pub count : n ≡ length (writes_of (holds s) es)

  one_write : (m t : S) (r : Result (Write B) LedgerRefusal) → Wrote W m r t → Trace W m (with_write r []) t
  one_write m t (Ok w) did = (t, did, refl)
  one_write m t (Err e) did = sym did

  grown : (s m t : S) (es : List (Entry B)) (e : Entry B) (n k : ℕ) → Entered s m es n → holds t ≡ after_entry (holds m) e → Wrote W m (entered (holds m) e) t → length (with_write (entered (holds m) e) []) ≡ k → Entered s t (es ++ e ∷ []) (n + k)
  grown s m t es e n k so after wrote len =
      let same : entered (holds m) e ≡ entered (held_after (holds s) es) e = ap (λ h. entered h e) so.held in
      let more = writes_more (holds s) es e in
      record {
        held = after ∙ ap (λ h. after_entry h e) so.held ∙ sym (held_more (holds s) es e);
        trace = subst (λ ws. Trace W s ws t) (sym more)
            (trace_join W s m t _ _ so.trace (subst (λ r. Trace W m (with_write r []) t) same (one_write m t (entered (holds m) e) wrote)));
        count = omega (arith, so.count, len, ap (λ r. length (with_write r [])) same, ap length more, length-append (writes_of (holds s) es) (with_write (entered (held_after (holds s) es) e) []));
      }

  pub entered_one : (s m t : S) (es : List (Entry B)) (e : Entry B) (n : ℕ) → Entered s m es n → holds t ≡ after_entry (holds m) e → Wrote W m (entered (holds m) e) t → is_ok (entered (holds m) e) ≡ true → Entered s t (es ++ e ∷ []) (n + 1)
  entered_one s m t es e n so after wrote ok = grown s m t es e n 1 so after wrote (with_one (entered (holds m) e) ok)

  pub entered_refused : (s m t : S) (es : List (Entry B)) (e : Entry B) (n : ℕ) → Entered s m es n → holds t ≡ after_entry (holds m) e → Wrote W m (entered (holds m) e) t → is_ok (entered (holds m) e) ≡ false → Entered s t (es ++ e ∷ []) n
  entered_refused s m t es e n so after wrote refused =
      let g = grown s m t es e n 0 so after wrote (with_none (entered (holds m) e) refused) in
      record { held = g.held; trace = g.trace; count = omega (arith, g.count) }
