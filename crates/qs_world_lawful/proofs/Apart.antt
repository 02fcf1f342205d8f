-- Two transactions are the same, or nothing that is found of one is found of the other.
use Rattle.qs_world_lawful.proofs.Words.{◌≡◌, ◌≢◌, ◌⊎◌, inl, inr, Bool, true, false, refl, sym, subst, ◌∙◌, is_at, tid_cmp, same_tid, Tid, same_tid-true, same_tid-self, at_exact, false≢true, false_from_ne_true}

-- t is another than s
pub record Apart (s t : Tid) : Type 0 where
  pub keys : (k : Tid) → is_at (tid_cmp t) k ≡ true → is_at (tid_cmp s) k ≡ false
  pub at : is_at (tid_cmp t) s ≡ false
  pub of : same_tid t s ≡ false
  pub by : same_tid s t ≡ false
  pub differ : s ≢ t

pub apart : (s t : Tid) → s ≢ t → Apart s t
apart s t far = record {
  keys = λ k at. false_from_ne_true _ (λ is. far (at_exact s k is ∙ sym (at_exact t k at)));
  at = false_from_ne_true _ (λ is. far (sym (at_exact t s is)));
  of = false_from_ne_true _ (λ is. far (sym (same_tid-true t s is)));
  by = false_from_ne_true _ (λ is. far (same_tid-true s t is));
  differ = far;
}

pub same_or_apart : (s t : Tid) → (s ≡ t) ⊎ Apart s t
same_or_apart s t = by (same_tid s t) refl
  where
    by : (b : Bool) → same_tid s t ≡ b → (s ≡ t) ⊎ Apart s t
    by true is = inl (same_tid-true s t is)
    by false is = inr (apart s t (λ e. false≢true (sym is ∙ subst (λ (u : Tid). same_tid s u ≡ true) e (same_tid-self s))))
