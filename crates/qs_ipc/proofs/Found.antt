-- What is found of a transaction after its entry was changed.
use Rattle.std.proofs.Common.{◌≡◌, ◌∙◌, ℕ, Bool, true, false, List, [], ◌∷◌, Option, Some, None, refl, sym, ap, subst, arith}
use Rattle.std.proofs.lemmas.Bool.Decides.{nat_tests}
use Rattle.std.specs.Prelude.{◌&&◌, ◌==◌}
use Rattle.std.specs.Map.{lookup, set_value}
use Rattle.std.specs.BTreeMap.{is_at}
use Rattle.std.specs.Ordering.{ordering_then, nat_cmp, is_eq}
use Rattle.std.specs.Cmp.{unsigned_ties, both_tied}
use Rattle.std.specs.declared.cmp.Ordering.{Ordering}
use Rattle.std.specs.declared.cmp.Ordering.TheVariants.{Less, Equal, Greater}
use Rattle.std.proofs.lemmas.Map.Lookups.{exact_unsigned, exact_pairs}
use Rattle.qs_base.specs.Order.{tid_cmp, same_tid}
use Rattle.qs_base.specs.declared.identifiers.Tid.{Tid}
use Rattle.qs_ipc.specs.Queue.{changed_entry}

same_tid-cmp : (s t : Tid) → same_tid s t ≡ is_eq (tid_cmp s t)
same_tid-cmp s t = both_tied _ _ _ _ (unsigned_ties s.home.0 t.home.0) (both_tied _ _ _ _ (unsigned_ties s.inc t.inc) (unsigned_ties s.seq t.seq))

tid_exact : (s t : Tid) → tid_cmp s t ≡ Equal → s ≡ t
tid_exact s t e =
    let first = exact_pairs nat_cmp (λ (p q : ℕ × ℕ). ordering_then (nat_cmp p.0 q.0) (nat_cmp p.1 q.1)) exact_unsigned (exact_pairs nat_cmp nat_cmp exact_unsigned exact_unsigned) (s.home.0, (s.inc, s.seq)) (t.home.0, (t.inc, t.seq)) e in
    ap (λ (p : ℕ × (ℕ × ℕ)). record { home = record { 0 = p.0 }; inc = p.1.0; seq = p.1.1 }) first

equal : (o : Ordering) → is_eq o ≡ true → o ≡ Equal
equal Less h = absurd (cc h)
equal Equal h = refl
equal Greater h = absurd (cc h)

flip : (a b : ℕ) → (a == b) ≡ (b == a)
flip a b = grind (arith, nat_tests)

self : (a : ℕ) → (a == a) ≡ true
self a = grind (arith, nat_tests)

pub same_self : (t : Tid) → same_tid t t ≡ true
same_self t = rw (self t.home.0, self t.inc, self t.seq) refl

pub same_flip : (s t : Tid) → same_tid s t ≡ same_tid t s
same_flip s t = rw (flip s.home.0 t.home.0, flip s.inc t.inc, flip s.seq t.seq) refl

-- a query finds a key exactly where they are the same
pub asked : (q k : Tid) → is_at (tid_cmp q) k ≡ same_tid q k
asked q k = sym (same_tid-cmp q k)

pub same_exact : (s t : Tid) → same_tid s t ≡ true → s ≡ t
same_exact s t is = tid_exact s t (equal (tid_cmp s t) (sym (same_tid-cmp s t) ∙ is))

-- ---- an entry that was changed

module _ {X : Type 0} (f : X → X) where
  set_found : (p : Tid → Bool) (es : List (Tid × X)) (v w : X) → lookup p es ≡ Some v → lookup p (set_value p es w) ≡ Some w
  set_found p [] v w h = absurd (cc h)
  set_found p (e ∷ es) v w h = by (p e.0) refl (set_found p es v w)
    where
      by : (b : Bool) → p e.0 ≡ b → (lookup p es ≡ Some v → lookup p (set_value p es w) ≡ Some w) → lookup p (set_value p (e ∷ es) w) ≡ Some w
      by true is more = rw (is, is) refl
      by false is more = rw (is, is) (more (rw is at h))

  set_apart : (p q : Tid → Bool) → ((k : Tid) → q k ≡ true → p k ≡ false) → (es : List (Tid × X)) (w : X) → lookup q (set_value p es w) ≡ lookup q es
  set_apart p q apart [] w = refl
  set_apart p q apart (e ∷ es) w = by (p e.0) (q e.0) refl refl (set_apart p q apart es w)
    where
      by : (b c : Bool) → p e.0 ≡ b → q e.0 ≡ c → lookup q (set_value p es w) ≡ lookup q es → lookup q (set_value p (e ∷ es) w) ≡ lookup q (e ∷ es)
      by true true is has more = let no : p e.0 ≡ false = apart e.0 has in absurd (cc (is, no))
      by true false is has more = rw (is, has) refl
      by false true is has more = rw (is, has) refl
      by false false is has more = rw (is, has) more

  pub changed_found : (p : Tid → Bool) (es : List (Tid × X)) (v : X) → lookup p es ≡ Some v → lookup p (changed_entry p f es) ≡ Some (f v)
  changed_found p es v h =
      subst (λ (o : Option X). lookup p (elim o [ None ↦ es | Some u ↦ set_value p es (f u) ]) ≡ Some (f v)) (sym h) (set_found p es v (f v) h)

  pub changed_apart : (p q : Tid → Bool) → ((k : Tid) → q k ≡ true → p k ≡ false) → (es : List (Tid × X)) → lookup q (changed_entry p f es) ≡ lookup q es
  changed_apart p q apart es = by (lookup p es)
    where
      by : (o : Option X) → lookup q (elim o [ None ↦ es | Some v ↦ set_value p es (f v) ]) ≡ lookup q es
      by None = refl
      by (Some v) = set_apart p q apart es (f v)
