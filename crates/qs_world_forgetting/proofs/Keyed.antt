-- What a change of a map, of a list or of the nodes leaves.
use Rattle.std.proofs.Common.{not, inl, inr, ◌≡◌, ◌∙◌, ℕ, Bool, true, false, List, [], ◌∷◌, refl, sym, ap, fold, Option, Some, None}
use Rattle.std.specs.Prelude.{slice_get, slice_set}
use Rattle.std.specs.List.{filter, list_all}
use Rattle.std.specs.Map.{lookup, remove_entry, set_value}
use Rattle.std.specs.BTreeMap.{insert_entry, is_at}
use Rattle.std.specs.Ordering.{match_ordering, is_eq}
use Rattle.std.specs.declared.cmp.Ordering.{Ordering}
use Rattle.std.specs.declared.cmp.Ordering.TheVariants.{Less, Equal, Greater}
use Rattle.std.proofs.lemmas.Bool.{and_from, not_from_false}
use Rattle.qs_base.specs.declared.identifiers.Tid.{Tid}
use Rattle.qs_base_lemmas.proofs.Tests.{and_first, and_last}
use Rattle.qs_book_machine.specs.Transaction.{changed_value}
use Rattle.qs_book_machine.specs.Book.{BookValue, changed_at}
use Rattle.qs_book_machine.specs.Nodes.{NodeValue, voter_cmp, voter}
use Rattle.qs_book_machine.specs.declared.state.Voter.{Voter}
use Rattle.qs_book_machine.specs.declared.state.OnRecord.{OnRecord}
use Rattle.qs_book_laws.proofs.Maps.{Either, set_either}
use Rattle.qs_book_laws.proofs.Alikes.{voter_itself}

pub absent_removed : {K V : Type 0} (p : K → Bool) (es : List (K × V)) → lookup p es ≡ None → remove_entry p es ≡ es
absent_removed p [] none = refl
absent_removed {K = K} {V = V} p (e ∷ es) none = by (p e.0) refl (absent_removed p es)
  where
    hit : p e.0 ≡ true → lookup p (e ∷ es) ≡ Some e.1
    hit is = rw is refl

    miss : p e.0 ≡ false → lookup p (e ∷ es) ≡ lookup p es
    miss is = rw is refl

    by : (b : Bool) → p e.0 ≡ b → (lookup p es ≡ None → remove_entry p es ≡ es) → remove_entry p (e ∷ es) ≡ e ∷ es
    by true is more = absurd (let clash : Some e.1 ≡ None = sym (hit is) ∙ none in cc clash)
    by false is more = rw is (ap (λ (l : List (K × V)). e ∷ l) (more (sym (miss is) ∙ none)))

pub all_removed : {K V : Type 0} (test : K × V → Bool) (q : K → Bool) (es : List (K × V)) → list_all test es ≡ true → list_all test (remove_entry q es) ≡ true
all_removed test q [] all = refl
all_removed test q (e ∷ es) all = by (q e.0) refl (and_first (test e) _ all) (and_last (test e) _ all) (all_removed test q es)
  where
    by : (b : Bool) → q e.0 ≡ b → test e ≡ true → list_all test es ≡ true → (list_all test es ≡ true → list_all test (remove_entry q es) ≡ true) → list_all test (remove_entry q (e ∷ es)) ≡ true
    by true is its rest more = rw is rest
    by false is its rest more = rw is (and_from (test e) _ its (more rest))

pub filter_alike : {A : Type 0} (p q : A → Bool) (test : A → Bool) (xs : List A) → ((x : A) → test x ≡ true → p x ≡ q x) → list_all test xs ≡ true → filter p xs ≡ filter q xs
filter_alike p q test [] h all = refl
filter_alike {A = A} p q test (x ∷ xs) h all = by (q x) refl (filter_alike p q test xs h (and_last (test x) _ all))
  where
    by : (b : Bool) → q x ≡ b → filter p xs ≡ filter q xs → filter p (x ∷ xs) ≡ filter q (x ∷ xs)
    by true is more = rw (h x (and_first (test x) _ all), is) (ap (λ (l : List A). x ∷ l) more)
    by false is more = rw (h x (and_first (test x) _ all), is) more

pub changed_same : (i : ℕ) (f g : NodeValue → NodeValue) (ns : List NodeValue) → ((n : NodeValue) → slice_get ns i ≡ Some n → f n ≡ g n) → changed_at i f ns ≡ changed_at i g ns
changed_same i f g ns h = by (slice_get ns i) refl
  where
    by : (o : Option NodeValue) → slice_get ns i ≡ o → ◌≡◌ {A = List NodeValue} (elim o [ None ↦ ns | Some x ↦ slice_set ns i (f x) ]) (elim o [ None ↦ ns | Some x ↦ slice_set ns i (g x) ])
    by None is = refl
    by (Some x) is = ap (slice_set ns i) (h x is)

pub fold_nodes : {A : Type 0} (f : BookValue → A → BookValue) → ((b : BookValue) (x : A) → (f b x).nodes ≡ b.nodes) → (xs : List A) (b : BookValue) → (fold f b xs).nodes ≡ b.nodes
fold_nodes f h [] b = refl
fold_nodes f h (x ∷ xs) b = fold_nodes f h xs (f b x) ∙ h b x

-- a value is changed where a test of what is found stays so
pub changed_keeps : {K V : Type 0} (p q : K → Bool) (P : Option V → Bool) (f : V → V) → ((v : V) → P (Some v) ≡ false → P (Some (f v)) ≡ false) → (es : List (K × V)) → P (lookup p es) ≡ false → P (lookup p (changed_value q f es)) ≡ false
changed_keeps {K = K} {V = V} p q P f h es so = by (lookup q es) refl
  where
    by : (o : Option V) → lookup q es ≡ o → P (lookup p (elim o [ None ↦ es | Some v ↦ set_value q es (f v) ])) ≡ false
    by None is = so
    by (Some v) is = of (set_either q p es v (f v) is)
      where
        of : Either (lookup p es) (lookup p (set_value q es (f v))) v (f v) → P (lookup p (set_value q es (f v))) ≡ false
        of (inl same) = ap P same ∙ so
        of (inr (was, now)) = ap P now ∙ h v (sym (ap P was) ∙ so)

-- a test of keys holds of all after a key that passes is put
pub all_put : {V : Type 0} (test : Voter → Bool) (k : Voter) (v : V) → test k ≡ true → (es : List (Voter × V)) → list_all (λ (e : Voter × V). test e.0) es ≡ true → list_all (λ (e : Voter × V). test e.0) (insert_entry voter_cmp es k v) ≡ true
all_put test k v is [] all = and_from (test k) true is refl
all_put {V = V} test k v is (e ∷ es) all = by (voter_cmp k e.0) (and_first (test e.0) _ all) (and_last (test e.0) _ all) (all_put test k v is es)
  where
    by : (r : Ordering) → test e.0 ≡ true → list_all (λ (f : Voter × V). test f.0) es ≡ true → (list_all (λ (f : Voter × V). test f.0) es ≡ true → list_all (λ (f : Voter × V). test f.0) (insert_entry voter_cmp es k v) ≡ true)
        → list_all (λ (f : Voter × V). test f.0) (match_ordering r ((k, v) ∷ e ∷ es) ((e.0, v) ∷ es) (e ∷ insert_entry voter_cmp es k v)) ≡ true
    by Less its rest more = and_from (test k) _ is (and_from (test e.0) _ its rest)
    by Equal its rest more = and_from (test e.0) _ its rest
    by Greater its rest more = and_from (test e.0) _ its (more rest)

-- what no look-up finds has no entry
pub none_listed : (over : Tid → Bool) (es : List (Voter × OnRecord)) → ((t : Tid) (s : ℕ) → over t ≡ true → lookup (is_at (voter_cmp (voter t s))) es ≡ None) → list_all (λ (e : Voter × OnRecord). not (over e.0.tid)) es ≡ true
none_listed over [] none = refl
none_listed over (e ∷ es) none = and_from (not (over e.0.tid)) _ (head (over e.0.tid) refl) (none_listed over es (λ t s on. rest t s (is_at (voter_cmp (voter t s)) e.0) refl (none t s on)))
  where
    hit : (t : Tid) (s : ℕ) → is_at (voter_cmp (voter t s)) e.0 ≡ true → lookup (is_at (voter_cmp (voter t s))) (e ∷ es) ≡ Some e.1
    hit t s is = rw is refl

    head : (b : Bool) → over e.0.tid ≡ b → not (over e.0.tid) ≡ true
    head false off = not_from_false (over e.0.tid) off
    head true on = absurd (cc (sym (hit e.0.tid e.0.server.0 (ap is_eq (voter_itself e.0))) ∙ none e.0.tid e.0.server.0 on))

    rest : (t : Tid) (s : ℕ) (b : Bool) → is_at (voter_cmp (voter t s)) e.0 ≡ b → lookup (is_at (voter_cmp (voter t s))) (e ∷ es) ≡ None → lookup (is_at (voter_cmp (voter t s))) es ≡ None
    rest t s true is n = absurd (cc (sym (hit t s is) ∙ n))
    rest t s false is n = rw is at n
