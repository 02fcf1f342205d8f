-- An index from names to holders: what one change of its entries does, and how it follows the shares.
use Rattle.std.proofs.Common.{◌≡◌, ℕ, zero, suc, ◌+◌, ◌<◌, take, get_or, arith, length, List, [], ◌∷◌, Option, Result, Ok, Err, refl, sym, ap, ◌∙◌}
use Rattle.std.specs.Prelude.{Bool, true, false, not, cond, ◌||◌, if◌then◌else◌, OnErr}
use Rattle.std.specs.Bool.{OnTrue, OnFalse}
use Rattle.std.specs.declared.cmp.Ordering.TheVariants.{Less, Equal, Greater}
use Rattle.std.specs.Ordering.{match_ordering, ordering_then, nat_cmp, is_eq}
use Rattle.std.specs.Cmp.{IsTotalOrder, unsigned_ties, both_tied}
use Rattle.std.specs.Cmp.Lexicographic.{texts_ties}
use Rattle.std.specs.List.{list_any}
use Rattle.std.specs.Map.{lookup}
use Rattle.std.specs.Set.{remove_key}
use Rattle.std.specs.BTreeMap.{is_at}
use Rattle.std.specs.BTreeSet.{BTreeSet}
use Rattle.std.proofs.lemmas.Cmp.{nat_cmp_total, on_total, then_total, tied_itself}
use Rattle.std.proofs.lemmas.Map.Lookups.{exact_bytes, exact_unsigned, exact_pairs}
use Rattle.qs_base.proofs.TidOrder.{same_tid-cmp, tid_total, or-false}
use Rattle.qs_base.specs.Order.{bytes_cmp, same_bytes, tid_cmp, same_tid}
use Rattle.qs_base.specs.declared.identifiers.Tid.{Tid}
use Rattle.qs_book_tables.specs.Index.{Index, tids_of, holders_of, with_tid, without_tid, ChangesHolders, SameHolders}

pub on_err_always : {T E P : Type 0} (r : Result T E) → P → OnErr r P
on_err_always (Ok x) p = tt
on_err_always (Err e) p = p

-- ---- one change of the entries

if-same : {X : Type 0} (b : Bool) (x : X) → (if b then x else x) ≡ x
if-same true x = refl
if-same false x = refl

pub on_false_weaker : {P Q : Type 0} (b : Bool) → (P → Q) → OnFalse b P → OnFalse b Q
on_false_weaker true f p = tt
on_false_weaker false f p = f p

or-right : (a b : Bool) → a ≡ false → a || b ≡ false → b ≡ false
or-right true b e h = absurd (cc)
or-right false b e h = h

-- an index whose entry at one name is w has there what w has
pub changes_from_lookup : (old new : Index) (name : List ℕ) (change : List Tid → List Tid) (w : Option (BTreeSet Tid))
    → ((q : List ℕ) → lookup (is_at (bytes_cmp q)) new ≡ cond (is_at (bytes_cmp name) q) w (lookup (is_at (bytes_cmp q)) old))
    → tids_of w ≡ change (holders_of old name)
    → ChangesHolders (same_bytes name) change old new
changes_from_lookup old new name change w entry is q =
    rw (texts_ties name q, ap tids_of (entry q))
    ((elim (bytes_cmp name q) as (λ o. bytes_cmp name q ≡ o → tids_of (cond (is_eq o) w (lookup (is_at (bytes_cmp q)) old)) ≡ (if is_eq o then change (holders_of old q) else holders_of old q)) [
      | Less ↦ λ at. refl
      | Equal ↦ λ at. is ∙ ap (λ (n : List ℕ). change (holders_of old n)) (exact_bytes name q at)
      | Greater ↦ λ at. refl
    ]) refl)

-- the holders are the same where the entry at one name is another with the same holders
pub same_from_lookup : (old new : Index) (name : List ℕ) (w : Option (BTreeSet Tid))
    → ((q : List ℕ) → lookup (is_at (bytes_cmp q)) new ≡ cond (is_at (bytes_cmp name) q) w (lookup (is_at (bytes_cmp q)) old))
    → tids_of w ≡ holders_of old name
    → SameHolders old new
same_from_lookup old new name w entry is q =
    changes_from_lookup old new name (λ tids. tids) w entry is q ∙ if-same (same_bytes name q) (holders_of old q)

pub changes_then_same : (old mid new : Index) (test : List ℕ → Bool) (change : List Tid → List Tid)
    → ChangesHolders test change old mid → SameHolders mid new → ChangesHolders test change old new
changes_then_same old mid new test change first second q = second q ∙ first q

-- ---- taking a transaction out

without_tid-none : (tid : Tid) (tids : List Tid) → list_any (is_at (tid_cmp tid)) tids ≡ false → without_tid tid tids ≡ tids
without_tid-none tid [] none = refl
without_tid-none tid (t ∷ tids) none =
    rw (same_tid-cmp tid t)
    ((elim (is_eq (tid_cmp tid t)) as (λ b. b || list_any (is_at (tid_cmp tid)) tids ≡ false → cond (not b) (t ∷ without_tid tid tids) (without_tid tid tids) ≡ t ∷ tids) [
      | true ↦ λ bad. absurd (cc)
      | false ↦ λ rest. ap (λ l. t ∷ l) (without_tid-none tid tids rest)
    ]) none)

pub without_tid-remove_key : (tid : Tid) (tids : List Tid) → list_any (is_at (tid_cmp tid)) (remove_key (is_at (tid_cmp tid)) tids) ≡ false
    → remove_key (is_at (tid_cmp tid)) tids ≡ without_tid tid tids
without_tid-remove_key tid [] none = refl
without_tid-remove_key tid (t ∷ tids) none =
    rw (same_tid-cmp tid t)
    ((elim (is_eq (tid_cmp tid t)) as (λ b. is_eq (tid_cmp tid t) ≡ b → list_any (is_at (tid_cmp tid)) (cond b tids (t ∷ remove_key (is_at (tid_cmp tid)) tids)) ≡ false → cond b tids (t ∷ remove_key (is_at (tid_cmp tid)) tids) ≡ cond (not b) (t ∷ without_tid tid tids) (without_tid tid tids)) [
      | true ↦ λ at gone. sym (without_tid-none tid tids gone)
      | false ↦ λ at gone. ap (λ l. t ∷ l) (without_tid-remove_key tid tids (or-right (is_eq (tid_cmp tid t)) _ at gone))
    ]) refl none)

pub nil_from_length : {X : Type 0} (xs : List X) → length xs ≡ 0 → xs ≡ []
nil_from_length [] e = refl
nil_from_length (x ∷ xs) e = absurd (omega arith)

-- ---- several names, one after another

without_tid-twice : (tid : Tid) (tids : List Tid) → without_tid tid (without_tid tid tids) ≡ without_tid tid tids
without_tid-twice tid [] = refl
without_tid-twice tid (t ∷ tids) =
    (elim (not (same_tid tid t)) as (λ b. not (same_tid tid t) ≡ b → without_tid tid (cond b (t ∷ without_tid tid tids) (without_tid tid tids)) ≡ cond b (t ∷ without_tid tid tids) (without_tid tid tids)) [
      | true ↦ λ e. rw e (ap (λ l. t ∷ l) (without_tid-twice tid tids))
      | false ↦ λ e. without_tid-twice tid tids
    ]) refl

two_steps : (tid : Tid) (a b : Bool) (tids : List Tid)
    → (if b then without_tid tid (if a then without_tid tid tids else tids) else (if a then without_tid tid tids else tids)) ≡ (if a || b then without_tid tid tids else tids)
two_steps tid true true tids = without_tid-twice tid tids
two_steps tid true false tids = refl
two_steps tid false true tids = refl
two_steps tid false false tids = refl

-- a transaction that is taken out at some names and then at others
pub without_tid-more : (tid : Tid) (old mid new : Index) (first second both : List ℕ → Bool)
    → ChangesHolders first (without_tid tid) old mid
    → ChangesHolders second (without_tid tid) mid new
    → ((q : List ℕ) → both q ≡ (first q || second q))
    → ChangesHolders both (without_tid tid) old new
without_tid-more tid old mid new first second both f s b q =
    s q ∙ ap (λ (l : List Tid). if second q then without_tid tid l else l) (f q) ∙ two_steps tid (first q) (second q) (holders_of old q) ∙ ap (λ (c : Bool). if c then without_tid tid (holders_of old q) else holders_of old q) (sym (b q))

with_tid-twice : (tid : Tid) (tids : List Tid) → with_tid tid (with_tid tid tids) ≡ with_tid tid tids
with_tid-twice tid [] = rw (tied_itself tid_total tid) refl
with_tid-twice tid (t ∷ tids) =
    (elim (tid_cmp tid t) as (λ o. tid_cmp tid t ≡ o → with_tid tid (match_ordering o (tid ∷ t ∷ tids) (t ∷ tids) (t ∷ with_tid tid tids)) ≡ match_ordering o (tid ∷ t ∷ tids) (t ∷ tids) (t ∷ with_tid tid tids)) [
      | Less ↦ λ is. rw (tied_itself tid_total tid) refl
      | Equal ↦ λ is. rw is refl
      | Greater ↦ λ is. rw is (ap (λ l. t ∷ l) (with_tid-twice tid tids))
    ]) refl

two_adds : (tid : Tid) (a b : Bool) (tids : List Tid)
    → (if b then with_tid tid (if a then with_tid tid tids else tids) else (if a then with_tid tid tids else tids)) ≡ (if a || b then with_tid tid tids else tids)
two_adds tid true true tids = with_tid-twice tid tids
two_adds tid true false tids = refl
two_adds tid false true tids = refl
two_adds tid false false tids = refl

-- a transaction that is put in at some names and then at others
pub with_tid-more : (tid : Tid) (old mid new : Index) (first second both : List ℕ → Bool)
    → ChangesHolders first (with_tid tid) old mid
    → ChangesHolders second (with_tid tid) mid new
    → ((q : List ℕ) → both q ≡ (first q || second q))
    → ChangesHolders both (with_tid tid) old new
with_tid-more tid old mid new first second both f s b q =
    s q ∙ ap (λ (l : List Tid). if second q then with_tid tid l else l) (f q) ∙ two_adds tid (first q) (second q) (holders_of old q) ∙ ap (λ (c : Bool). if c then with_tid tid (holders_of old q) else holders_of old q) (sym (b q))

pub list_any-take_more : {X : Type 0} (test : X → Bool) (xs : List X) (i : ℕ) (x : X) → i < length xs → x ≡ get_or xs i x → list_any test (take (i + 1) xs) ≡ (list_any test (take i xs) || test x)
list_any-take_more test [] i x lt is = absurd (omega arith)
list_any-take_more test (y ∷ xs) zero x lt is = or-false (test y) ∙ ap test (sym is)
list_any-take_more test (y ∷ xs) (suc i) x lt is =
    let e : suc i + 1 ≡ suc (i + 1) = omega arith in
    rw e
    (elim (test y) as (λ b. b || list_any test (take (i + 1) xs) ≡ ((b || list_any test (take i xs)) || test x)) [
      | true ↦ refl
      | false ↦ list_any-take_more test xs i x (omega arith) is
    ])

-- ---- a lock that is taken and given back

list_any-same_tid : (tid : Tid) (tids : List Tid) → list_any (is_at (tid_cmp tid)) tids ≡ list_any (same_tid tid) tids
list_any-same_tid tid [] = refl
list_any-same_tid tid (t ∷ tids) = ap (λ (b : Bool). b || list_any (is_at (tid_cmp tid)) tids) (sym (same_tid-cmp tid t)) ∙ ap (λ (b : Bool). same_tid tid t || b) (list_any-same_tid tid tids)

without_tid-with_tid : (tid : Tid) (tids : List Tid) → list_any (is_at (tid_cmp tid)) tids ≡ false → without_tid tid (with_tid tid tids) ≡ tids
without_tid-with_tid tid [] none = rw (same_tid-cmp tid tid ∙ ap is_eq (tied_itself tid_total tid)) refl
without_tid-with_tid tid (t ∷ tids) none =
    (elim (tid_cmp tid t) as (λ o. tid_cmp tid t ≡ o → without_tid tid (match_ordering o (tid ∷ t ∷ tids) (t ∷ tids) (t ∷ with_tid tid tids)) ≡ t ∷ tids) [
      | Less ↦ λ is. rw (same_tid-cmp tid tid ∙ ap is_eq (tied_itself tid_total tid)) (without_tid-none tid (t ∷ tids) none)
      | Equal ↦ λ is. without_tid-none tid (t ∷ tids) none
      | Greater ↦ λ is. rw (same_tid-cmp tid t ∙ ap is_eq is) (ap (λ l. t ∷ l) (without_tid-with_tid tid tids (or-right (is_eq (tid_cmp tid t)) _ (ap is_eq is) none)))
    ]) refl

taken_back : (tid : Tid) (b : Bool) (tids : List Tid) → (b ≡ true → list_any (same_tid tid) tids ≡ false)
    → (if b then without_tid tid (if b then with_tid tid tids else tids) else (if b then with_tid tid tids else tids)) ≡ tids
taken_back tid true tids none = without_tid-with_tid tid tids (list_any-same_tid tid tids ∙ none refl)
taken_back tid false tids none = refl

pub same_from_taken_back : (tid : Tid) (test : List ℕ → Bool) (old mid new : Index)
    → ChangesHolders test (with_tid tid) old mid
    → ChangesHolders test (without_tid tid) mid new
    → ((q : List ℕ) → test q ≡ true → list_any (same_tid tid) (holders_of old q) ≡ false)
    → SameHolders old new
same_from_taken_back tid test old mid new f s fresh q =
    s q ∙ ap (λ (l : List Tid). if test q then without_tid tid l else l) (f q) ∙ taken_back tid (test q) (holders_of old q) (fresh q)
