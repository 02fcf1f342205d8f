-- How the holders of names follow what the transactions hold.
use Rattle.std.proofs.Common.{◌≡◌, List, [], ◌∷◌, Option, Some, None, refl, sym, ap, ◌∙◌}
use Rattle.std.specs.Prelude.{Bool, true, false, not, cond, ◌&&◌, ◌||◌, if◌then◌else◌, unwrap_or}
use Rattle.std.specs.declared.cmp.Ordering.TheVariants.{Less, Equal, Greater}
use Rattle.std.specs.Ordering.{match_ordering, is_eq}
use Rattle.std.specs.List.{AllByRecursion}
use Rattle.std.specs.List.Sorted.{IsStrictlySortedBy}
use Rattle.std.specs.Map.{lookup, remove_entry, set_value, keys_of}
use Rattle.std.specs.BTreeMap.{insert_entry, is_at}
use Rattle.std.proofs.lemmas.Map.Keys.{sorted_head, sorted_tail}
use Rattle.qs_base.specs.Order.{tid_cmp, same_tid}
use Rattle.qs_base.specs.declared.identifiers.Tid.{Tid}
use Rattle.qs_ops.specs.declared.share.Share.{Share}
use Rattle.qs_ops.specs.Table.{nothing_held, least_other}
use Rattle.qs_book_tables.specs.Held.{share_in}
use Rattle.qs_book_tables.specs.Index.{with_tid, without_tid, first_other, keys_where}
use Rattle.qs_base.proofs.TidOrder.{same_tid-cmp, tid_exact, tid_total, or-true, or-false}

-- the least other of a test is the first other of those that pass it
pub least_other-keys_where : (test : Share → Bool) (me : Tid) (es : List (Tid × Share)) → least_other test me es ≡ first_other me (keys_where test es)
least_other-keys_where test me [] = refl
least_other-keys_where test me (e ∷ es) =
    elim (test e.1) as (λ b. (if not (same_tid me e.0) && b then Some e.0 else least_other test me es) ≡ first_other me (if b then e.0 ∷ keys_where test es else keys_where test es)) [
      | true ↦ elim (not (same_tid me e.0)) as (λ a. (if a && true then Some e.0 else least_other test me es) ≡ cond a (Some e.0) (first_other me (keys_where test es))) [
        | true ↦ refl
        | false ↦ least_other-keys_where test me es
      ]
      | false ↦ elim (not (same_tid me e.0)) as (λ a. (if a && false then Some e.0 else least_other test me es) ≡ first_other me (keys_where test es)) [
        | true ↦ least_other-keys_where test me es
        | false ↦ least_other-keys_where test me es
      ]
    ]

-- ---- a transaction below all others

keys_where-all : (P : Tid → Type 0) (test : Share → Bool) (es : List (Tid × Share)) → AllByRecursion P (keys_of es) → AllByRecursion P (keys_where test es)
keys_where-all P test [] all = tt
keys_where-all P test (e ∷ es) all =
    elim (test e.1) as (λ b. AllByRecursion P (if b then e.0 ∷ keys_where test es else keys_where test es)) [
      | true ↦ (all.0, keys_where-all P test es all.1)
      | false ↦ keys_where-all P test es all.1
    ]

with_tid-below : (tid : Tid) (tids : List Tid) → AllByRecursion (λ t. tid_cmp tid t ≡ Less) tids → with_tid tid tids ≡ tid ∷ tids
with_tid-below tid [] all = refl
with_tid-below tid (t ∷ tids) all = rw all.0 refl

lookup-below : {X : Type 0} (tid : Tid) (es : List (Tid × X)) → AllByRecursion (λ t. tid_cmp tid t ≡ Less) (keys_of es) → lookup (is_at (tid_cmp tid)) es ≡ None
lookup-below tid [] all = refl
lookup-below tid (e ∷ es) all = rw all.0 (lookup-below tid es all.1)

less_all : (s t : Tid) (tids : List Tid) → tid_cmp s t ≡ Less → AllByRecursion (λ x. tid_cmp t x ≡ Less) tids → AllByRecursion (λ x. tid_cmp s x ≡ Less) tids
less_all s t [] lt all = tt
less_all s t (x ∷ tids) lt all = (tid_total.trans s t x lt all.0, less_all s t tids lt all.1)

-- ---- one transaction's share is another

at_equal : (test : Share → Bool) (e : Tid × Share) (es : List (Tid × Share)) (tid : Tid) → tid_cmp tid e.0 ≡ Equal → AllByRecursion (λ t. tid_cmp e.0 t ≡ Less) (keys_of es)
    → e.0 ∷ keys_where test es ≡ with_tid tid (keys_where test (e ∷ es))
at_equal test e es tid is head =
    elim (test e.1) as (λ b. e.0 ∷ keys_where test es ≡ with_tid tid (if b then e.0 ∷ keys_where test es else keys_where test es)) [
      | true ↦ rw is refl
      | false ↦ rw (tid_exact tid e.0 is) (sym (with_tid-below e.0 (keys_where test es) (keys_where-all (λ t. tid_cmp e.0 t ≡ Less) test es head)))
    ]

above : (test : Share → Bool) (e : Tid × Share) (es : List (Tid × Share)) (tid : Tid) → tid_cmp tid e.0 ≡ Greater → (tids : List Tid)
    → tids ≡ with_tid tid (keys_where test es) → (if test e.1 then e.0 ∷ tids else tids) ≡ with_tid tid (keys_where test (e ∷ es))
above test e es tid is tids same =
    elim (test e.1) as (λ b. (if b then e.0 ∷ tids else tids) ≡ with_tid tid (if b then e.0 ∷ keys_where test es else keys_where test es)) [
      | true ↦ rw is (ap (λ l. e.0 ∷ l) same)
      | false ↦ same
    ]

-- with a share that passes, the transaction is there
keys_where-passes : (test : Share → Bool) (es : List (Tid × Share)) (tid : Tid) (share : Share) → IsStrictlySortedBy tid_cmp (keys_of es) → test share ≡ true
    → keys_where test (insert_entry tid_cmp es tid share) ≡ with_tid tid (keys_where test es)
keys_where-passes test [] tid share sorted pass = rw pass refl
keys_where-passes test (e ∷ es) tid share sorted pass =
    let head = sorted_head tid_cmp e.0 (keys_of es) sorted in
    let tail = sorted_tail tid_cmp e.0 (keys_of es) sorted in
    (elim (tid_cmp tid e.0) as (λ o. tid_cmp tid e.0 ≡ o → keys_where test (match_ordering o ((tid, share) ∷ e ∷ es) ((e.0, share) ∷ es) (e ∷ insert_entry tid_cmp es tid share)) ≡ with_tid tid (keys_where test (e ∷ es))) [
      | Less ↦ λ is. rw pass (sym (with_tid-below tid (keys_where test (e ∷ es)) (keys_where-all (λ t. tid_cmp tid t ≡ Less) test (e ∷ es) (is, less_all tid e.0 (keys_of es) is head))))
      | Equal ↦ λ is. rw pass (at_equal test e es tid is head)
      | Greater ↦ λ is. above test e es tid is _ (keys_where-passes test es tid share tail pass)
    ]) refl

-- with a share that answers the test as the old one did, all is as it was
keys_where-answers : (test : Share → Bool) (es : List (Tid × Share)) (tid : Tid) (share : Share) → IsStrictlySortedBy tid_cmp (keys_of es) → test nothing_held ≡ false
    → test share ≡ test (share_in es tid) → keys_where test (insert_entry tid_cmp es tid share) ≡ keys_where test es
keys_where-answers test [] tid share sorted none same = rw (same ∙ none) refl
keys_where-answers test (e ∷ es) tid share sorted none same =
    let head = sorted_head tid_cmp e.0 (keys_of es) sorted in
    let tail = sorted_tail tid_cmp e.0 (keys_of es) sorted in
    (elim (tid_cmp tid e.0) as (λ o. tid_cmp tid e.0 ≡ o → test share ≡ test (unwrap_or (cond (is_eq o) (Some e.1) (lookup (is_at (tid_cmp tid)) es)) nothing_held) → keys_where test (match_ordering o ((tid, share) ∷ e ∷ es) ((e.0, share) ∷ es) (e ∷ insert_entry tid_cmp es tid share)) ≡ keys_where test (e ∷ es)) [
      | Less ↦ λ is alike. rw (alike ∙ ap (λ (o : Option Share). test (unwrap_or o nothing_held)) (lookup-below tid es (less_all tid e.0 (keys_of es) is head)) ∙ none) refl
      | Equal ↦ λ is alike. rw alike refl
      | Greater ↦ λ is alike. ap (λ (l : List Tid). if test e.1 then e.0 ∷ l else l) (keys_where-answers test es tid share tail none alike)
    ]) refl same

-- what a lock makes of the holders, as the share that is served takes the place of the old one
pub keys_where-insert_entry : (test : Share → Bool) (es : List (Tid × Share)) (tid : Tid) (share : Share) (made : Bool) → IsStrictlySortedBy tid_cmp (keys_of es) → test nothing_held ≡ false
    → test share ≡ (test (share_in es tid) || made)
    → keys_where test (insert_entry tid_cmp es tid share) ≡ (if made then with_tid tid (keys_where test es) else keys_where test es)
keys_where-insert_entry test es tid share true sorted none is = keys_where-passes test es tid share sorted (is ∙ or-true (test (share_in es tid)))
keys_where-insert_entry test es tid share false sorted none is = keys_where-answers test es tid share sorted none (is ∙ or-false (test (share_in es tid)))

-- ---- one transaction's share is taken out

keys_where-none : (test : Share → Bool) (es : List (Tid × Share)) (tid : Tid) → lookup (is_at (tid_cmp tid)) es ≡ None → without_tid tid (keys_where test es) ≡ keys_where test es
keys_where-none test [] tid none = refl
keys_where-none test (e ∷ es) tid none =
    (elim (is_eq (tid_cmp tid e.0)) as (λ b. same_tid tid e.0 ≡ b → cond b (Some e.1) (lookup (is_at (tid_cmp tid)) es) ≡ None → without_tid tid (keys_where test (e ∷ es)) ≡ keys_where test (e ∷ es)) [
      | true ↦ λ is bad. absurd (cc)
      | false ↦ λ is rest. elim (test e.1) as (λ b. without_tid tid (if b then e.0 ∷ keys_where test es else keys_where test es) ≡ (if b then e.0 ∷ keys_where test es else keys_where test es)) [
        | true ↦ rw is (ap (λ l. e.0 ∷ l) (keys_where-none test es tid rest))
        | false ↦ keys_where-none test es tid rest
      ]
    ]) (same_tid-cmp tid e.0) none

lookup-rest : (tid : Tid) (e : Tid × Share) (es : List (Tid × Share)) → is_eq (tid_cmp tid e.0) ≡ false → lookup (is_at (tid_cmp tid)) (e ∷ es) ≡ None → lookup (is_at (tid_cmp tid)) es ≡ None
lookup-rest tid e es at gone = rw at at gone

keys_where-taken : (test : Share → Bool) (es : List (Tid × Share)) (tid : Tid) → lookup (is_at (tid_cmp tid)) (remove_entry (is_at (tid_cmp tid)) es) ≡ None
    → keys_where test (remove_entry (is_at (tid_cmp tid)) es) ≡ without_tid tid (keys_where test es)
keys_where-taken test [] tid none = refl
keys_where-taken test (e ∷ es) tid none =
    (elim (is_eq (tid_cmp tid e.0)) as (λ b. same_tid tid e.0 ≡ b → is_eq (tid_cmp tid e.0) ≡ b → lookup (is_at (tid_cmp tid)) (cond b es (e ∷ remove_entry (is_at (tid_cmp tid)) es)) ≡ None → keys_where test (cond b es (e ∷ remove_entry (is_at (tid_cmp tid)) es)) ≡ without_tid tid (keys_where test (e ∷ es))) [
      | true ↦ λ is at gone. elim (test e.1) as (λ b. keys_where test es ≡ without_tid tid (if b then e.0 ∷ keys_where test es else keys_where test es)) [
        | true ↦ rw is (sym (keys_where-none test es tid gone))
        | false ↦ sym (keys_where-none test es tid gone)
      ]
      | false ↦ λ is at gone. let rest = keys_where-taken test es tid (lookup-rest tid e _ at gone) in
          elim (test e.1) as (λ b. (if b then e.0 ∷ keys_where test (remove_entry (is_at (tid_cmp tid)) es) else keys_where test (remove_entry (is_at (tid_cmp tid)) es)) ≡ without_tid tid (if b then e.0 ∷ keys_where test es else keys_where test es)) [
            | true ↦ rw is (ap (λ l. e.0 ∷ l) rest)
            | false ↦ rest
          ]
    ]) (same_tid-cmp tid e.0) refl none

keys_where-left : (test : Share → Bool) (es : List (Tid × Share)) (tid : Tid) → test (share_in es tid) ≡ false
    → keys_where test (remove_entry (is_at (tid_cmp tid)) es) ≡ keys_where test es
keys_where-left test [] tid not_held = refl
keys_where-left test (e ∷ es) tid not_held =
    (elim (is_eq (tid_cmp tid e.0)) as (λ b. test (unwrap_or (cond b (Some e.1) (lookup (is_at (tid_cmp tid)) es)) nothing_held) ≡ false → keys_where test (cond b es (e ∷ remove_entry (is_at (tid_cmp tid)) es)) ≡ keys_where test (e ∷ es)) [
      | true ↦ λ fails. rw fails refl
      | false ↦ λ fails. ap (λ (l : List Tid). if test e.1 then e.0 ∷ l else l) (keys_where-left test es tid fails)
    ]) not_held

pub keys_where-remove_entry : (test : Share → Bool) (es : List (Tid × Share)) (tid : Tid) (held : Bool) → lookup (is_at (tid_cmp tid)) (remove_entry (is_at (tid_cmp tid)) es) ≡ None
    → test (share_in es tid) ≡ held
    → keys_where test (remove_entry (is_at (tid_cmp tid)) es) ≡ (if held then without_tid tid (keys_where test es) else keys_where test es)
keys_where-remove_entry test es tid true none is = keys_where-taken test es tid none
keys_where-remove_entry test es tid false none is = keys_where-left test es tid is

-- ---- a share that is written in its place

pub insert_entry-present : {X : Type 0} (es : List (Tid × X)) (tid : Tid) (old share : X) → IsStrictlySortedBy tid_cmp (keys_of es) → Some old ≡ lookup (is_at (tid_cmp tid)) es
    → set_value (is_at (tid_cmp tid)) es share ≡ insert_entry tid_cmp es tid share
insert_entry-present [] tid old share sorted found = absurd (cc)
insert_entry-present (e ∷ es) tid old share sorted found =
    let head = sorted_head tid_cmp e.0 (keys_of es) sorted in
    let tail = sorted_tail tid_cmp e.0 (keys_of es) sorted in
    (elim (tid_cmp tid e.0) as (λ o. tid_cmp tid e.0 ≡ o → Some old ≡ cond (is_eq o) (Some e.1) (lookup (is_at (tid_cmp tid)) es) → cond (is_eq o) ((e.0, share) ∷ es) (e ∷ set_value (is_at (tid_cmp tid)) es share) ≡ match_ordering o ((tid, share) ∷ e ∷ es) ((e.0, share) ∷ es) (e ∷ insert_entry tid_cmp es tid share)) [
      | Less ↦ λ is there. let gone = lookup-below tid es (less_all tid e.0 (keys_of es) is head) in absurd (cc)
      | Equal ↦ λ is there. refl
      | Greater ↦ λ is there. ap (λ l. e ∷ l) (insert_entry-present es tid old share tail there)
    ]) refl found

-- ---- a share that is taken out and put in again

remove-below : (es : List (Tid × Share)) (tid : Tid) → AllByRecursion (λ t. tid_cmp tid t ≡ Less) (keys_of es) → remove_entry (is_at (tid_cmp tid)) es ≡ es
remove-below [] tid all = refl
remove-below (e ∷ es) tid all = rw (all.0) (ap (λ l. e ∷ l) (remove-below es tid all.1))

insert-below : (es : List (Tid × Share)) (tid : Tid) (share : Share) → AllByRecursion (λ t. tid_cmp tid t ≡ Less) (keys_of es) → insert_entry tid_cmp es tid share ≡ (tid, share) ∷ es
insert-below [] tid share all = refl
insert-below (e ∷ es) tid share all = rw (all.0) refl

pub insert_entry-removed : (es : List (Tid × Share)) (tid : Tid) (share : Share) → IsStrictlySortedBy tid_cmp (keys_of es)
    → insert_entry tid_cmp (remove_entry (is_at (tid_cmp tid)) es) tid share ≡ insert_entry tid_cmp es tid share
insert_entry-removed [] tid share sorted = refl
insert_entry-removed (e ∷ es) tid share sorted =
    let head = sorted_head tid_cmp e.0 (keys_of es) sorted in
    let tail = sorted_tail tid_cmp e.0 (keys_of es) sorted in
    (elim (tid_cmp tid e.0) as (λ o. tid_cmp tid e.0 ≡ o → insert_entry tid_cmp (cond (is_eq o) es (e ∷ remove_entry (is_at (tid_cmp tid)) es)) tid share ≡ match_ordering o ((tid, share) ∷ e ∷ es) ((e.0, share) ∷ es) (e ∷ insert_entry tid_cmp es tid share)) [
      | Less ↦ λ is. rw is (ap (λ l. (tid, share) ∷ e ∷ l) (remove-below es tid (less_all tid e.0 (keys_of es) is head)))
      | Equal ↦ λ is. let same = tid_exact tid e.0 is in rw same (insert-below es e.0 share head)
      | Greater ↦ λ is. rw is (ap (λ l. e ∷ l) (insert_entry-removed es tid share tail))
    ]) refl
