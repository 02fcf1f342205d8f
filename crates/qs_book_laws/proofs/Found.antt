-- What a restart makes of what the log of its node holds: pending again, or committed once.
use Rattle.qs_book_laws.proofs.Words.{◌≡◌, ◌⊎◌, ℕ, Bool, true, false, List, [], ◌∷◌, ◌++◌, ◌==◌, ◌||◌, Option, Some, None, inl, inr, refl, sym, ap, subst, ◌∙◌, fold, flat_map, length, nat_le, list_any, list_all, fold-append, lookup, is_at, same_tid, Tid, same_tid-true, same_tid-self, Op, Found, TableValue, share_of, kept, Share, KeptChanges, TransactionValue, BookValue, find_transaction, crossed_in, cell_of_transaction, NodeValue, record_of, voter, voter_cmp, without_record, changes_at, keep_found}
use Rattle.qs_book_laws.proofs.Words.{is_kept_at, is_found_as, is_kept, is_among, without_records, member_at, OnRecord, Voter}
use Rattle.qs_book_machine.specs.declared.transaction.Cell.TheVariants as cells
use Rattle.qs_book_machine.specs.Restart.{may_be_lost}
use Rattle.qs_book_laws.proofs.Alikes.{voter_exact}
use Rattle.qs_book_laws.proofs.Holding.{clash, left_of, right_of}
use Rattle.qs_book_laws.proofs.Shares.{removed_apart, share_put, share_put_other}
use Rattle.qs_book_laws.proofs.Takes.{some_same}
use Rattle.qs_base_lemmas.proofs.Tests.{or_first, or_last}

or_rest : (a b : Bool) → (a || b) ≡ true → a ≡ false → b ≡ true
or_rest true b h no_a = absurd (cc no_a)
or_rest false b h no_a = h

-- ---- records of others

voter_other : (t tid : Tid) (k s : ℕ) → same_tid tid t ≡ false → is_at (voter_cmp (voter t k)) (voter tid s) ≡ false
voter_other t tid k s h = by (is_at (voter_cmp (voter t k)) (voter tid s)) refl
  where
    by : (b : Bool) → is_at (voter_cmp (voter t k)) (voter tid s) ≡ b → b ≡ false
    by false is = refl
    by true is =
        let e : t ≡ tid = ap (λ (v : Voter). v.tid) (voter_exact (voter t k) (voter tid s) is) in
        let self : same_tid tid t ≡ true = subst (λ (x : Tid). same_tid tid x ≡ true) (sym e) (same_tid-self tid) in
        absurd (clash self h)

forgot_one : (t tid : Tid) (k s : ℕ) (v : NodeValue) → same_tid tid t ≡ false → record_of (without_record t k v) tid s ≡ record_of v tid s
forgot_one t tid k s v h = removed_apart (is_at (voter_cmp (voter t k))) (is_at (voter_cmp (voter tid s))) apart v.records
  where
    apart : (x : Voter) → is_at (voter_cmp (voter tid s)) x ≡ true → is_at (voter_cmp (voter t k)) x ≡ false
    apart x is = subst (λ (y : Voter). is_at (voter_cmp (voter t k)) y ≡ false) (voter_exact (voter tid s) x is) (voter_other t tid k s h)

-- what is on record of a transaction whose Commit is not found stays
pub forgot_others : (done : List Tid) (tid : Tid) (s : ℕ) (v : NodeValue) → is_among done tid ≡ false → record_of (fold without_records v done) tid s ≡ record_of v tid s
forgot_others [] tid s v h = refl
forgot_others (t ∷ done) tid s v h =
    let apart : same_tid tid t ≡ false = or_first (same_tid tid t) (is_among done tid) h in
    forgot_others done tid s (without_records v t) (or_last (same_tid tid t) (is_among done tid) h)
    ∙ (forgot_one t tid 6 s (without_record t 1 (without_record t 0 v)) apart
    ∙ (forgot_one t tid 1 s (without_record t 0 v) apart ∙ forgot_one t tid 0 s v apart))

-- ---- what is found of a record

pub entry_passes : {K X : Type 0} (test : K → Bool) (p : K × X → Bool) (es : List (K × X)) (x : X) → lookup test es ≡ Some x → list_all p es ≡ true → (k : K) × (test k ≡ true) × (p (k, x) ≡ true)
entry_passes test p [] x h all = absurd (cc h)
entry_passes {K} {X} test p (e ∷ es) x h all = by (test e.0) refl (entry_passes test p es x)
  where
    by : (b : Bool) → test e.0 ≡ b → (lookup test es ≡ Some x → list_all p es ≡ true → (k : K) × (test k ≡ true) × (p (k, x) ≡ true)) → (k : K) × (test k ≡ true) × (p (k, x) ≡ true)
    by true is more =
        let same : e.1 ≡ x = some_same e.1 x (rw is at h) in
        (e.0, is, subst (λ (y : X). p (e.0, y) ≡ true) same (left_of (p e) (list_all p es) all))
    by false is more = more (rw is at h) (right_of (p e) (list_all p es) all)

pub not_lost : (here : ℕ) (tid : Tid) (o : Option TransactionValue) → cell_of_transaction o ≡ Some cells.Commit → may_be_lost here tid o ≡ false
not_lost here tid None h = absurd (cc h)
not_lost here tid (Some tx) h = let e : tx.cell ≡ cells.Commit = some_same tx.cell cells.Commit h in rw e refl

pub found_in : (here : ℕ) (book : BookValue) (node : NodeValue) (pend : List Found) (done : List Tid) (tid : Tid) (s : ℕ) (rec : OnRecord) → may_be_lost here tid (find_transaction book tid) ≡ false → record_of node tid s ≡ Some rec → is_among done tid ≡ false
    → list_all (is_kept here book pend done) node.records ≡ true → list_any (is_found_as (voter tid s) rec.covers) pend ≡ true
found_in here book node pend done tid s rec kept on_record apart all =
    let at : (k : Voter) × (is_at (voter_cmp (voter tid s)) k ≡ true) × (is_kept here book pend done (k, rec) ≡ true) = entry_passes (is_at (voter_cmp (voter tid s))) (is_kept here book pend done) node.records rec on_record all in
    let same : voter tid s ≡ at.0 = voter_exact (voter tid s) at.0 at.1 in
    let kept_so : is_kept here book pend done (voter tid s, rec) ≡ true = subst (λ (k : Voter). is_kept here book pend done (k, rec) ≡ true) (sym same) at.2 in
    or_rest (is_among done tid) (list_any (is_found_as (voter tid s) rec.covers) pend)
    (or_rest (may_be_lost here tid (find_transaction book tid)) (is_among done tid || list_any (is_found_as (voter tid s) rec.covers) pend) kept_so kept)
    apart

-- ---- what is pending again

module _ (here : ℕ) (mid : BookValue) (s : ℕ) (done : List Tid) (tid : Tid) (covers : ℕ)
    (apart : is_among done tid ≡ false) (plain : crossed_in (find_transaction mid tid) (member_at here s) ≡ false) where
  abbrev logged : List Op
  logged = changes_at here mid s tid

  is_kept_found : (f : Found) → is_found_as (voter tid s) covers f ≡ true → is_kept_at here mid s done f ≡ true
  is_kept_found f h =
      let e : f.tid ≡ tid = same_tid-true f.tid tid (left_of _ _ h) in
      let k : (f.server.0 == s) ≡ true = left_of (f.server.0 == s) (nat_le covers f.covers) (right_of _ _ h) in
      rw (k, e, apart, plain) refl

  keep_more : (f : Found) (b : Bool) → is_kept_at here mid s done f ≡ b → (t : TableValue) → (is_found_as (voter tid s) covers f ≡ true) ⊎ ((share_of t tid).changes ≡ logged)
      → (share_of (fold kept t (keep_found here mid s done f)) tid).changes ≡ logged
  keep_more f true is t had = rw is (by (same_tid f.tid tid) refl had)
    where
      one : KeptChanges
      one = record { tid = f.tid; changes = changes_at here mid s f.tid }

      share : Share
      share = record { changes = changes_at here mid s f.tid; reads = []; operations = length (changes_at here mid s f.tid); voted = false }

      by : (c : Bool) → same_tid f.tid tid ≡ c → (is_found_as (voter tid s) covers f ≡ true) ⊎ ((share_of t tid).changes ≡ logged) → (share_of (kept t one) tid).changes ≡ logged
      by true same had =
          let e : f.tid ≡ tid = same_tid-true f.tid tid same in
          subst (λ (x : Tid). (share_of (kept t one) x).changes ≡ changes_at here mid s x) e (ap (λ (x : Share). x.changes) (share_put t f.tid share))
      by false other (inl found) = absurd (clash (left_of _ _ found) other)
      by false other (inr same) = ap (λ (x : Share). x.changes) (share_put_other t f.tid tid share other) ∙ same
  keep_more f false is t (inl found) = absurd (clash (is_kept_found f found) is)
  keep_more f false is t (inr same) = rw is same

  keep_other : (f : Found) (b : Bool) → is_found_as (voter tid s) covers f ≡ false → is_kept_at here mid s done f ≡ b → (t : TableValue) → (share_of t tid).changes ≡ logged → (share_of (fold kept t (keep_found here mid s done f)) tid).changes ≡ logged
  keep_other f b no_found is t same = keep_more f b is t (inr same)

  pub pending_again : (pend : List Found) (t : TableValue) → (list_any (is_found_as (voter tid s) covers) pend ≡ true) ⊎ ((share_of t tid).changes ≡ logged)
      → (share_of (fold kept t (flat_map (keep_found here mid s done) pend)) tid).changes ≡ logged
  pending_again [] t (inl h) = absurd (cc h)
  pending_again [] t (inr h) = h
  pending_again (f ∷ pend) t had =
      let joined : fold kept t (keep_found here mid s done f ++ flat_map (keep_found here mid s done) pend) ≡ fold kept (fold kept t (keep_found here mid s done f)) (flat_map (keep_found here mid s done) pend) = fold-append kept t (keep_found here mid s done f) (flat_map (keep_found here mid s done) pend) in
      ap (λ (x : TableValue). (share_of x tid).changes) joined ∙ pending_again pend (fold kept t (keep_found here mid s done f)) (by had (is_found_as (voter tid s) covers f) refl)
    where
      by : (list_any (is_found_as (voter tid s) covers) (f ∷ pend) ≡ true) ⊎ ((share_of t tid).changes ≡ logged) → (c : Bool) → is_found_as (voter tid s) covers f ≡ c
          → (list_any (is_found_as (voter tid s) covers) pend ≡ true) ⊎ ((share_of (fold kept t (keep_found here mid s done f)) tid).changes ≡ logged)
      by (inr same) c is = inr (keep_more f (is_kept_at here mid s done f) refl t (inr same))
      by (inl any) true is = inr (keep_more f (is_kept_at here mid s done f) refl t (inl is))
      by (inl any) false is = inl (or_rest (is_found_as (voter tid s) covers f) (list_any (is_found_as (voter tid s) covers) pend) any is)
