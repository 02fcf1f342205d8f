-- As a restart decides a transaction its owner may be told so; and what an owner could be told it can be told still.
use Rattle.qs_world_lawful.proofs.Words.{◌≡◌, ◌⊎◌, inl, inr, ℕ, true, List, [], ◌∷◌, Option, Some, None, fold, refl, sym, ap, subst, ◌∙◌, is_some, slice_get, slice_set, lookup, is_at, tid_cmp, ClientNo, Outcome, Tid, Decided, changed_apart, changed_at_either, changed_at_here, changed_none, lookup_changed, BookValue, changed_at, find_transaction, owner_of, told, told_owner, with_transaction, is_known, TransactionValue, cell_of, decided_at, is_outcome, Owner, Cause, outcome_answer, MayBeTold}
use Rattle.qs_world_lawful.proofs.Words.{same_Some}
use Rattle.qs_book_machine.specs.Book.{decide}
use Rattle.qs_book_machine.specs.Transaction as transaction
use Rattle.qs_world_lawful.proofs.Apart.{Apart, same_or_apart}
use Rattle.qs_world_lawful.proofs.Told.{known_now, known_still}

-- ---- owners

pub told_still : (o : Option ClientNo) (outcome : Outcome) (cause : Option Cause) (owners : List Owner) (client : ℕ) (owner : Owner) → slice_get owners client ≡ Some owner
    → (now : Owner) × (slice_get (told_owner o outcome cause owners) client ≡ Some now) × ((now ≡ owner) ⊎ (now ≡ told outcome cause owner))
told_still None outcome cause owners client owner there = (owner, there, inl refl)
told_still (Some c) outcome cause owners client owner there = by (slice_get owners c.0) refl
  where
    by : (o : Option Owner) → slice_get owners c.0 ≡ o → (now : Owner) × (slice_get (changed_at c.0 (told outcome cause) owners) client ≡ Some now) × ((now ≡ owner) ⊎ (now ≡ told outcome cause owner))
    by None none = (owner, subst (λ (p : Option Owner). slice_get (elim p [ None ↦ owners | Some x ↦ slice_set owners c.0 (told outcome cause x) ]) client ≡ Some owner) (sym none) there, inl refl)
    by (Some v) at = of (changed_at_either (told outcome cause) owners c.0 client v at)
      where
        of : ((client ≡ c.0) × (slice_get owners client ≡ Some v) × (slice_get (changed_at c.0 (told outcome cause) owners) client ≡ Some (told outcome cause v))) ⊎ (slice_get (changed_at c.0 (told outcome cause) owners) client ≡ slice_get owners client)
            → (now : Owner) × (slice_get (changed_at c.0 (told outcome cause) owners) client ≡ Some now) × ((now ≡ owner) ⊎ (now ≡ told outcome cause owner))
        of (inl own) = (told outcome cause v, own.2, inr (ap (told outcome cause) (same_Some v owner (sym own.1 ∙ there))))
        of (inr same) = (owner, same ∙ there, inl refl)

pub may_still : (tid : Tid) (outcome : Outcome) (cause : Option Cause) (book : BookValue) (client : ClientNo) (d : Decided) → MayBeTold book client d → MayBeTold (decide tid outcome cause book) client d
may_still tid outcome cause book client d h =
    let p = told_still (owner_of (find_transaction book tid)) outcome cause book.owners client.0 h.owner h.there in
    record { owner = p.0; there = p.1; known = by p.0 p.2 }
  where
    by : (now : Owner) → (now ≡ h.owner) ⊎ (now ≡ told outcome cause h.owner) → is_known now (outcome_answer d) ≡ true
    by now (inl same) = subst (λ (o : Owner). is_known o (outcome_answer d) ≡ true) (sym same) h.known
    by now (inr more) = subst (λ (o : Owner). is_known o (outcome_answer d) ≡ true) (sym more) (known_still outcome cause h.owner (outcome_answer d) h.known)

-- ---- the owner of one transaction

-- its owner is one of the run's clients
abbrev pub HasOwner : Tid → BookValue → Type 0
HasOwner tid book = (tx : TransactionValue) (client : ClientNo) → find_transaction book tid ≡ Some tx → tx.owner ≡ Some client → is_some (slice_get book.owners client.0) ≡ true

-- where it is decided so its owner may be told
abbrev pub IsToldAs : Tid → Decided → BookValue → Type 0
IsToldAs tid d book = (tx : TransactionValue) (client : ClientNo) → find_transaction book tid ≡ Some tx → is_outcome d.outcome tx.cell ≡ true → tx.owner ≡ Some client → MayBeTold book client d

pub record HoldsOwner (tid : Tid) (d : Decided) (book : BookValue) : Type 0 where
  pub has : HasOwner tid book
  pub told_as : IsToldAs tid d book

-- a transaction is found that was so before, with its cell and its owner
pub owner_changed : (tid t : Tid) (d : Decided) (f : TransactionValue → TransactionValue) → ((tx : TransactionValue) → (f tx).cell ≡ tx.cell) → ((tx : TransactionValue) → (f tx).owner ≡ tx.owner) → (book : BookValue) → HoldsOwner tid d book → HoldsOwner tid d (with_transaction t f book)
owner_changed tid t d f cells owners book h = record {
  has = λ tx client found owned. let w = was tx found in h.has w.0 client w.1 (sym w.2.1 ∙ owned);
  told_as = λ tx client found is owned. let w = was tx found in still client (h.told_as w.0 client w.1 (ap (is_outcome d.outcome) (sym w.2.0) ∙ is) (sym w.2.1 ∙ owned));
}
  where
    still : (client : ClientNo) → MayBeTold book client d → MayBeTold (with_transaction t f book) client d
    still client m = record { owner = m.owner; there = m.there; known = m.known }

    was : (tx : TransactionValue) → find_transaction (with_transaction t f book) tid ≡ Some tx → (old : TransactionValue) × (find_transaction book tid ≡ Some old) × ((tx.cell ≡ old.cell) × (tx.owner ≡ old.owner))
    was tx found = by (same_or_apart t tid)
      where
        own : (o : Option TransactionValue) → find_transaction book tid ≡ o → find_transaction (with_transaction tid f book) tid ≡ Some tx → (old : TransactionValue) × (find_transaction book tid ≡ Some old) × ((tx.cell ≡ old.cell) × (tx.owner ≡ old.owner))
        own None none at = absurd (cc (sym (changed_none (is_at (tid_cmp tid)) f book.transactions none) ∙ at))
        own (Some old) there at =
            let same : f old ≡ tx = same_Some (f old) tx (sym (lookup_changed (is_at (tid_cmp tid)) f book.transactions old there) ∙ at) in
            (old, there, (ap (λ (x : TransactionValue). x.cell) (sym same) ∙ cells old, ap (λ (x : TransactionValue). x.owner) (sym same) ∙ owners old))

        by : (t ≡ tid) ⊎ Apart t tid → (old : TransactionValue) × (find_transaction book tid ≡ Some old) × ((tx.cell ≡ old.cell) × (tx.owner ≡ old.owner))
        by (inl same) = own (find_transaction book tid) refl (subst (λ (u : Tid). find_transaction (with_transaction u f book) tid ≡ Some tx) same found)
        by (inr far) = (tx, sym (changed_apart (is_at (tid_cmp t)) (is_at (tid_cmp tid)) far.keys f book.transactions) ∙ found, (refl, refl))

-- a decision: of it, its outcome and cause are those that are asked for
pub owner_decided : (tid t : Tid) (d : Decided) (outcome : Outcome) (cause : Option Cause) (book : BookValue) → (t ≡ tid → is_outcome d.outcome (cell_of outcome) ≡ true → (d.outcome ≡ outcome) × (d.cause ≡ cause)) → HoldsOwner tid d book → HoldsOwner tid d (decide t outcome cause book)
owner_decided tid t d outcome cause book fits h = record { has = has; told_as = told_as }
  where
    f : TransactionValue → TransactionValue
    f = decided_at book.place outcome cause

    some_still : (client : ℕ) → is_some (slice_get book.owners client) ≡ true → is_some (slice_get (decide t outcome cause book).owners client) ≡ true
    some_still client is = by (slice_get book.owners client) refl
      where
        by : (o : Option Owner) → slice_get book.owners client ≡ o → is_some (slice_get (decide t outcome cause book).owners client) ≡ true
        by None none = absurd (cc (sym is ∙ ap is_some none))
        by (Some owner) there = ap is_some (told_still (owner_of (find_transaction book t)) outcome cause book.owners client owner there).1

    far_found : Apart t tid → find_transaction (decide t outcome cause book) tid ≡ find_transaction book tid
    far_found far = changed_apart (is_at (tid_cmp t)) (is_at (tid_cmp tid)) far.keys f book.transactions

    own_found : t ≡ tid → (tx : TransactionValue) → find_transaction (decide t outcome cause book) tid ≡ Some tx → (old : TransactionValue) × (find_transaction book tid ≡ Some old) × (f old ≡ tx)
    own_found same tx found = by (find_transaction book tid) refl (subst (λ (u : Tid). lookup (is_at (tid_cmp tid)) (transaction.changed_value (is_at (tid_cmp u)) f book.transactions) ≡ Some tx) same found)
      where
        by : (o : Option TransactionValue) → find_transaction book tid ≡ o → lookup (is_at (tid_cmp tid)) (transaction.changed_value (is_at (tid_cmp tid)) f book.transactions) ≡ Some tx → (old : TransactionValue) × (find_transaction book tid ≡ Some old) × (f old ≡ tx)
        by None none at = absurd (cc (sym (changed_none (is_at (tid_cmp tid)) f book.transactions none) ∙ at))
        by (Some old) there at = (old, there, same_Some (f old) tx (sym (lookup_changed (is_at (tid_cmp tid)) f book.transactions old there) ∙ at))

    has : HasOwner tid (decide t outcome cause book)
    has tx client found owned = by (same_or_apart t tid)
      where
        by : (t ≡ tid) ⊎ Apart t tid → is_some (slice_get (decide t outcome cause book).owners client.0) ≡ true
        by (inl same) = let w = own_found same tx found in some_still client.0 (h.has w.0 client w.1 (ap (λ (x : TransactionValue). x.owner) w.2 ∙ owned))
        by (inr far) = some_still client.0 (h.has tx client (sym (far_found far) ∙ found) owned)

    told_as : IsToldAs tid d (decide t outcome cause book)
    told_as tx client found is owned = by (same_or_apart t tid)
      where
        now : t ≡ tid → (old : TransactionValue) → find_transaction book tid ≡ Some old → f old ≡ tx → MayBeTold (decide t outcome cause book) client d
        now same old there e = at (slice_get book.owners client.0) refl
          where
            old_owned : old.owner ≡ Some client
            old_owned = ap (λ (x : TransactionValue). x.owner) e ∙ owned

            both : (d.outcome ≡ outcome) × (d.cause ≡ cause)
            both = fits same (subst (λ (x : TransactionValue). is_outcome d.outcome x.cell ≡ true) (sym e) is)

            owners_are : (decide t outcome cause book).owners ≡ changed_at client.0 (told outcome cause) book.owners
            owners_are = ap (λ (o : Option ClientNo). told_owner o outcome cause book.owners) (ap owner_of (ap (find_transaction book) same ∙ there) ∙ old_owned)

            at : (o : Option Owner) → slice_get book.owners client.0 ≡ o → MayBeTold (decide t outcome cause book) client d
            at None none = absurd (cc (sym (h.has old client there old_owned) ∙ ap is_some none))
            at (Some owner) has_one = record {
              owner = told outcome cause owner;
              there = ap (λ (os : List Owner). slice_get os client.0) owners_are ∙ changed_at_here (told outcome cause) book.owners client.0 owner has_one;
              known = subst (λ (o : Outcome). is_known (told outcome cause owner) (outcome_answer (record { tid = d.tid; outcome = o; cause = d.cause })) ≡ true) (sym both.0)
                  (subst (λ (c : Option Cause). is_known (told outcome cause owner) (outcome_answer (record { tid = d.tid; outcome = outcome; cause = c })) ≡ true) (sym both.1) (known_now d.tid outcome cause owner));
            }

        by : (t ≡ tid) ⊎ Apart t tid → MayBeTold (decide t outcome cause book) client d
        by (inl same) = let w = own_found same tx found in now same w.0 w.1 w.2
        by (inr far) = may_still t outcome cause book client d (h.told_as tx client (sym (far_found far) ∙ found) is owned)

pub owner_fold : {A : Type 0} (tid : Tid) (d : Decided) (f : BookValue → A → BookValue) → ((book : BookValue) (x : A) → HoldsOwner tid d book → HoldsOwner tid d (f book x)) → (xs : List A) (book : BookValue) → HoldsOwner tid d book → HoldsOwner tid d (fold f book xs)
owner_fold tid d f each [] book h = h
owner_fold tid d f each (x ∷ xs) book h = owner_fold tid d f each xs (f book x) (each book x h)
