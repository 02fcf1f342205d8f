-- The invariant of outcomes holds as a run begins, from coherent logs.
use Rattle.qs_book_laws.proofs.Words.{◌≡◌, ℕ, ◌<◌, zero, suc, [], ◌∷◌, Bool, true, false, List, Option, Some, None, fold, map, length, inl, refl, sym, ap, subst, ◌∙◌, arith, slice_get-map, slice_get, All, list_any, option_map, insert_entry, is_at, Equal, tid_cmp, Tid, same_cause, TransactionValue, found_at, BookValue, find_transaction, with_transaction, NodeValue, opened_node, opened_transaction, name_transaction, name_pending, name_all, name_from, opening, member_at, Opened, Pending, Owner}
use Rattle.qs_book_laws.proofs.Words.{IsCoherent}
use Rattle.std.proofs.Common.{replicate}
use Rattle.qs_book_machine.specs.Opening.{no_owner}
use Rattle.qs_book_laws.specs.Laws.{IsEarlier, IsVoteEarlier, IsSound}
use Rattle.qs_book_laws.proofs.Alikes.{at_exact}
use Rattle.qs_book_laws.proofs.Faces.{Face, face, Age, age, Told, told_of, face_at, age_at, told_at, transaction_alike}
use Rattle.qs_book_laws.proofs.Maps.{lookup_put_apart}
use Rattle.qs_book_laws.proofs.Outcomes.{Inv, IsBegun}

-- ---- what holds of each item

pub all_head : {X : Type 0} (P : X → Type 0) (x : X) (xs : List X) → All P (x ∷ xs) → P x
all_head P x xs h = h 0 x (omega arith)

pub all_rest : {X : Type 0} (P : X → Type 0) (x : X) (xs : List X) → All P (x ∷ xs) → All P xs
all_rest P x xs h = λ k d below. h (suc k) d (omega arith)

-- ---- transactions

-- each transaction of the book began before the run; nodes and clients stand as they were
pub record Names (opened : List Opened) (old new : BookValue) : Type 0 where
  pub earlier : (tid : Tid) (seen : Face) → face_at new tid ≡ Some seen → IsEarlier opened tid
  pub nodes : new.nodes ≡ old.nodes
  pub owners : new.owners ≡ old.owners

module _ (opened : List Opened) where
  names_then : (old mid new : BookValue) → Names opened old mid → Names opened mid new → Names opened old new
  names_then old mid new a b = record { earlier = b.earlier; nodes = b.nodes ∙ a.nodes; owners = b.owners ∙ a.owners }

  names_all : {A : Type 0} (P : A → Type 0) (f : BookValue → A → BookValue)
      → ((book : BookValue) (x : A) → P x → ((tid : Tid) (seen : Face) → face_at book tid ≡ Some seen → IsEarlier opened tid) → Names opened book (f book x))
      → (xs : List A) (book : BookValue) → All P xs → ((tid : Tid) (seen : Face) → face_at book tid ≡ Some seen → IsEarlier opened tid) → Names opened book (fold f book xs)
  names_all P f each [] book all early = record { earlier = early; nodes = refl; owners = refl }
  names_all P f each (x ∷ xs) book all early =
      let one : Names opened book (f book x) = each book x (all_head P x xs all) early in
      names_then book (f book x) (fold f (f book x) xs) one (names_all P f each xs (f book x) (all_rest P x xs all) one.earlier)

  name_names : (book : BookValue) (tid : Tid) → IsEarlier opened tid → ((q : Tid) (seen : Face) → face_at book q ≡ Some seen → IsEarlier opened q) → Names opened book (name_transaction book tid)
  name_names book tid is early = by (find_transaction book tid)
    where
      put : BookValue
      put = record book { transactions = insert_entry tid_cmp book.transactions tid (opened_transaction book.nodes tid) }

      exact : (x : Tid) → tid_cmp tid x ≡ Equal → tid ≡ x
      exact x same = at_exact tid x (rw same refl)

      put_early : (q : Tid) (seen : Face) → face_at put q ≡ Some seen → IsEarlier opened q
      put_early q seen h = at (is_at (tid_cmp q) tid) refl
        where
          at : (b : Bool) → is_at (tid_cmp q) tid ≡ b → IsEarlier opened q
          at true same = subst (IsEarlier opened) (sym (at_exact q tid same)) is
          at false other = early q seen (sym (ap (option_map face) (lookup_put_apart tid_cmp tid (opened_transaction book.nodes tid) exact (is_at (tid_cmp q)) other book.transactions)) ∙ h)

      by : (o : Option TransactionValue) → Names opened book (elim o [ Some tx ↦ book | None ↦ put ])
      by None = record { earlier = put_early; nodes = refl; owners = refl }
      by (Some tx) = record { earlier = early; nodes = refl; owners = refl }

  pending_names : (here inc : ℕ) (book : BookValue) (pending : Pending) → IsVoteEarlier opened pending → ((q : Tid) (seen : Face) → face_at book q ≡ Some seen → IsEarlier opened q) → Names opened book (name_pending here inc book pending)
  pending_names here inc book pending is early =
      let named : Names opened book (name_transaction book pending.tid) = name_names book pending.tid is early in
      names_then book (name_transaction book pending.tid) (name_pending here inc book pending) named
      (found_names (name_transaction book pending.tid) named.earlier)
    where
      f : TransactionValue → TransactionValue
      f = found_at (member_at here pending.server.0) inc pending.covers (length pending.changes)

      found_names : (b : BookValue) → ((q : Tid) (seen : Face) → face_at b q ≡ Some seen → IsEarlier opened q) → Names opened b (with_transaction pending.tid f b)
      found_names b early = record {
        earlier = λ q seen h. early q seen (sym ((transaction_alike pending.tid f (λ tx. refl) b).faces q) ∙ h);
        nodes = refl;
        owners = refl;
      }

  log_names : (here : ℕ) (one : Opened) (book : BookValue) → IsSound opened one → ((q : Tid) (seen : Face) → face_at book q ≡ Some seen → IsEarlier opened q) → Names opened book (name_all here one book)
  log_names here one book sound early =
      let named : Names opened book (fold name_transaction book one.committed) = names_all (IsEarlier opened) name_transaction name_names one.committed book sound.committed early in
      names_then book (fold name_transaction book one.committed) (name_all here one book) named
      (names_all (IsVoteEarlier opened) (name_pending here one.inc) (pending_names here one.inc) one.pending (fold name_transaction book one.committed) sound.pending named.earlier)

  logs_name : (here : ℕ) (logs : List Opened) (book : BookValue) → All (IsSound opened) logs → ((q : Tid) (seen : Face) → face_at book q ≡ Some seen → IsEarlier opened q) → Names opened book (name_from here logs book)
  logs_name here [] book sound early = record { earlier = early; nodes = refl; owners = refl }
  logs_name here (one ∷ more) book sound early =
      let named : Names opened book (name_all here one book) = log_names here one book (all_head (IsSound opened) one more sound) early in
      names_then book (name_all here one book) (name_from (suc here) more (name_all here one book)) named
      (logs_name (suc here) more (name_all here one book) (all_rest (IsSound opened) one more sound) named.earlier)

-- ---- the whole

abbrev pub first_book : List Opened → BookValue
first_book opened = record {
  stamp = 0;
  node = 0;
  place = 0;
  nodes = map opened_node opened;
  labels = [];
  transactions = [];
  owners = replicate 256 no_owner;
}

pub opening_names : (opened : List Opened) → IsCoherent opened → Names opened (first_book opened) (opening opened)
opening_names opened coherent = logs_name opened 0 opened (first_book opened) coherent (λ tid seen h. absurd (cc h))

pub same_of : (n i : ℕ) (x t : Owner) → slice_get (replicate n x) i ≡ Some t → t ≡ x
same_of zero i x t h = absurd (cc h)
same_of (suc n) zero x t h = cc h
same_of (suc n) (suc i) x t h = same_of n i x t h

told_first : (client : ℕ) (told : Told) → option_map told_of (slice_get (replicate 256 no_owner) client) ≡ Some told → told ≡ told_of no_owner
told_first client told h = by (slice_get (replicate 256 no_owner) client) refl h
  where
    by : (o : Option Owner) → slice_get (replicate 256 no_owner) client ≡ o → option_map told_of o ≡ Some told → told ≡ told_of no_owner
    by None is h = absurd (cc h)
    by (Some owner) is h = let e : owner ≡ no_owner = same_of 256 client no_owner owner is in cc

opening_begun : (opened : List Opened) → IsCoherent opened → (tid : Tid) (seen : Face) (at : Age) → face_at (opening opened) tid ≡ Some seen → age_at (opening opened) tid.home.0 ≡ Some at → IsBegun tid at
opening_begun opened coherent tid seen at found aged = by (slice_get opened tid.home.0) refl
  where
    names : Names opened (first_book opened) (opening opened)
    names = opening_names opened coherent

    first_aged : option_map age (slice_get (map opened_node opened) tid.home.0) ≡ Some at
    first_aged = ap (λ (ns : List NodeValue). option_map age (slice_get ns tid.home.0)) (sym names.nodes) ∙ aged

    of_log : option_map age (option_map opened_node (slice_get opened tid.home.0)) ≡ Some at
    of_log = ap (option_map age) (sym (slice_get-map opened_node opened tid.home.0)) ∙ first_aged

    by : (o : Option Opened) → slice_get opened tid.home.0 ≡ o → IsBegun tid at
    by None is = absurd (cc (rw is at of_log))
    by (Some home) is =
        let less : tid.inc < home.inc = names.earlier tid seen found home is in
        let e : Some (age (opened_node home)) ≡ Some at = rw is at of_log in
        let inc_is : at ≡ age (opened_node home) = cc in
        rw inc_is (inl less)

pub opening_holds : (opened : List Opened) → IsCoherent opened → Inv (opening opened)
opening_holds opened coherent = record {
  begun = opening_begun opened coherent;
  commits = λ client told is so. absurd (let e : told ≡ told_of no_owner = first client told is in let no : told.committed ≡ false = ap (λ (t : Told). t.committed) e in cc (no, so));
  aborts = λ client told cause is among. absurd (let e : told ≡ told_of no_owner = first client told is in let no : list_any (same_cause cause) told.causes ≡ false = ap (λ (t : Told). list_any (same_cause cause) t.causes) e in cc (no, among));
}
  where
    first : (client : ℕ) (told : Told) → told_at (opening opened) client ≡ Some told → told ≡ told_of no_owner
    first client told is =
        told_first client told (ap (λ (os : List Owner). option_map told_of (slice_get os client)) (sym (opening_names opened coherent).owners) ∙ is)
