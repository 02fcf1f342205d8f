-- As a run begins, from coherent logs, the transactions of their Commits are shut.
use Rattle.qs_book_laws.proofs.Words.{◌≡◌, ◌⊎◌, ℕ, zero, suc, [], ◌∷◌, ◌||◌, Bool, true, false, List, Option, Some, None, fold, length, inl, inr, refl, sym, ap, subst, ◌∙◌, if◌then◌else◌, slice_get-map, slice_get, nat_lt, All, AllByRecursion, list_any, lookup, option_map, insert_entry, is_at, match_ordering, Ordering, Less, Equal, Greater, tid_cmp, same_tid, Tid, TransactionValue, is_open, is_commit, found_at, BookValue, find_transaction, with_transaction, NodeValue, voter, voter_cmp, opened_node}
use Rattle.qs_book_laws.proofs.Words.{opened_transaction, name_transaction, name_pending, name_all, name_from, put_record, opening, is_among, member_at, Opened, Pending, OnRecord, Voter, IsCoherent}
use Rattle.std.specs.BTreeSet.{insert_key}
use Rattle.qs_ops.specs.declared.answer.Cause.TheVariants as causes
use Rattle.qs_book_machine.specs.Transaction.{opened_as}
use Rattle.qs_book_machine.specs.declared.transaction.Cell.TheVariants as cells
use Rattle.qs_book_machine.specs.Opening.{has_commit, put_tid}
use Rattle.qs_book_laws.specs.Laws.{IsSound, HasNoCommit}
use Rattle.qs_book_laws.proofs.Alikes.{all_among, tid_itself, at_exact, voter_exact, voter_equal}
use Rattle.qs_book_laws.proofs.Faces.{Face, face, face_at, transaction_alike}
use Rattle.qs_book_laws.proofs.Maps.{lookup_put, lookup_put_apart}
use Rattle.qs_book_laws.proofs.Openings.{all_head, all_rest, first_book, opening_names}
use Rattle.qs_book_laws.proofs.Shut.{Shut}
use Rattle.qs_book_laws.proofs.Stills.{Facet, facet, facet_at, asked_of, asks_at, transaction_still}
use Rattle.std.proofs.lemmas.Bool.{or_cases}

-- ---- transactions

-- Commit was asked for of none. The cell is commit where a log of the run has the Commit, and not open where the home is
-- in the run.
pub record Fresh (book : BookValue) : Type 0 where
  pub unasked : (tid : Tid) (asked : Option ℕ) → asks_at book tid ≡ Some asked → asked ≡ None
  pub committed : (tid : Tid) (seen : Face) → face_at book tid ≡ Some seen → list_any (has_commit tid) book.nodes ≡ true → is_commit seen.cell ≡ true
  pub closed : (tid : Tid) (seen : Face) → face_at book tid ≡ Some seen → nat_lt tid.home.0 (length book.nodes) ≡ true → is_open seen.cell ≡ false

-- and what stood in the book stands there still, on the same nodes
pub record Opens (old new : BookValue) : Type 0 where
  pub fresh : Fresh new
  pub found : (tid : Tid) → asks_at old tid ≡ Some None → asks_at new tid ≡ Some None
  pub nodes : new.nodes ≡ old.nodes

abbrev pub AllFound : BookValue → List Tid → Type 0
AllFound book tids = AllByRecursion (λ tid. asks_at book tid ≡ Some None) tids

opens_then : (old mid new : BookValue) → Opens old mid → Opens mid new → Opens old new
opens_then old mid new a b = record { fresh = b.fresh; found = λ tid is. b.found tid (a.found tid is); nodes = b.nodes ∙ a.nodes }

opens_self : (book : BookValue) → Fresh book → Opens book book
opens_self book fresh = record { fresh = fresh; found = λ tid is. is; nodes = refl }

pub opens_all : {A : Type 0} (f : BookValue → A → BookValue) → ((book : BookValue) (x : A) → Fresh book → Opens book (f book x)) → (xs : List A) (book : BookValue) → Fresh book → Opens book (fold f book xs)
opens_all f each [] book fresh = opens_self book fresh
opens_all f each (x ∷ xs) book fresh =
    let one : Opens book (f book x) = each book x fresh in
    opens_then book (f book x) (fold f (f book x) xs) one (opens_all f each xs (f book x) one.fresh)

-- none of them was asked for, and each has its outcome where the run knows it
abbrev opened_by : Tid → Bool → Bool → TransactionValue
opened_by tid found known =
    if found then opened_as cells.Commit None
    else if known then opened_as cells.Abort (Some (causes.Home tid.inc))
    else opened_as cells.Open None

opened_closed : (nodes : List NodeValue) (tid : Tid) → nat_lt tid.home.0 (length nodes) ≡ true → is_open (opened_transaction nodes tid).cell ≡ false
opened_closed nodes tid is = rw is (by (list_any (has_commit tid) nodes))
  where
    by : (b : Bool) → is_open (opened_by tid b true).cell ≡ false
    by true = refl
    by false = refl

opened_commit : (nodes : List NodeValue) (tid : Tid) → list_any (has_commit tid) nodes ≡ true → is_commit (opened_transaction nodes tid).cell ≡ true
opened_commit nodes tid is = rw is refl

opened_unasked : (nodes : List NodeValue) (tid : Tid) → (opened_transaction nodes tid).asked ≡ None
opened_unasked nodes tid = by (list_any (has_commit tid) nodes) (nat_lt tid.home.0 (length nodes))
  where
    by : (a b : Bool) → (opened_by tid a b).asked ≡ None
    by true b = refl
    by false true = refl
    by false false = refl

module _ (book : BookValue) (tid : Tid) (fresh : Fresh book) where
  abbrev one_tx : TransactionValue
  one_tx = opened_transaction book.nodes tid

  abbrev put : BookValue
  put = record book { transactions = insert_entry tid_cmp book.transactions tid one_tx }

  exact : (x : Tid) → tid_cmp tid x ≡ Equal → tid ≡ x
  exact x same = at_exact tid x (rw same refl)

  put_here : find_transaction put tid ≡ Some one_tx
  put_here = lookup_put tid_cmp tid one_tx (tid_itself tid) book.transactions

  put_other : (q : Tid) → is_at (tid_cmp q) tid ≡ false → find_transaction put q ≡ find_transaction book q
  put_other q other = lookup_put_apart tid_cmp tid one_tx exact (is_at (tid_cmp q)) other book.transactions

  put_asks : asks_at put tid ≡ Some None
  put_asks = ap (option_map asked_of) put_here ∙ ap Some (opened_unasked book.nodes tid)

  put_unasked : (q : Tid) (asked : Option ℕ) → asks_at put q ≡ Some asked → asked ≡ None
  put_unasked q asked is = by (is_at (tid_cmp q) tid) refl
    where
      by : (b : Bool) → is_at (tid_cmp q) tid ≡ b → asked ≡ None
      by true same = let here : asks_at put q ≡ Some None = ap (asks_at put) (at_exact q tid same) ∙ put_asks in cc (here, is)
      by false other = fresh.unasked q asked (ap (option_map asked_of) (sym (put_other q other)) ∙ is)

  -- what is seen of it is what the opening gave
  put_seen : (q : Tid) (seen : Face) → face_at put q ≡ Some seen → q ≡ tid → face one_tx ≡ seen
  put_seen q seen is q_is =
      let here : Some (face one_tx) ≡ Some seen = ap (option_map face) (sym put_here) ∙ (ap (face_at put) (sym q_is) ∙ is) in
      cc

  put_committed : (q : Tid) (seen : Face) → face_at put q ≡ Some seen → list_any (has_commit q) book.nodes ≡ true → is_commit seen.cell ≡ true
  put_committed q seen is among = by (is_at (tid_cmp q) tid) refl
    where
      by : (b : Bool) → is_at (tid_cmp q) tid ≡ b → is_commit seen.cell ≡ true
      by true same =
          let q_is : q ≡ tid = at_exact q tid same in
          ap (λ (f : Face). is_commit f.cell) (sym (put_seen q seen is q_is)) ∙ opened_commit book.nodes tid (ap (λ (t : Tid). list_any (has_commit t) book.nodes) (sym q_is) ∙ among)
      by false other = fresh.committed q seen (ap (option_map face) (sym (put_other q other)) ∙ is) among

  put_closed : (q : Tid) (seen : Face) → face_at put q ≡ Some seen → nat_lt q.home.0 (length book.nodes) ≡ true → is_open seen.cell ≡ false
  put_closed q seen is in_run = by (is_at (tid_cmp q) tid) refl
    where
      by : (b : Bool) → is_at (tid_cmp q) tid ≡ b → is_open seen.cell ≡ false
      by true same =
          let q_is : q ≡ tid = at_exact q tid same in
          ap (λ (f : Face). is_open f.cell) (sym (put_seen q seen is q_is)) ∙ opened_closed book.nodes tid (ap (λ (t : Tid). nat_lt t.home.0 (length book.nodes)) (sym q_is) ∙ in_run)
      by false other = fresh.closed q seen (ap (option_map face) (sym (put_other q other)) ∙ is) in_run

  put_found : (q : Tid) → asks_at book q ≡ Some None → asks_at put q ≡ Some None
  put_found q is = by (is_at (tid_cmp q) tid) refl
    where
      by : (b : Bool) → is_at (tid_cmp q) tid ≡ b → asks_at put q ≡ Some None
      by true same = ap (asks_at put) (at_exact q tid same) ∙ put_asks
      by false other = ap (option_map asked_of) (put_other q other) ∙ is

  pub name_opens : Opens book (name_transaction book tid)
  name_opens = by (find_transaction book tid)
    where
      by : (o : Option TransactionValue) → Opens book (elim o [ Some tx ↦ book | None ↦ put ])
      by None = record { fresh = record { unasked = put_unasked; committed = put_committed; closed = put_closed }; found = put_found; nodes = refl }
      by (Some tx) = opens_self book fresh

  -- it stands in the book then
  pub named : asks_at (name_transaction book tid) tid ≡ Some None
  named = by (find_transaction book tid) refl
    where
      by : (o : Option TransactionValue) → find_transaction book tid ≡ o → asks_at (elim o [ Some tx ↦ book | None ↦ put ]) tid ≡ Some None
      by None is = put_asks
      by (Some tx) is =
          let asks : asks_at book tid ≡ Some tx.asked = ap (option_map asked_of) is in
          asks ∙ ap Some (fresh.unasked tid tx.asked asks)

all_named : (tids : List Tid) (book : BookValue) → Fresh book → AllFound (fold name_transaction book tids) tids
all_named [] book fresh = tt
all_named (tid ∷ tids) book fresh =
    let one : Opens book (name_transaction book tid) = name_opens book tid fresh in
    let rest : Opens (name_transaction book tid) (fold name_transaction (name_transaction book tid) tids) = opens_all name_transaction (λ b t f. name_opens b t f) tids (name_transaction book tid) one.fresh in
    (rest.found tid (named book tid fresh), all_named tids (name_transaction book tid) one.fresh)

pub pending_opens : (here inc : ℕ) (book : BookValue) (pending : Pending) → Fresh book → Opens book (name_pending here inc book pending)
pending_opens here inc book pending fresh =
    let one : Opens book (name_transaction book pending.tid) = name_opens book pending.tid fresh in
    opens_then book (name_transaction book pending.tid) (name_pending here inc book pending) one (at (name_transaction book pending.tid) one.fresh)
  where
    f : TransactionValue → TransactionValue
    f = found_at (member_at here pending.server.0) inc pending.covers (length pending.changes)

    at : (b : BookValue) → Fresh b → Opens b (with_transaction pending.tid f b)
    at b fresh = record {
      fresh = record {
        unasked = λ q asked is. fresh.unasked q asked (sym ((transaction_still pending.tid f (λ tx. refl) b).asks q) ∙ is);
        committed = λ q seen is among. fresh.committed q seen (sym ((transaction_alike pending.tid f (λ tx. refl) b).faces q) ∙ is) among;
        closed = λ q seen is in_run. fresh.closed q seen (sym ((transaction_alike pending.tid f (λ tx. refl) b).faces q) ∙ is) in_run;
      };
      found = λ q is. (transaction_still pending.tid f (λ tx. refl) b).asks q ∙ is;
      nodes = refl;
    }

found_over : (old new : BookValue) (tids : List Tid) → Opens old new → AllFound old tids → AllFound new tids
found_over old new [] o all = tt
found_over old new (tid ∷ tids) o all = (o.found tid all.0, found_over old new tids o all.1)

pub log_opens : (here : ℕ) (one : Opened) (book : BookValue) → Fresh book → Opens book (name_all here one book)
log_opens here one book fresh =
    let first : Opens book (fold name_transaction book one.committed) = opens_all name_transaction (λ b t f. name_opens b t f) one.committed book fresh in
    opens_then book (fold name_transaction book one.committed) (name_all here one book) first
    (opens_all (name_pending here one.inc) (λ b p f. pending_opens here one.inc b p f) one.pending (fold name_transaction book one.committed) first.fresh)

log_found : (here : ℕ) (one : Opened) (book : BookValue) → Fresh book → AllFound (name_all here one book) one.committed
log_found here one book fresh =
    let first : Opens book (fold name_transaction book one.committed) = opens_all name_transaction (λ b t f. name_opens b t f) one.committed book fresh in
    found_over (fold name_transaction book one.committed) (name_all here one book) one.committed
    (opens_all (name_pending here one.inc) (λ b p f. pending_opens here one.inc b p f) one.pending (fold name_transaction book one.committed) first.fresh)
    (all_named one.committed book fresh)

pub logs_open : (here : ℕ) (logs : List Opened) (book : BookValue) → Fresh book → Opens book (name_from here logs book)
logs_open here [] book fresh = opens_self book fresh
logs_open here (one ∷ more) book fresh =
    let first : Opens book (name_all here one book) = log_opens here one book fresh in
    opens_then book (name_all here one book) (name_from (suc here) more (name_all here one book)) first (logs_open (suc here) more (name_all here one book) first.fresh)

logs_found : (here : ℕ) (logs : List Opened) (book : BookValue) → Fresh book → AllByRecursion (λ one. AllFound (name_from here logs book) one.committed) logs
logs_found here [] book fresh = tt
logs_found here (one ∷ more) book fresh =
    let first : Opens book (name_all here one book) = log_opens here one book fresh in (
      found_over (name_all here one book) (name_from (suc here) more (name_all here one book)) one.committed (logs_open (suc here) more (name_all here one book) first.fresh) (log_found here one book fresh),
      logs_found (suc here) more (name_all here one book) first.fresh,
    )

-- ---- nodes

insert_among : (q t : Tid) (tids : List Tid) → list_any (same_tid q) (insert_key tid_cmp tids t) ≡ true → (same_tid q t ≡ true) ⊎ (list_any (same_tid q) tids ≡ true)
insert_among q t [] h = or_cases (same_tid q t) false h
insert_among q t (x ∷ tids) h = by (tid_cmp t x) h (insert_among q t tids)
  where
    by : (r : Ordering) → list_any (same_tid q) (match_ordering r (t ∷ x ∷ tids) (x ∷ tids) (x ∷ insert_key tid_cmp tids t)) ≡ true
        → (list_any (same_tid q) (insert_key tid_cmp tids t) ≡ true → (same_tid q t ≡ true) ⊎ (list_any (same_tid q) tids ≡ true))
        → (same_tid q t ≡ true) ⊎ ((same_tid q x || list_any (same_tid q) tids) ≡ true)
    by Less h more = or_cases (same_tid q t) (same_tid q x || list_any (same_tid q) tids) h
    by Equal h more = inr h
    by Greater h more = further (same_tid q x) h
      where
        further : (b : Bool) → (b || list_any (same_tid q) (insert_key tid_cmp tids t)) ≡ true → (same_tid q t ≡ true) ⊎ ((b || list_any (same_tid q) tids) ≡ true)
        further true h = inr refl
        further false h = more h

among_put : (q : Tid) (tids acc : List Tid) → is_among (fold put_tid acc tids) q ≡ true → (is_among acc q ≡ true) ⊎ (is_among tids q ≡ true)
among_put q [] acc h = inl h
among_put q (t ∷ tids) acc h = by (among_put q tids (put_tid acc t) h)
  where
    at : (same_tid q t ≡ true) ⊎ (is_among acc q ≡ true) → (is_among acc q ≡ true) ⊎ ((same_tid q t || is_among tids q) ≡ true)
    at (inl is) = inr (rw is refl)
    at (inr is) = inl is

    later : (b : Bool) → is_among tids q ≡ true → (b || is_among tids q) ≡ true
    later true h = refl
    later false h = h

    by : (is_among (put_tid acc t) q ≡ true) ⊎ (is_among tids q ≡ true) → (is_among acc q ≡ true) ⊎ ((same_tid q t || is_among tids q) ≡ true)
    by (inl is) = at (insert_among q t acc is)
    by (inr is) = inr (later (same_tid q t) is)

-- a transaction with a Commit in the log has no vote pending in it
none_pending : (one : Opened) (tid : Tid) → is_among one.committed tid ≡ true → (server : ℕ) (pending : List Pending) → All (HasNoCommit one) pending
    → (es : List (Voter × OnRecord)) → lookup (is_at (voter_cmp (voter tid server))) es ≡ None → lookup (is_at (voter_cmp (voter tid server))) (fold put_record es pending) ≡ None
none_pending one tid among server [] all es none = none
none_pending one tid among server (p ∷ pending) all es none =
    none_pending one tid among server pending (all_rest (HasNoCommit one) p pending all) (put_record es p) (by (is_at (voter_cmp (voter tid server)) (voter p.tid p.server.0)) refl)
  where
    exact : (x : Voter) → voter_cmp (voter p.tid p.server.0) x ≡ Equal → voter p.tid p.server.0 ≡ x
    exact x same = voter_equal (voter p.tid p.server.0) x same

    by : (b : Bool) → is_at (voter_cmp (voter tid server)) (voter p.tid p.server.0) ≡ b → lookup (is_at (voter_cmp (voter tid server))) (put_record es p) ≡ None
    by true same =
        let tid_is : tid ≡ p.tid = ap (λ (v : Voter). v.tid) (voter_exact (voter tid server) (voter p.tid p.server.0) same) in
        let has : is_among one.committed p.tid ≡ true = ap (is_among one.committed) (sym tid_is) ∙ among in
        let none : is_among one.committed p.tid ≡ false = all_head (HasNoCommit one) p pending all in
        absurd (cc (has, none))
    by false other = lookup_put_apart voter_cmp (voter p.tid p.server.0) (record { changes = p.changes; covers = p.covers; pending = length p.changes }) exact (is_at (voter_cmp (voter tid server))) other es ∙ none

-- ---- the whole

pub first_fresh : (opened : List Opened) → Fresh (first_book opened)
first_fresh opened = record { unasked = λ tid asked is. absurd (cc is); committed = λ tid seen is among. absurd (cc is); closed = λ tid seen is in_run. absurd (cc is) }

pub opening_opens : (opened : List Opened) → Opens (first_book opened) (opening opened)
opening_opens opened = logs_open 0 opened (first_book opened) (first_fresh opened)

-- the log of one of the nodes has it
any_node : (nodes : List NodeValue) (n : ℕ) (tid : Tid) (node : NodeValue) → slice_get nodes n ≡ Some node → is_among node.committed tid ≡ true → list_any (has_commit tid) nodes ≡ true
any_node [] n tid node is among = absurd (cc is)
any_node (x ∷ nodes) zero tid node is among = let same : x ≡ node = cc in rw (same, among) refl
any_node (x ∷ nodes) (suc n) tid node is among = by (has_commit tid x) (any_node nodes n tid node is among)
  where
    by : (b : Bool) → list_any (has_commit tid) nodes ≡ true → (b || list_any (has_commit tid) nodes) ≡ true
    by true h = refl
    by false h = h

node_of : (o : Option NodeValue) (at : Facet) → option_map facet o ≡ Some at → (node : NodeValue) × (o ≡ Some node) × (facet node ≡ at)
node_of None at h = absurd (cc h)
node_of (Some node) at h = (node, refl, cc h)

pub of_logs : (P : Opened → Type 0) (logs : List Opened) (n : ℕ) (one : Opened) → AllByRecursion P logs → slice_get logs n ≡ Some one → P one
of_logs P [] n one all is = absurd (cc is)
of_logs P (x ∷ logs) zero one all is = let same : x ≡ one = cc in subst P same all.0
of_logs P (x ∷ logs) (suc n) one all is = of_logs P logs n one all.1 is

of_sound : (P : Opened → Type 0) (logs : List Opened) (n : ℕ) (one : Opened) → All P logs → slice_get logs n ≡ Some one → P one
of_sound P [] n one all is = absurd (cc is)
of_sound P (x ∷ logs) zero one all is = let same : x ≡ one = cc in subst P same (all_head P x logs all)
of_sound P (x ∷ logs) (suc n) one all is = of_sound P logs n one (all_rest P x logs all) is

log_of : (o : Option Opened) (at : Facet) → option_map facet (option_map opened_node o) ≡ Some at → (one : Opened) × (o ≡ Some one) × (facet (opened_node one) ≡ at)
log_of None at h = absurd (cc h)
log_of (Some one) at h = (one, refl, cc h)

pub opening_shut : (opened : List Opened) → IsCoherent opened → Shut (opening opened)
opening_shut opened coherent n at tid is among =
    let l : (one : Opened) × (slice_get opened n ≡ Some one) × (facet (opened_node one) ≡ at) = log_at n at is in
    let in_log : is_among l.0.committed tid ≡ true = in_one l.0 (ap (λ (f : Facet). is_among f.committed tid) l.2 ∙ among) in
    record {
      asks = all_among (λ t. asks_at (opening opened) t ≡ Some None) l.0.committed tid (of_logs (λ one. AllFound (opening opened) one.committed) opened n l.0 (logs_found 0 opened (first_book opened) (first_fresh opened)) l.1) in_log;
      committed = λ seen found.
          let v : (node : NodeValue) × (slice_get (opening opened).nodes n ≡ Some node) × (facet node ≡ at) = node_of (slice_get (opening opened).nodes n) at is in
          (opening_opens opened).fresh.committed tid seen found
          (any_node (opening opened).nodes n tid v.0 v.1 (ap (λ (f : Facet). is_among f.committed tid) v.2 ∙ among));
      records = λ server. ap (λ (f : Facet). lookup (is_at (voter_cmp (voter tid server))) f.records) (sym l.2)
          ∙ none_pending l.0 tid in_log server l.0.pending (of_sound (IsSound opened) opened n l.0 coherent l.1).apart [] refl;
    }
  where
    log_at : (m : ℕ) (f : Facet) → facet_at (opening opened) m ≡ Some f → (one : Opened) × (slice_get opened m ≡ Some one) × (facet (opened_node one) ≡ f)
    log_at m f is =
        log_of (slice_get opened m) f
        (ap (option_map facet) (sym (slice_get-map opened_node opened m)) ∙ (ap (λ (ns : List NodeValue). option_map facet (slice_get ns m)) (sym (opening_names opened coherent).nodes) ∙ is))

    in_one : (one : Opened) → is_among (fold put_tid [] one.committed) tid ≡ true → is_among one.committed tid ≡ true
    in_one one h = by (among_put tid one.committed [] h)
      where
        by : (is_among [] tid ≡ true) ⊎ (is_among one.committed tid ≡ true) → is_among one.committed tid ≡ true
        by (inl none) = absurd (cc none)
        by (inr is) = is
