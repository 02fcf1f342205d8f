-- What a restart does to the committed files and notes of its node.
use Rattle.qs_book_laws.proofs.Words.{◌≡◌, ◌⊎◌, ℕ, [], ◌∷◌, ◌++◌, true, false, Bool, ◌&&◌, not, if◌then◌else◌, List, Option, Some, None, fold, inl, inr, refl, sym, ap, subst, ◌∙◌, slice_get, is_some, flat_map, nat_lt, All, AllByRecursion, list_all, option_map, is_at, Outcome, Cause, Tid, Op, Found, TableValue, apply_change, apply_note, restarted, kept, applied, KeptChanges as KeptShare, TransactionValue, decided_at, with_learnt, found_at, BookValue, find_transaction, with_node, with_transaction, decide}
use Rattle.qs_book_laws.proofs.Words.{inc_at, NodeValue, without_record, record_of, pending_at, changes_of, voter, voter_cmp, is_among, member_at, record_at, changes_at, is_kept, is_found_commit, broken_restart, commit_found, vote_found, abort_begun, up_to, begun_at, restarted_node, reopened, restart, with_votes, new_votes, new_votes_at, is_open_here, learn_found, decide_found, begun_tid, without_records, count_of as pending_of, OnRecord, Reopened, Voter, IsCommitted, TakesCommitted}
use Rattle.qs_book_laws.proofs.Words.{LeavesCommitted}
use Rattle.std.proofs.lemmas.List.Elements.{All-cons, All-nil}
use Rattle.qs_base.specs.declared.identifiers.Outcome.TheVariants as outcomes
use Rattle.qs_ops.specs.declared.answer.Cause.TheVariants as causes
use Rattle.qs_book_machine.specs.Restart.{has_record, add_commit, commits_found, votes_once, is_found_vote}
use Rattle.qs_book_laws.specs.Laws.{Given, IsGiven, changes_given}
use Rattle.qs_book_laws.proofs.Faces.{node_alike}
use Rattle.qs_book_laws.proofs.Fates.{AllDid, all_may, did_all, did_over}
use Rattle.qs_book_laws.proofs.Maps.{changed_at_here, changed_at_either}
use Rattle.qs_book_laws.proofs.Outcomes.{Inv, by_alike}
use Rattle.qs_book_laws.proofs.Restarts.{Settles, settles_all, settles_then, commit_settles, vote_settles, abort_settles, votes_age}
use Rattle.qs_book_laws.proofs.FoundOnly.{none_stays_none}
use Rattle.qs_book_laws.proofs.Shut.{Shut, IsShut, Changes, changes_none, remove_changes, shut_step, node_before, by_still}
use Rattle.qs_book_laws.proofs.Steps.{past, passed}
use Rattle.qs_book_laws.proofs.Stills.{Facet, facet, Still, still_self, still_then, transaction_still, either_still}
use Rattle.qs_book_laws.proofs.Takes.{at_node, takes_none, some_same}
use Rattle.qs_book_laws.proofs.Votes.{IsNew, IsHeld, votes_made, votes_change, votes_held, votes_leave}

-- ---- what is given

module _ (P : Tid → Type 0) (last : BookValue) (changes : Tid → List Op) where
  abbrev with_given : (tid : Tid) → IsCommitted last tid ⊎ P tid → List Given → List Given
  with_given tid (inl is) more = record { tid = tid; changes = changes tid } ∷ more
  with_given tid (inr p) more = more

  -- those that are committed, with what the server has of them
  abbrev gives : (tids : List Tid) → AllDid P last tids → List Given
  gives [] all = []
  gives (tid ∷ tids) all = with_given tid all.0 (gives tids all.1)

  all_given : (node : NodeValue) (server : ℕ) → ((tid : Tid) → (changes tid ≡ pending_at node tid server) ⊎ (changes tid ≡ changes_of (record_of node tid server)))
      → (tids : List Tid) (all : AllDid P last tids) → All (IsGiven node server last) (gives tids all)
  all_given node server held [] all = All-nil (IsGiven node server last)
  all_given node server held (tid ∷ tids) all = by all.0 (all_given node server held tids all.1)
    where
      by : (a : IsCommitted last tid ⊎ P tid) → All (IsGiven node server last) (gives tids all.1) → All (IsGiven node server last) (with_given tid a (gives tids all.1))
      by (inl is) more = All-cons (IsGiven node server last) (record { tid = tid; changes = changes tid }) (gives tids all.1) (record { held = held tid; committed = is }) more
      by (inr p) more = more

  -- of the others the server has nothing
  all_changes : ((tid : Tid) → P tid → changes tid ≡ []) → (tids : List Tid) (all : AllDid P last tids) → changes_given (gives tids all) ≡ flat_map changes tids
  all_changes none [] all = refl
  all_changes none (tid ∷ tids) all = by all.0 (all_changes none tids all.1)
    where
      by : (a : IsCommitted last tid ⊎ P tid) → changes_given (gives tids all.1) ≡ flat_map changes tids → changes_given (with_given tid a (gives tids all.1)) ≡ changes tid ++ flat_map changes tids
      by (inl is) more = ap (λ (ops : List Op). changes tid ++ ops) more
      by (inr p) more = more ∙ ap (λ (ops : List Op). ops ++ flat_map changes tids) (sym (none tid p))

-- ---- the tables

kept_leaves : (keeps : List KeptShare) (table : TableValue) → ((fold kept table keeps).contents ≡ table.contents) × ((fold kept table keeps).notes ≡ table.notes)
kept_leaves [] table = (refl, refl)
kept_leaves (k ∷ keeps) table = kept_leaves keeps (kept table k)

pub restarted_is : (table : TableValue) (changes : List Op) (keeps : List KeptShare)
    → ((restarted table changes keeps).contents ≡ fold apply_change table.contents changes) × ((restarted table changes keeps).notes ≡ fold apply_note table.notes changes)
restarted_is table changes keeps = kept_leaves keeps (record (applied table changes) { shares = [] })

-- ---- the node

records_gone : (book : BookValue) (was : Facet) (done : List Tid) (v : NodeValue) → Changes book was (facet v) → Changes book was (facet (fold without_records v done))
records_gone book was [] v changes = changes
records_gone book was (tid ∷ done) v changes = records_gone book was done (without_records v tid) (removed (without_record tid 1 (without_record tid 0 v)) 6 (removed (without_record tid 0 v) 1 (removed v 0 changes)))
  where
    removed : (w : NodeValue) (server : ℕ) → Changes book was (facet w) → Changes book was (facet (without_record tid server w))
    removed w server c = remove_changes book was (facet w) (is_at (voter_cmp (voter tid server))) c

restarted_changes : (book : BookValue) (was : Facet) (left : Reopened) (pend : List Found) (done : List Tid) (v : NodeValue) → Changes book was (facet v) → Changes book was (facet (restarted_node left pend done v))
restarted_changes book was left pend done v changes =
    let gone : Changes book was (facet (fold without_records v done)) = records_gone book was done v changes in
    record {
      committed = gone.committed;
      records = λ tid shut s. none_stays_none pend (fold without_records v done) tid s (gone.records tid shut s);
    }

-- ---- what is found leaves nodes and what was asked for

pub decide_still : (tid : Tid) (outcome : Outcome) (cause : Option Cause) (book : BookValue) → Still book (decide tid outcome cause book)
decide_still tid outcome cause book =
    let s : Still book (with_transaction tid (decided_at book.place outcome cause) book) = transaction_still tid (decided_at book.place outcome cause) (λ tx. refl) book in
    record { asks = s.asks; facets = λ n. refl }

learn_still : (here : ℕ) (tid : Tid) (server : ℕ) (book : BookValue) → Still book (learn_found here tid server book)
learn_still here tid server book =
    either_still (is_some (record_at here book tid server)) book (with_transaction tid (with_learnt (member_at here server)) book) book
    (transaction_still tid (with_learnt (member_at here server)) (λ tx. refl) book) (still_self book)

commit_still : (here : ℕ) (book : BookValue) (tid : Tid) → Still book (commit_found here book tid)
commit_still here book tid =
    let a : BookValue = learn_found here tid 0 book in
    let b : BookValue = learn_found here tid 1 a in
    let c : BookValue = learn_found here tid 6 b in
    let last : Still c (decide_found here tid c) = either_still (is_open_here here tid (find_transaction c tid)) c (decide tid outcomes.Commit None c) c (decide_still tid outcomes.Commit None c) (still_self c) in
    still_then book a (decide_found here tid c) (learn_still here tid 0 book)
    (still_then a b (decide_found here tid c) (learn_still here tid 1 a) (still_then b c (decide_found here tid c) (learn_still here tid 6 b) last))

vote_still : (here inc : ℕ) (done : List Tid) (book : BookValue) (found : Found) → Still book (vote_found here inc done book found)
vote_still here inc done book found =
    let f : TransactionValue → TransactionValue = found_at (member_at here found.server.0) inc found.covers (pending_of (record_at here book found.tid found.server.0)) in
    either_still (is_among done found.tid) book book (with_transaction found.tid f book) (still_self book) (transaction_still found.tid f (λ tx. refl) book)

abort_still : (here inc : ℕ) (book : BookValue) (seq : ℕ) → Still book (abort_begun here inc book seq)
abort_still here inc book seq =
    let tid : Tid = begun_tid here inc seq in
    either_still (is_open_here here tid (find_transaction book tid)) book (decide tid outcomes.Abort (Some (causes.Home inc)) book) book
    (decide_still tid outcomes.Abort (Some (causes.Home inc)) book) (still_self book)

still_all : {A : Type 0} (f : BookValue → A → BookValue) → ((book : BookValue) (x : A) → Still book (f book x)) → (xs : List A) (book : BookValue) → Still book (fold f book xs)
still_all f each [] book = still_self book
still_all f each (x ∷ xs) book = still_then book (f book x) (fold f (f book x) xs) (each book x) (still_all f each xs (f book x))

-- what is on record is no part of files and audit
pub forgot_files : (tids : List Tid) (node : NodeValue) → (fold without_records node tids).files ≡ node.files
forgot_files [] node = refl
forgot_files (tid ∷ tids) node = forgot_files tids (without_records node tid)

pub forgot_audit : (tids : List Tid) (node : NodeValue) → (fold without_records node tids).audit ≡ node.audit
forgot_audit [] node = refl
forgot_audit (tid ∷ tids) node = forgot_audit tids (without_records node tid)

-- ---- the transactions with something on record whose Commits are found

snoc_did : (P : Tid → Type 0) (last : BookValue) (tids : List Tid) (tid : Tid) → AllDid P last tids → IsCommitted last tid ⊎ P tid → AllDid P last (tids ++ tid ∷ [])
snoc_did P last [] tid all one = (one, tt)
snoc_did P last (t ∷ ts) tid all one = (all.0, snoc_did P last ts tid all.1 one)

added_did : (P : Tid → Type 0) (last : BookValue) (here : ℕ) (book : BookValue) (tids some : List Tid) → AllDid P last some → AllDid P last tids → AllDid P last (fold (add_commit here book) some tids)
added_did P last here book [] some had all = had
added_did P last here book (tid ∷ tids) some had all =
    added_did P last here book tids (add_commit here book some tid) (one (has_record here book tid && not (is_among some tid))) all.1
  where
    one : (b : Bool) → AllDid P last (if b then some ++ tid ∷ [] else some)
    one true = snoc_did P last some tid had all.0
    one false = had

-- ---- the restart

module _ (here inc : ℕ) (pend : List Found) (done : List Tid) (book : BookValue) (node : NodeValue)
    (i : Inv book) (shut : Shut book) (at_here : slice_get book.nodes here ≡ Some node) (lawful : list_all (is_found_commit here book node) done ≡ true) where
  abbrev votes : List (Voter × OnRecord)
  votes = new_votes here book pend

  abbrev mid : BookValue
  mid = with_node here (with_votes votes) book

  abbrev v : NodeValue
  v = with_votes votes node

  abbrev committed_book : BookValue
  committed_book = fold (commit_found here) mid done

  abbrev voted_book : BookValue
  voted_book = fold (vote_found here inc done) committed_book pend

  abbrev aborted_book : BookValue
  aborted_book = fold (abort_begun here (inc_at mid (record { 0 = here }))) voted_book (up_to (begun_at here mid))

  abbrev last : BookValue
  last = restart here inc pend done book

  abbrev reopens : NodeValue → NodeValue
  reopens = restarted_node (reopened here inc pend done mid) pend done

  all_new : AllByRecursion (IsNew book node) votes
  all_new = subst (AllByRecursion (IsNew book node)) (ap (λ (o : Option NodeValue). new_votes_at here book o pend) (sym at_here)) (votes_made book here node pend)

  mid_here : slice_get mid.nodes here ≡ Some v
  mid_here = changed_at_here (with_votes votes) book.nodes here node at_here

  mid_inv : Inv mid
  mid_inv = (by_alike book mid i (node_alike here (with_votes votes) (votes_age votes) book)).inv

  mid_shut : Shut mid
  mid_shut =
      shut_step book mid shut (λ tid seen is closed. is) (λ tid at s. s.asks)
      (node_before here (with_votes votes) book node at_here (votes_change book node votes all_new (facet node) node (changes_none book (facet node))))

  committed_settles : Settles mid committed_book
  committed_settles = settles_all (commit_found here) (λ b x. commit_settles here b x) done mid mid_inv

  rest_settles : Settles committed_book aborted_book
  rest_settles =
      let b : Settles committed_book voted_book = settles_all (vote_found here inc done) (λ b x. vote_settles here inc done b x) pend committed_book committed_settles.moves.inv in
      settles_then committed_book voted_book aborted_book b
      (settles_all (abort_begun here (inc_at mid (record { 0 = here }))) (λ b x. abort_settles here (inc_at mid (record { 0 = here })) b x) (up_to (begun_at here mid)) voted_book b.moves.inv)

  aborted_still : Still mid aborted_book
  aborted_still =
      still_then mid committed_book aborted_book (still_all (commit_found here) (λ b x. commit_still here b x) done mid)
      (still_then committed_book voted_book aborted_book (still_all (vote_found here inc done) (λ b x. vote_still here inc done b x) pend committed_book)
      (still_all (abort_begun here (inc_at mid (record { 0 = here }))) (λ b x. abort_still here (inc_at mid (record { 0 = here })) b x) (up_to (begun_at here mid)) voted_book))

  same_nodes : aborted_book.nodes ≡ mid.nodes
  same_nodes = rest_settles.nodes ∙ committed_settles.nodes

  aborted_here : slice_get aborted_book.nodes here ≡ Some v
  aborted_here = ap (λ (ns : List NodeValue). slice_get ns here) same_nodes ∙ mid_here

  aborted_shut : Shut aborted_book
  aborted_shut = by_still mid aborted_book mid_shut (λ tid seen is closed. rest_settles.moves.kept tid seen (committed_settles.moves.kept tid seen is closed) closed) aborted_still

  -- what the log held as the run began stays shut
  pub restart_shut : Shut last
  restart_shut =
      shut_step aborted_book last aborted_shut (λ tid seen is closed. is) (λ tid at s. s.asks)
      (node_before here reopens aborted_book v aborted_here (restarted_changes aborted_book (facet v) (reopened here inc pend done mid) pend done v (changes_none aborted_book (facet v))))

  abbrev InLog : Tid → Type 0
  InLog tid = is_among node.committed tid ≡ true

  pub did : AllDid InLog last done
  did =
      did_over InLog aborted_book last done (λ tid seen is closed. is)
      (did_over InLog committed_book aborted_book done rest_settles.moves.kept (did_all here InLog done mid mid_inv (all_may here book node done lawful)))

  changes_is : (server : ℕ) (tid : Tid) → changes_at here mid server tid ≡ changes_of (record_of v tid server)
  changes_is server tid = ap (λ (o : Option NodeValue). changes_of (elim o [ None ↦ None | Some w ↦ record_of w tid server ])) mid_here

  is_held : (server : ℕ) (tid : Tid) → (changes_at here mid server tid ≡ pending_at node tid server) ⊎ (changes_at here mid server tid ≡ changes_of (record_of node tid server))
  is_held server tid = by (votes_held book node votes all_new node tid server (inr refl))
    where
      by : IsHeld node v tid server → (changes_at here mid server tid ≡ pending_at node tid server) ⊎ (changes_at here mid server tid ≡ changes_of (record_of node tid server))
      by (inl is) = inl (changes_is server tid ∙ is)
      by (inr is) = inr (changes_is server tid ∙ is)

  has_none : (server : ℕ) (tid : Tid) → InLog tid → changes_at here mid server tid ≡ []
  has_none server tid is =
      let s : IsShut mid (facet v) tid = mid_shut here (facet v) tid (ap (option_map facet) mid_here) (ap (λ (tids : List Tid). is_among tids tid) (votes_leave votes node).2 ∙ is) in
      changes_is server tid ∙ ap changes_of (s.records server)

  -- the transactions whose changes are applied
  abbrev applied_tids : List Tid
  applied_tids = commits_found here mid done

  did_applied : AllDid InLog last applied_tids
  did_applied = added_did InLog last here mid done [] tt did

  reopen_takes : TakesCommitted last node (reopens v)
  reopen_takes = record {
    files = gives InLog last (changes_at here mid 0) applied_tids did_applied;
    audit = gives InLog last (changes_at here mid 1) applied_tids did_applied;
    files_given = all_given InLog last (changes_at here mid 0) node 0 (is_held 0) applied_tids did_applied;
    audit_given = all_given InLog last (changes_at here mid 1) node 1 (is_held 1) applied_tids did_applied;
    contents =
        ap (λ (t : TableValue). (restarted t (flat_map (changes_at here mid 0) applied_tids) (reopened here inc pend done mid).files_kept).contents) (forgot_files done v)
        ∙ ((restarted_is v.files (flat_map (changes_at here mid 0) applied_tids) (reopened here inc pend done mid).files_kept).0
        ∙ (ap (λ (t : TableValue). fold apply_change t.contents (flat_map (changes_at here mid 0) applied_tids)) (votes_leave votes node).0
        ∙ ap (fold apply_change node.files.contents) (sym (all_changes InLog last (changes_at here mid 0) (has_none 0) applied_tids did_applied))));
    notes =
        ap (λ (t : TableValue). (restarted t (flat_map (changes_at here mid 1) applied_tids) (reopened here inc pend done mid).audit_kept).notes) (forgot_audit done v)
        ∙ ((restarted_is v.audit (flat_map (changes_at here mid 1) applied_tids) (reopened here inc pend done mid).audit_kept).1
        ∙ (ap (λ (t : TableValue). fold apply_note t.notes (flat_map (changes_at here mid 1) applied_tids)) (votes_leave votes node).1
        ∙ ap (fold apply_note node.audit.notes) (sym (all_changes InLog last (changes_at here mid 1) (has_none 1) applied_tids did_applied))));
  }

  votes_leave_facet : LeavesCommitted node v
  votes_leave_facet = record {
    contents = ap (λ (t : TableValue). t.contents) (votes_leave votes node).0;
    notes = ap (λ (t : TableValue). t.notes) (votes_leave votes node).1;
  }

  -- what was at any node, and what is there then
  pub restart_takes : (n : ℕ) (was at : NodeValue) → slice_get book.nodes n ≡ Some was → slice_get last.nodes n ≡ Some at → TakesCommitted last was at
  restart_takes n was at was_is at_is = by (changed_at_either reopens aborted_book.nodes here n v aborted_here)
    where
      by : ((n ≡ here) × (slice_get aborted_book.nodes n ≡ Some v) × (slice_get last.nodes n ≡ Some (reopens v))) ⊎ (slice_get last.nodes n ≡ slice_get aborted_book.nodes n) → TakesCommitted last was at
      by (inl h) =
          let first : node ≡ was = some_same node was (sym at_here ∙ (ap (slice_get book.nodes) (sym h.0) ∙ was_is)) in
          let then_is : reopens v ≡ at = some_same (reopens v) at (sym h.2 ∙ at_is) in
          subst (λ (w : NodeValue). TakesCommitted last w at) first (subst (λ (w : NodeValue). TakesCommitted last node w) then_is reopen_takes)
      by (inr h) =
          at_node here (with_votes votes) book node (λ a b. TakesCommitted last a b) at_here (takes_none last node v votes_leave_facet)
          (λ w. takes_none last w w (record { contents = refl; notes = refl })) n was at was_is
          (ap (λ (ns : List NodeValue). slice_get ns n) (sym same_nodes) ∙ (sym h ∙ at_is))

pub restart_commits : (here inc : ℕ) (pend : List Found) (done : List Tid) (book : BookValue) (node : NodeValue) → broken_restart here book node inc pend done ≡ None → list_all (is_found_commit here book node) done ≡ true
restart_commits here inc pend done book node h =
    passed (list_all (is_found_commit here book node) done) 113 None
    (past (list_all (is_kept here book pend done) node.records) 112 _
    (past (list_all (is_found_vote here book node done) pend && votes_once pend) 111 _ (past (nat_lt node.inc inc) 110 _ h)))
