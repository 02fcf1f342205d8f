-- A restart takes up what is on record of a committed transaction: pending again, or committed once.
use Rattle.qs_book_laws.proofs.Words.{◌≡◌, ◌⊎◌, ℕ, Bool, true, false, not, List, [], ◌∷◌, ◌++◌, ◌&&◌, ◌||◌, Option, Some, None, inl, inr, refl, sym, ap, subst, ◌∙◌, fold, if◌then◌else◌, slice_get, flat_map, is_some, nat_lt, list_all, AllByRecursion, is_at, append_assoc, same_tid, Member, Tid, same_tid-true, same_tid-self, Act, Entry, Found, TableValue, applied, restarted, apply_change, apply_note, BookValue, find_transaction, changed_at, crossed_in, is_in_order, broken_at, broken, effect_act}
use Rattle.qs_book_laws.proofs.Words.{effect, NodeValue, pending_at, record_of, changes_of, voter, voter_cmp, restart, reopened, restarted_node, put_new_votes, new_votes, new_votes_at, with_votes, record_at, changes_at, is_kept, broken_restart, is_among, member_at, is_found, without_records, OnRecord, Voter, IsCommitted, crossed_at, keeps_contents, or_right}
use Rattle.qs_book_journal.specs.declared.entry.Act.TheVariants as acts
use Rattle.qs_book_machine.specs.Restart.{with_vote, is_found_vote, votes_once, add_commit, commits_found, has_record}
use Rattle.qs_book_laws.specs.Served.{logged_at, IsLogged, PendsAgain, CommitsOnce}
use Rattle.qs_book_laws.proofs.Alikes.{voter_exact, voter_equal, voter_itself}
use Rattle.qs_book_laws.proofs.Ends.{held_there}
use Rattle.qs_book_laws.proofs.FoundOnly.{found_stays, found_with}
use Rattle.qs_book_laws.proofs.Found.{found_in, not_lost, forgot_others, pending_again}
use Rattle.qs_book_laws.proofs.Holding.{which, restart_nodes}
use Rattle.qs_book_laws.proofs.Maps.{changed_at_here, lookup_put, lookup_put_apart}
use Rattle.qs_book_laws.proofs.Reopens.{restarted_is, forgot_files, forgot_audit}
use Rattle.qs_book_laws.proofs.Shares.{number}
use Rattle.qs_book_laws.proofs.Steps.{held, unheld, passed, past}
use Rattle.qs_book_laws.proofs.Takes.{some_same, some_of}
use Rattle.qs_book_laws.proofs.Votes.{IsNew, IsHeld, votes_made, votes_held, votes_leave}

-- ---- the node of a lawful restart

at_down : (book : BookValue) (stamp here : ℕ) (o : Option NodeValue) (inc : ℕ) (pend : List Found) (done : List Tid) → broken_at book stamp here o (acts.Restart inc pend done) ≡ None
    → (node : NodeValue) × (o ≡ Some node) × (broken_restart here book node inc pend done ≡ None)
at_down book stamp here None inc pend done h = absurd (cc h)
at_down book stamp here (Some node) inc pend done h = (node, refl, unheld node.up 2 (broken_restart here book node inc pend done) h)

pub restart_node : (book : BookValue) (entry : Entry) (here inc : ℕ) (pend : List Found) (done : List Tid) → broken book entry ≡ None → entry.act ≡ acts.Restart inc pend done → entry.node.0 ≡ here
    → (node : NodeValue) × (slice_get book.nodes here ≡ Some node) × (broken_restart here book node inc pend done ≡ None)
restart_node book entry here inc pend done h is e =
    at_down book entry.stamp here (slice_get book.nodes here) inc pend done
    (subst (λ (a : Act). broken_at book entry.stamp here (slice_get book.nodes here) a ≡ None) is
    (subst (λ (n : ℕ). broken_at book entry.stamp n (slice_get book.nodes n) entry.act ≡ None) e (held (is_in_order book entry) 1 _ h).1))

pub effect_nodes : (book : BookValue) (entry : Entry) (here inc : ℕ) (pend : List Found) (done : List Tid) → entry.act ≡ acts.Restart inc pend done → entry.node.0 ≡ here → (effect book entry).nodes ≡ (restart here inc pend done book).nodes
effect_nodes book entry here inc pend done is e =
    ap (λ (a : Act). (effect_act entry.stamp entry.node.0 a book).nodes) is ∙ ap (λ (n : ℕ). (restart n inc pend done book).nodes) e

-- ---- what the log holds

pub votes_new : (book : BookValue) (here : ℕ) (node : NodeValue) (pend : List Found) → slice_get book.nodes here ≡ Some node → AllByRecursion (IsNew book node) (new_votes here book pend)
votes_new book here node pend at = subst (AllByRecursion (IsNew book node)) (ap (λ (o : Option NodeValue). new_votes_at here book o pend) (sym at)) (votes_made book here node pend)

pub logged_there : (book : BookValue) (pend : List Found) (tid : Tid) (member : Member) (node : NodeValue) → slice_get book.nodes member.node.0 ≡ Some node
    → logged_at book pend tid member ≡ record_of (with_votes (new_votes member.node.0 book pend) node) tid member.server.0
logged_there book pend tid member node at = ap on_record (changed_at_here (with_votes (new_votes member.node.0 book pend)) book.nodes member.node.0 node at)
  where
    on_record : Option NodeValue → Option OnRecord
    on_record o = elim o [ None ↦ None | Some v ↦ record_of v tid member.server.0 ]

pub record_there : (book : BookValue) (tid : Tid) (here s : ℕ) (node : NodeValue) → slice_get book.nodes here ≡ Some node → record_at here book tid s ≡ record_of node tid s
record_there book tid here s node at = ap on_record at
  where
    on_record : Option NodeValue → Option OnRecord
    on_record o = elim o [ None ↦ None | Some v ↦ record_of v tid s ]

pub is_logged : (book : BookValue) (entry : Entry) (inc : ℕ) (pend : List Found) (done : List Tid) (tid : Tid) (member : Member) → broken book entry ≡ None → entry.act ≡ acts.Restart inc pend done → entry.node.0 ≡ member.node.0
    → IsLogged book pend tid member
is_logged book entry inc pend done tid member h is e =
    let at : (node : NodeValue) × (slice_get book.nodes member.node.0 ≡ Some node) × (broken_restart member.node.0 book node inc pend done ≡ None) = restart_node book entry member.node.0 inc pend done h is e in
    of at.0 at.1 (votes_held book at.0 (new_votes member.node.0 book pend) (votes_new book member.node.0 at.0 pend at.1) at.0 tid member.server.0 (inr refl))
  where
    of : (node : NodeValue) → slice_get book.nodes member.node.0 ≡ Some node → IsHeld node (with_votes (new_votes member.node.0 book pend) node) tid member.server.0 → IsLogged book pend tid member
    of node at (inl pending) = inr (ap changes_of (logged_there book pend tid member node at) ∙ (pending ∙ sym (held_there book tid member node at)))
    of node at (inr same) = inl (ap changes_of (logged_there book pend tid member node at) ∙ (same ∙ ap changes_of (sym (record_there book tid member.node.0 member.server.0 node at))))

-- what is on record stays so as votes are put there
votes_add : (votes : List (Voter × OnRecord)) (v : NodeValue) (tid : Tid) (s : ℕ) → is_some (record_of v tid s) ≡ true → is_some (record_of (with_votes votes v) tid s) ≡ true
votes_add [] v tid s h = h
votes_add (vote ∷ votes) v tid s h = votes_add votes (with_vote v vote) tid s (by (is_at (voter_cmp (voter tid s)) vote.0) refl)
  where
    by : (b : Bool) → is_at (voter_cmp (voter tid s)) vote.0 ≡ b → is_some (record_of (with_vote v vote) tid s) ≡ true
    by true same =
        let e : voter tid s ≡ vote.0 = voter_exact (voter tid s) vote.0 same in
        let put : record_of (with_vote v vote) vote.0.tid vote.0.server.0 ≡ Some vote.1 = lookup_put voter_cmp vote.0 vote.1 (voter_itself vote.0) v.records in
        subst (λ (w : Voter). is_some (record_of (with_vote v vote) w.tid w.server.0) ≡ true) (sym e) (ap (λ (o : Option OnRecord). is_some o) put)
    by false other =
        let same : record_of (with_vote v vote) tid s ≡ record_of v tid s = lookup_put_apart voter_cmp vote.0 vote.1 (λ x. voter_equal vote.0 x) (is_at (voter_cmp (voter tid s))) other v.records in
        ap (λ (o : Option OnRecord). is_some o) same ∙ h

-- ---- pending again

pub kept_rule : (here inc : ℕ) (pend : List Found) (done : List Tid) (book : BookValue) (node : NodeValue) → broken_restart here book node inc pend done ≡ None → list_all (is_kept here book pend done) node.records ≡ true
kept_rule here inc pend done book node h =
    passed (list_all (is_kept here book pend done) node.records) 112 _
    (past (list_all (is_found_vote here book node done) pend && votes_once pend) 111 _ (past (nat_lt node.inc inc) 110 _ h))

module _ (here inc : ℕ) (pend : List Found) (done : List Tid) (book : BookValue) (node : NodeValue) (at : slice_get book.nodes here ≡ Some node) where
  abbrev mid : BookValue
  mid = put_new_votes here pend book

  abbrev v : NodeValue
  v = with_votes (new_votes here book pend) node

  abbrev reopens : NodeValue → NodeValue
  reopens = restarted_node (reopened here inc pend done mid) pend done

  pub reopened_there : slice_get (restart here inc pend done book).nodes here ≡ Some (reopens v)
  reopened_there =
      ap (λ (nodes : List NodeValue). slice_get nodes here) (restart_nodes here inc pend done book)
      ∙ changed_at_here reopens (changed_at here (with_votes (new_votes here book pend)) book.nodes) here v (changed_at_here (with_votes (new_votes here book pend)) book.nodes here node at)

  pub pends : (b : Bool) (tid : Tid) (rec : OnRecord) → broken_restart here book node inc pend done ≡ None → IsCommitted book tid → crossed_in (find_transaction book tid) (member_at here (number b)) ≡ false
      → record_of node tid (number b) ≡ Some rec → is_among done tid ≡ false → pending_at (reopens v) tid (number b) ≡ changes_at here mid (number b) tid
  pends true tid rec h committed plain on_record apart =
      pending_again here mid 0 done tid rec.covers apart plain pend
      (record (applied (fold without v done).files (reopened here inc pend done mid).files) { shares = [] })
      (inl (found_in here book node pend done tid 0 rec (not_lost here tid (find_transaction book tid) committed) on_record apart (kept_rule here inc pend done book node h)))
    where
      without : NodeValue → Tid → NodeValue
      without w t = without_records w t
  pends false tid rec h committed plain on_record apart =
      pending_again here mid 1 done tid rec.covers apart plain pend
      (record (applied (fold without v done).audit (reopened here inc pend done mid).audit) { shares = [] })
      (inl (found_in here book node pend done tid 1 rec (not_lost here tid (find_transaction book tid) committed) on_record apart (kept_rule here inc pend done book node h)))
    where
      without : NodeValue → Tid → NodeValue
      without w t = without_records w t

pub pends_again : (book : BookValue) (entry : Entry) (inc : ℕ) (pend : List Found) (done : List Tid) (tid : Tid) (member : Member) → keeps_contents member.server.0 ≡ true → broken book entry ≡ None
    → entry.act ≡ acts.Restart inc pend done → entry.node.0 ≡ member.node.0 → IsCommitted book tid → crossed_at book tid member ≡ false → is_some (record_at member.node.0 book tid member.server.0) ≡ true → is_among done tid ≡ false
    → PendsAgain book (effect book entry) pend tid member
pends_again book entry inc pend done tid member keeps h is e committed plain recorded apart =
    let there : (node : NodeValue) × (slice_get book.nodes member.node.0 ≡ Some node) × (broken_restart member.node.0 book node inc pend done ≡ None) = restart_node book entry member.node.0 inc pend done h is e in
    let w : (b : Bool) × (member.server.0 ≡ number b) = which member.server.0 keeps in
    let r : (rec : OnRecord) × (record_at member.node.0 book tid member.server.0 ≡ Some rec) = some_of (record_at member.node.0 book tid member.server.0) recorded in
    let last : NodeValue = restarted_node (reopened member.node.0 inc pend done (put_new_votes member.node.0 pend book)) pend done (with_votes (new_votes member.node.0 book pend) there.0) in
    let last_there : slice_get (effect book entry).nodes member.node.0 ≡ Some last =
    ap (λ (nodes : List NodeValue). slice_get nodes member.node.0) (effect_nodes book entry member.node.0 inc pend done is e) ∙ reopened_there member.node.0 inc pend done book there.0 there.1 in
    let same_record : record_of there.0 tid (number w.0) ≡ Some r.0 =
    subst (λ (s : ℕ). record_of there.0 tid s ≡ Some r.0) w.1 (sym (record_there book tid member.node.0 member.server.0 there.0 there.1) ∙ r.1) in
    let pending : pending_at last tid (number w.0) ≡ changes_at member.node.0 (put_new_votes member.node.0 pend book) (number w.0) tid =
    pends member.node.0 inc pend done book there.0 there.1 w.0 tid r.0 there.2 committed (subst (λ (s : ℕ). crossed_in (find_transaction book tid) (member_at member.node.0 s) ≡ false) w.1 plain) same_record apart in
    let was_on_record : record_of there.0 tid member.server.0 ≡ Some r.0 = sym (record_there book tid member.node.0 member.server.0 there.0 there.1) ∙ r.1 in
    let found : is_found pend (voter tid member.server.0) ≡ true =
    found_with pend (voter tid member.server.0) r.0.covers
    (found_in member.node.0 book there.0 pend done tid member.server.0 r.0 (not_lost member.node.0 tid (find_transaction book tid) committed) was_on_record apart (kept_rule member.node.0 inc pend done book there.0 there.2)) in
    record {
      pending =
          held_there (effect book entry) tid member last last_there
          ∙ subst (λ (s : ℕ). pending_at last tid s ≡ changes_at member.node.0 (put_new_votes member.node.0 pend book) s tid) (sym w.1) pending;
      on_record =
          record_there (effect book entry) tid member.node.0 member.server.0 last last_there
          ∙ (found_stays pend (fold without_records (with_votes (new_votes member.node.0 book pend) there.0) done) tid member.server.0 found
          ∙ (forgot_others done tid member.server.0 (with_votes (new_votes member.node.0 book pend) there.0) apart
          ∙ sym (logged_there book pend tid member there.0 there.1)));
    }

-- ---- committed once

abbrev Once : Tid → List Tid → Type 0
Once tid xs = (first rest : List Tid) × (xs ≡ first ++ (tid ∷ rest)) × (is_among first tid ≡ false) × (is_among rest tid ≡ false)

among_snoc : (xs : List Tid) (tid t : Tid) → is_among xs tid ≡ false → same_tid tid t ≡ false → is_among (xs ++ t ∷ []) tid ≡ false
among_snoc [] tid t h other = rw other refl
among_snoc (x ∷ xs) tid t h other = by (same_tid tid x) (is_among xs tid) refl refl h (λ k. among_snoc xs tid t k other)
  where
    by : (a c : Bool) → same_tid tid x ≡ a → is_among xs tid ≡ c → (a || c) ≡ false → (is_among xs tid ≡ false → is_among (xs ++ t ∷ []) tid ≡ false) → is_among ((x ∷ xs) ++ t ∷ []) tid ≡ false
    by true c is had k more = absurd (cc k)
    by false c is had k more = rw is (more (had ∙ k))

among_mid : (first rest : List Tid) (tid : Tid) → is_among (first ++ (tid ∷ rest)) tid ≡ true
among_mid [] rest tid = rw (same_tid-self tid) refl
among_mid (x ∷ first) rest tid = or_right (same_tid tid x) (is_among (first ++ (tid ∷ rest)) tid) (among_mid first rest tid)

module _ (here : ℕ) (book : BookValue) (tid : Tid) (recorded : has_record here book tid ≡ true) where
  add_same : (acc : List Tid) → ((is_among acc tid ≡ false) ⊎ Once tid acc) → Once tid (add_commit here book acc tid)
  add_same acc (inl none) = rw (recorded, none) (acc, [], refl, none, refl)
  add_same acc (inr (first, rest, is, before, after)) =
      let among : is_among acc tid ≡ true = ap (λ (xs : List Tid). is_among xs tid) is ∙ among_mid first rest tid in
      rw (recorded, among) (first, rest, is, before, after)

  add_other : (acc : List Tid) (t : Tid) → same_tid tid t ≡ false → (b : Bool) → ((is_among acc tid ≡ false) → is_among (if b then acc ++ t ∷ [] else acc) tid ≡ false) × (Once tid acc → Once tid (if b then acc ++ t ∷ [] else acc))
  add_other acc t other true = (λ none. among_snoc acc tid t none other, λ (once : Once tid acc). (once.0, once.1 ++ t ∷ [], ap (λ (xs : List Tid). xs ++ t ∷ []) once.2 ∙ append_assoc once.0 (tid ∷ once.1) (t ∷ []), once.3, among_snoc once.1 tid t once.4 other))
  add_other acc t other false = (λ none. none, λ once. once)

  pub once_found : (done acc : List Tid) → (((is_among acc tid ≡ false) × (is_among done tid ≡ true)) ⊎ Once tid acc) → Once tid (fold (add_commit here book) acc done)
  once_found [] acc (inl h) = absurd (cc h.1)
  once_found [] acc (inr once) = once
  once_found (t ∷ done) acc had = once_found done (add_commit here book acc t) (by (same_tid tid t) refl had)
    where
      added : Bool
      added = has_record here book t && not (is_among acc t)

      by : (c : Bool) → same_tid tid t ≡ c → (((is_among acc tid ≡ false) × (is_among (t ∷ done) tid ≡ true)) ⊎ Once tid acc) → (((is_among (add_commit here book acc t) tid ≡ false) × (is_among done tid ≡ true)) ⊎ Once tid (add_commit here book acc t))
      by true same (inl h) = inr (subst (λ (x : Tid). Once tid (add_commit here book acc x)) (same_tid-true tid t same) (add_same acc (inl h.0)))
      by true same (inr once) = inr (subst (λ (x : Tid). Once tid (add_commit here book acc x)) (same_tid-true tid t same) (add_same acc (inr once)))
      by false other (inl h) = inl ((add_other acc t other added).0 h.0, rw other at h.1)
      by false other (inr once) = inr ((add_other acc t other added).1 once)

module _ (book : BookValue) (pend : List Found) (tid : Tid) (member : Member) (inc : ℕ) (done : List Tid) (node : NodeValue) where
  abbrev read : BookValue
  read = put_new_votes member.node.0 pend book

  abbrev votes : List (Voter × OnRecord)
  votes = new_votes member.node.0 book pend

  abbrev reopened_as : NodeValue
  reopened_as = restarted_node (reopened member.node.0 inc pend done read) pend done (with_votes votes node)

  commits_files : (tids : List Tid) → commits_found member.node.0 read done ≡ tids → member.server.0 ≡ 0
      → reopened_as.files.contents ≡ fold apply_change node.files.contents (flat_map (λ (t : Tid). changes_of (logged_at book pend t member)) tids)
  commits_files tids is e =
      ap (λ (t : TableValue). (restarted t (flat_map (changes_at member.node.0 read 0) (commits_found member.node.0 read done)) (reopened member.node.0 inc pend done read).files_kept).contents) (forgot_files done (with_votes votes node))
      ∙ ((restarted_is (with_votes votes node).files (flat_map (changes_at member.node.0 read 0) (commits_found member.node.0 read done)) (reopened member.node.0 inc pend done read).files_kept).0
      ∙ (ap (λ (t : TableValue). fold apply_change t.contents (flat_map (changes_at member.node.0 read 0) (commits_found member.node.0 read done))) (votes_leave votes node).0
      ∙ (ap (λ (ts : List Tid). fold apply_change node.files.contents (flat_map (changes_at member.node.0 read 0) ts)) is
      ∙ ap (λ (s : ℕ). fold apply_change node.files.contents (flat_map (λ (t : Tid). changes_of (record_at member.node.0 read t s)) tids)) (sym e))))

  commits_notes : (tids : List Tid) → commits_found member.node.0 read done ≡ tids → member.server.0 ≡ 1
      → reopened_as.audit.notes ≡ fold apply_note node.audit.notes (flat_map (λ (t : Tid). changes_of (logged_at book pend t member)) tids)
  commits_notes tids is e =
      ap (λ (t : TableValue). (restarted t (flat_map (changes_at member.node.0 read 1) (commits_found member.node.0 read done)) (reopened member.node.0 inc pend done read).audit_kept).notes) (forgot_audit done (with_votes votes node))
      ∙ ((restarted_is (with_votes votes node).audit (flat_map (changes_at member.node.0 read 1) (commits_found member.node.0 read done)) (reopened member.node.0 inc pend done read).audit_kept).1
      ∙ (ap (λ (t : TableValue). fold apply_note t.notes (flat_map (changes_at member.node.0 read 1) (commits_found member.node.0 read done))) (votes_leave votes node).1
      ∙ (ap (λ (ts : List Tid). fold apply_note node.audit.notes (flat_map (changes_at member.node.0 read 1) ts)) is
      ∙ ap (λ (s : ℕ). fold apply_note node.audit.notes (flat_map (λ (t : Tid). changes_of (record_at member.node.0 read t s)) tids)) (sym e))))

  pub commits_as : Once tid (commits_found member.node.0 read done) → CommitsOnce book pend tid member node reopened_as
  commits_as once = record {
    first = once.0;
    rest = once.1;
    not_before = once.3;
    not_after = once.4;
    files = commits_files (once.0 ++ (tid ∷ once.1)) once.2;
    audit = commits_notes (once.0 ++ (tid ∷ once.1)) once.2;
  }

some_either : (b : Bool) (book : BookValue) (here : ℕ) (tid : Tid) (s : ℕ) → s ≡ number b → is_some (record_at here book tid s) ≡ true → has_record here book tid ≡ true
some_either true book here tid s e h = let one : is_some (record_at here book tid 0) ≡ true = subst (λ (n : ℕ). is_some (record_at here book tid n) ≡ true) e h in rw one refl
some_either false book here tid s e h = let one : is_some (record_at here book tid 1) ≡ true = subst (λ (n : ℕ). is_some (record_at here book tid n) ≡ true) e h in or_right (is_some (record_at here book tid 0)) (is_some (record_at here book tid 1)) one

pub commits_once : (book : BookValue) (entry : Entry) (inc : ℕ) (pend : List Found) (done : List Tid) (tid : Tid) (member : Member) (was at_last : NodeValue) → keeps_contents member.server.0 ≡ true → broken book entry ≡ None
    → entry.act ≡ acts.Restart inc pend done → entry.node.0 ≡ member.node.0 → is_some (record_at member.node.0 book tid member.server.0) ≡ true → is_among done tid ≡ true
    → slice_get book.nodes member.node.0 ≡ Some was → slice_get (effect book entry).nodes member.node.0 ≡ Some at_last → CommitsOnce book pend tid member was at_last
commits_once book entry inc pend done tid member was at_last keeps h is e recorded among was_is last_is =
    let w : (b : Bool) × (member.server.0 ≡ number b) = which member.server.0 keeps in
    let logged : is_some (logged_at book pend tid member) ≡ true =
    ap (λ (o : Option OnRecord). is_some o) (logged_there book pend tid member was was_is)
    ∙ votes_add (new_votes member.node.0 book pend) was tid member.server.0 (ap (λ (o : Option OnRecord). is_some o) (sym (record_there book tid member.node.0 member.server.0 was was_is)) ∙ recorded) in
    let has : has_record member.node.0 (put_new_votes member.node.0 pend book) tid ≡ true = some_either w.0 (put_new_votes member.node.0 pend book) member.node.0 tid member.server.0 w.1 logged in
    let once : Once tid (commits_found member.node.0 (put_new_votes member.node.0 pend book) done) = once_found member.node.0 (put_new_votes member.node.0 pend book) tid has done [] (inl (refl, among)) in
    let last : NodeValue = restarted_node (reopened member.node.0 inc pend done (put_new_votes member.node.0 pend book)) pend done (with_votes (new_votes member.node.0 book pend) was) in
    let last_there : slice_get (effect book entry).nodes member.node.0 ≡ Some last =
    ap (λ (nodes : List NodeValue). slice_get nodes member.node.0) (effect_nodes book entry member.node.0 inc pend done is e) ∙ reopened_there member.node.0 inc pend done book was was_is in
    let same : last ≡ at_last = some_same last at_last (sym last_there ∙ last_is) in
    subst (λ (v : NodeValue). CommitsOnce book pend tid member was v) same (commits_as book pend tid member inc done was once)
