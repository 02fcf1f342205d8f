-- What a restart makes of the changes of a committed transaction at files and audit of its node: kept, or committed once and
-- gone; and what was gone stays so.
use Rattle.qs_book_laws.proofs.Words.{◌≡◌, ◌⊎◌, inl, inr, ℕ, Bool, true, false, not, List, [], ◌∷◌, ◌==◌, ◌&&◌, ◌||◌, Option, Some, None, refl, sym, ap, subst, ◌∙◌, fold, nat_lt, if◌then◌else◌, slice_get, flat_map, is_some, length, fold-append, lookup, is_at, member_cmp, same_tid, Member, Tid, same_tid-true, Op, Act, Entry, Found, TableValue, share_of, kept, applied, Share, KeptChanges, TransactionValue, is_empty, is_covering, part_of, BookValue, find_transaction, cell_of_transaction, crossed_in, broken}
use Rattle.qs_book_laws.proofs.Words.{effect_act, effect, NodeValue, pending_at, record_of, changes_of, voter, voter_cmp, without_record, restart, reopened, restarted_node, put_new_votes, new_vote, is_new_vote, new_votes, new_votes_at, with_votes, record_at, changes_at, is_among, member_at, without_records, keep_found, is_kept_at, broken_restart, vote_as_stopped, OnRecord, Voter, IsKept, Applies, IsCommitted, crossed_at, keeps_contents, has_vote}
use Rattle.qs_book_journal.specs.declared.entry.Act.TheVariants as acts
use Rattle.qs_book_machine.specs.Transaction.{was_crossed, is_before, was_in_commit}
use Rattle.qs_book_machine.specs.Restart.{with_vote, is_on_record}
use Rattle.qs_book_laws.specs.Durable.{IsGone}
use Rattle.qs_book_laws.specs.Served.{logged_at, IsLogged, PendsAgain}
use Rattle.qs_book_laws.proofs.FoundOnly.{none_stays_none}
use Rattle.qs_book_laws.proofs.Again.{restart_node, effect_nodes, logged_there, record_there, reopened_there, is_logged, pends_again, commits_once}
use Rattle.qs_book_laws.proofs.Alikes.{voter_exact, voter_equal}
use Rattle.qs_book_laws.proofs.Ends.{held_there}
use Rattle.qs_book_laws.proofs.Holding.{clash, which, right_of}
use Rattle.qs_book_laws.proofs.Maps.{lookup_put_apart, removed_none}
use Rattle.qs_book_laws.proofs.Rising.{removed}
use Rattle.qs_book_laws.proofs.Shares.{number, share_put, share_put_other}
use Rattle.qs_book_laws.proofs.Tidy.{IsTidy, AllTidy, without_tidy, votes_tidy}
use Rattle.qs_book_laws.proofs.Unanimous.{Decides, restart_back}
use Rattle.qs_ops.specs.declared.vote.Vote.TheVariants as votes

-- ---- no vote is new of a member that has nothing pending

no_crossing : (place : ℕ) (o : Option ℕ) → is_some o ≡ false → is_before place o ≡ false
no_crossing place None h = refl
no_crossing place (Some at) h = absurd (cc h)

not_new : (here : ℕ) (node : NodeValue) (o : Option TransactionValue) (found : Found) → crossed_in o (member_at here found.server.0) ≡ false → pending_at node found.tid found.server.0 ≡ []
    → is_new_vote here node o found ≡ false
not_new here node None found plain nothing = refl
not_new here node (Some tx) found plain nothing =
    off (not (is_on_record node found)) (has_vote found.server.0 votes.Recoverable) (was_in_commit node.stopped tx)
    (nat_lt (part_of tx (member_at here found.server.0) node.inc).voted (part_of tx (member_at here found.server.0) node.inc).served && is_covering tx (member_at here found.server.0) node.inc found.covers)
    (was_crossed node.stopped tx (member_at here found.server.0)) (is_empty (pending_at node found.tid found.server.0))
    (no_crossing node.stopped (lookup (is_at (member_cmp (member_at here found.server.0))) tx.crossed) plain) (ap is_empty nothing)
  where
    off : (a b c d e f : Bool) → e ≡ false → f ≡ true → (a && (b && (c && (d && (e || not f))))) ≡ false
    off a b c d true f p q = absurd (cc p)
    off a b c d false false p q = absurd (cc q)
    off false b c d false true p q = refl
    off true false c d false true p q = refl
    off true true false d false true p q = refl
    off true true true false false true p q = refl
    off true true true true false true p q = refl

module _ (here : ℕ) (book : BookValue) (node : NodeValue) (tid : Tid) (s : ℕ)
    (plain : crossed_in (find_transaction book tid) (member_at here s) ≡ false) (nothing : pending_at node tid s ≡ []) where
  one_vote : (found : Found) (v : NodeValue) → record_of (with_votes (new_vote here book node found) v) tid s ≡ record_of v tid s
  one_vote found v = by (is_new_vote here node (find_transaction book found.tid) found) refl
    where
      vote : Voter × OnRecord
      vote = (voter found.tid found.server.0, vote_as_stopped here book node found)

      apart : is_new_vote here node (find_transaction book found.tid) found ≡ true → (b : Bool) → is_at (voter_cmp (voter tid s)) vote.0 ≡ b → record_of (with_vote v vote) tid s ≡ record_of v tid s
      apart new false other = lookup_put_apart voter_cmp vote.0 vote.1 (λ x. voter_equal vote.0 x) (is_at (voter_cmp (voter tid s))) other v.records
      apart new true same =
          let e : voter tid s ≡ vote.0 = voter_exact (voter tid s) vote.0 same in
          let t : tid ≡ found.tid = ap (λ (w : Voter). w.tid) e in
          let k : s ≡ found.server.0 = ap (λ (w : Voter). w.server.0) e in
          let p : crossed_in (find_transaction book found.tid) (member_at here found.server.0) ≡ false =
          subst (λ (x : Tid). crossed_in (find_transaction book x) (member_at here found.server.0) ≡ false) t (subst (λ (n : ℕ). crossed_in (find_transaction book tid) (member_at here n) ≡ false) k plain) in
          let q : pending_at node found.tid found.server.0 ≡ [] = subst (λ (x : Tid). pending_at node x found.server.0 ≡ []) t (subst (λ (n : ℕ). pending_at node tid n ≡ []) k nothing) in
          absurd (clash new (not_new here node (find_transaction book found.tid) found p q))

      by : (b : Bool) → is_new_vote here node (find_transaction book found.tid) found ≡ b → record_of (with_votes (if b then vote ∷ [] else []) v) tid s ≡ record_of v tid s
      by true new = apart new (is_at (voter_cmp (voter tid s)) vote.0) refl
      by false old = refl

  pub votes_none : (pend : List Found) (v : NodeValue) → record_of (with_votes (flat_map (new_vote here book node) pend) v) tid s ≡ record_of v tid s
  votes_none [] v = refl
  votes_none (found ∷ pend) v =
      ap (λ (w : NodeValue). record_of w tid s) (fold-append with_vote v (new_vote here book node found) (flat_map (new_vote here book node) pend))
      ∙ (votes_none pend (with_votes (new_vote here book node found) v) ∙ one_vote found v)

-- ---- what is on record no more

stays_none : (done : List Tid) (tid : Tid) (s : ℕ) (v : NodeValue) → record_of v tid s ≡ None → record_of (fold without_records v done) tid s ≡ None
stays_none [] tid s v h = h
stays_none (t ∷ done) tid s v h =
    stays_none done tid s (without_records v t)
    (forgot t 6 (without_record t 1 (without_record t 0 v)) (forgot t 1 (without_record t 0 v) (forgot t 0 v h)))
  where
    forgot : (t : Tid) (k : ℕ) (w : NodeValue) → record_of w tid s ≡ None → record_of (without_record t k w) tid s ≡ None
    forgot t k w none = removed_none (is_at (voter_cmp (voter t k))) (is_at (voter_cmp (voter tid s))) w.records none

-- what is on record at files or audit of a transaction whose Commit is found is so no more
pub forgotten : (b : Bool) (done : List Tid) (tid : Tid) (v : NodeValue) → IsTidy v → is_among done tid ≡ true → record_of (fold without_records v done) tid (number b) ≡ None
forgotten b [] tid v tidy h = absurd (cc h)
forgotten b (t ∷ done) tid v tidy h =
    by (same_tid tid t) refl h
    (λ more. forgotten b done tid (without_records v t) (without_tidy t 6 (without_record t 1 (without_record t 0 v)) (without_tidy t 1 (without_record t 0 v) (without_tidy t 0 v tidy))) more)
  where
    forgot : (k : ℕ) (w : NodeValue) → record_of w tid (number b) ≡ None → record_of (without_record tid k w) tid (number b) ≡ None
    forgot k w none = removed_none (is_at (voter_cmp (voter tid k))) (is_at (voter_cmp (voter tid (number b)))) w.records none

    own : (c : Bool) → record_of (without_records v tid) tid (number c) ≡ None
    own true =
        removed_none (is_at (voter_cmp (voter tid 6))) (is_at (voter_cmp (voter tid 0))) (without_record tid 1 (without_record tid 0 v)).records
        (removed_none (is_at (voter_cmp (voter tid 1))) (is_at (voter_cmp (voter tid 0))) (without_record tid 0 v).records (removed voter_cmp voter_exact (voter tid 0) v.records tidy.records))
    own false =
        removed_none (is_at (voter_cmp (voter tid 6))) (is_at (voter_cmp (voter tid 1))) (without_record tid 1 (without_record tid 0 v)).records
        (removed voter_cmp voter_exact (voter tid 1) (without_record tid 0 v).records (without_tidy tid 0 v tidy).records)

    by : (c : Bool) → same_tid tid t ≡ c → (c || is_among done tid) ≡ true → (is_among done tid ≡ true → record_of (fold without_records (without_records v t) done) tid (number b) ≡ None) → record_of (fold without_records (without_records v t) done) tid (number b) ≡ None
    by true same h more = stays_none done tid (number b) (without_records v t) (subst (λ (x : Tid). record_of (without_records v x) tid (number b) ≡ None) (same_tid-true tid t same) (own b))
    by false other h more = more h

-- ---- what is not pending again

module _ (here : ℕ) (mid : BookValue) (s : ℕ) (done : List Tid) (tid : Tid)
    (none : (found : Found) → is_kept_at here mid s done found ≡ true → same_tid found.tid tid ≡ true → changes_at here mid s found.tid ≡ []) where
  keeps_none : (found : Found) (t : TableValue) → (share_of t tid).changes ≡ [] → (share_of (fold kept t (keep_found here mid s done found)) tid).changes ≡ []
  keeps_none found t nothing = by (is_kept_at here mid s done found) refl
    where
      one : KeptChanges
      one = record { tid = found.tid; changes = changes_at here mid s found.tid }

      share : Share
      share = record { changes = changes_at here mid s found.tid; reads = []; operations = length (changes_at here mid s found.tid); voted = false }

      put : is_kept_at here mid s done found ≡ true → (c : Bool) → same_tid found.tid tid ≡ c → (share_of (kept t one) tid).changes ≡ []
      put is true same =
          subst (λ (x : Tid). (share_of (kept t one) x).changes ≡ []) (same_tid-true found.tid tid same)
          (ap (λ (x : Share). x.changes) (share_put t found.tid share) ∙ none found is same)
      put is false other = ap (λ (x : Share). x.changes) (share_put_other t found.tid tid share other) ∙ nothing

      by : (b : Bool) → is_kept_at here mid s done found ≡ b → (share_of (fold kept t (if b then one ∷ [] else [])) tid).changes ≡ []
      by true is = put is (same_tid found.tid tid) refl
      by false is = nothing

  none_pending : (pend : List Found) (t : TableValue) → (share_of t tid).changes ≡ [] → (share_of (fold kept t (flat_map (keep_found here mid s done) pend)) tid).changes ≡ []
  none_pending [] t nothing = nothing
  none_pending (found ∷ pend) t nothing =
      ap (λ (x : TableValue). (share_of x tid).changes) (fold-append kept t (keep_found here mid s done found) (flat_map (keep_found here mid s done) pend))
      ∙ none_pending pend (fold kept t (keep_found here mid s done found)) (keeps_none found t nothing)

pub reopened_none : (b : Bool) (here inc : ℕ) (pend : List Found) (done : List Tid) (mid : BookValue) (v : NodeValue) (tid : Tid)
    → ((found : Found) → is_kept_at here mid (number b) done found ≡ true → same_tid found.tid tid ≡ true → changes_at here mid (number b) found.tid ≡ [])
    → pending_at (restarted_node (reopened here inc pend done mid) pend done v) tid (number b) ≡ []
reopened_none true here inc pend done mid v tid none =
    none_pending here mid 0 done tid none pend (record (applied (fold without v done).files (reopened here inc pend done mid).files) { shares = [] }) refl
  where
    without : NodeValue → Tid → NodeValue
    without w t = without_records w t
reopened_none false here inc pend done mid v tid none =
    none_pending here mid 1 done tid none pend (record (applied (fold without v done).audit (reopened here inc pend done mid).audit) { shares = [] }) refl
  where
    without : NodeValue → Tid → NodeValue
    without w t = without_records w t

pub kept_apart : (here : ℕ) (mid : BookValue) (s : ℕ) (done : List Tid) (found : Found) → is_kept_at here mid s done found ≡ true → is_among done found.tid ≡ false
kept_apart here mid s done found h =
    by (is_among done found.tid) (crossed_in (find_transaction mid found.tid) (member_at here s)) (right_of (found.server.0 == s) (not (is_among done found.tid || crossed_in (find_transaction mid found.tid) (member_at here s))) h)
  where
    by : (a c : Bool) → not (a || c) ≡ true → a ≡ false
    by true c k = absurd (cc k)
    by false c k = refl

-- ---- a restart of the member's node

module _ (book : BookValue) (entry : Entry) (inc : ℕ) (pend : List Found) (done : List Tid) (tid : Tid) (member : Member)
    (keeps : keeps_contents member.server.0 ≡ true) (h : broken book entry ≡ None) (is : entry.act ≡ acts.Restart inc pend done) (e : entry.node.0 ≡ member.node.0) where
  abbrev mid : BookValue
  mid = put_new_votes member.node.0 pend book

  abbrev v_of : NodeValue → NodeValue
  v_of node = with_votes (new_votes member.node.0 book pend) node

  abbrev last_of : NodeValue → NodeValue
  last_of node = restarted_node (reopened member.node.0 inc pend done mid) pend done (v_of node)

  there : (node : NodeValue) × (slice_get book.nodes member.node.0 ≡ Some node) × (broken_restart member.node.0 book node inc pend done ≡ None)
  there = restart_node book entry member.node.0 inc pend done h is e

  b_is : (b : Bool) × (member.server.0 ≡ number b)
  b_is = which member.server.0 keeps

  last_there : (node : NodeValue) → slice_get book.nodes member.node.0 ≡ Some node → slice_get (effect book entry).nodes member.node.0 ≡ Some (last_of node)
  last_there node at = ap (λ (nodes : List NodeValue). slice_get nodes member.node.0) (effect_nodes book entry member.node.0 inc pend done is e) ∙ reopened_there member.node.0 inc pend done book node at

  -- nothing of it is left
  gone_by : (node : NodeValue) → slice_get book.nodes member.node.0 ≡ Some node
      → ((found : Found) → is_kept_at member.node.0 mid member.server.0 done found ≡ true → same_tid found.tid tid ≡ true → changes_at member.node.0 mid member.server.0 found.tid ≡ [])
      → record_of (fold without_records (v_of node) done) tid member.server.0 ≡ None → IsGone (effect book entry) tid member
  gone_by node at none unrecorded = record {
    pending =
        held_there (effect book entry) tid member (last_of node) (last_there node at)
        ∙ subst (λ (n : ℕ). pending_at (last_of node) tid n ≡ []) (sym b_is.1)
        (reopened_none b_is.0 member.node.0 inc pend done mid (v_of node) tid
        (subst (λ (n : ℕ). (found : Found) → is_kept_at member.node.0 mid n done found ≡ true → same_tid found.tid tid ≡ true → changes_at member.node.0 mid n found.tid ≡ []) b_is.1 none));
    on_record = record_there (effect book entry) tid member.node.0 member.server.0 (last_of node) (last_there node at) ∙ none_stays_none pend (fold without_records (v_of node) done) tid member.server.0 unrecorded;
  }

  -- where its Commit is found
  gone_found : AllTidy book.nodes → is_among done tid ≡ true → IsGone (effect book entry) tid member
  gone_found tidy among =
      gone_by there.0 there.1 none
      (subst (λ (n : ℕ). record_of (fold without_records (v_of there.0) done) tid n ≡ None) (sym b_is.1)
      (forgotten b_is.0 done tid (v_of there.0) (votes_tidy (new_votes member.node.0 book pend) there.0 (tidy member.node.0 there.0 there.1)) among))
    where
      none : (found : Found) → is_kept_at member.node.0 mid member.server.0 done found ≡ true → same_tid found.tid tid ≡ true → changes_at member.node.0 mid member.server.0 found.tid ≡ []
      none found k same = absurd (clash (ap (is_among done) (same_tid-true found.tid tid same) ∙ among) (kept_apart member.node.0 mid member.server.0 done found k))

  -- where nothing was pending or on record
  pub gone_still : crossed_at book tid member ≡ false → IsGone book tid member → IsGone (effect book entry) tid member
  gone_still plain gone = gone_by there.0 there.1 none (stays_none done tid member.server.0 (v_of there.0) unlogged)
    where
      unrecorded : record_of there.0 tid member.server.0 ≡ None
      unrecorded = sym (record_there book tid member.node.0 member.server.0 there.0 there.1) ∙ gone.on_record

      nothing : pending_at there.0 tid member.server.0 ≡ []
      nothing = sym (held_there book tid member there.0 there.1) ∙ gone.pending

      unlogged : record_of (v_of there.0) tid member.server.0 ≡ None
      unlogged =
          ap (λ (o : Option NodeValue). record_of (with_votes (new_votes_at member.node.0 book o pend) there.0) tid member.server.0) there.1
          ∙ (votes_none member.node.0 book there.0 tid member.server.0 plain nothing pend there.0 ∙ unrecorded)

      logged : changes_at member.node.0 mid member.server.0 tid ≡ []
      logged = ap changes_of (logged_there book pend tid member there.0 there.1 ∙ unlogged)

      none : (found : Found) → is_kept_at member.node.0 mid member.server.0 done found ≡ true → same_tid found.tid tid ≡ true → changes_at member.node.0 mid member.server.0 found.tid ≡ []
      none found k same = ap (λ (t : Tid). changes_at member.node.0 mid member.server.0 t) (same_tid-true found.tid tid same) ∙ logged

  committed_before : is_among done tid ≡ false → IsCommitted (effect book entry) tid → IsCommitted book tid
  committed_before apart now = by (restart_back member.node.0 tid inc pend done book restarted)
    where
      restarted : IsCommitted (restart member.node.0 inc pend done book) tid
      restarted =
          ap (λ (n : ℕ). cell_of_transaction (find_transaction (restart n inc pend done book) tid)) (sym e)
          ∙ (ap (λ (a : Act). cell_of_transaction (find_transaction (effect_act entry.stamp entry.node.0 a book) tid)) (sym is) ∙ now)

      by : Decides book done tid → IsCommitted book tid
      by (inl was) = was
      by (inr among) = absurd (clash among apart)

  -- kept, or committed once and gone
  pub recovers : (changes : List Op) → AllTidy book.nodes → crossed_at book tid member ≡ false → IsCommitted (effect book entry) tid → IsKept book tid member changes
      → (Applies book entry tid member changes × IsGone (effect book entry) tid member) ⊎ IsKept (effect book entry) tid member changes
  recovers changes tidy plain now k = by (record_at member.node.0 book tid member.server.0) refl (is_among done tid) refl
    where
      logged_is : IsLogged book pend tid member → changes_of (logged_at book pend tid member) ≡ changes
      logged_is (inl same) = same ∙ k.on_record
      logged_is (inr same) = same ∙ k.pending

      logged : changes_of (logged_at book pend tid member) ≡ changes
      logged = logged_is (is_logged book entry inc pend done tid member h is e)

      unrecorded : record_at member.node.0 book tid member.server.0 ≡ None → changes ≡ []
      unrecorded none = sym k.on_record ∙ ap changes_of none

      recorded : (rec : OnRecord) → record_at member.node.0 book tid member.server.0 ≡ Some rec → is_some (record_at member.node.0 book tid member.server.0) ≡ true
      recorded rec found = ap (λ (o : Option OnRecord). is_some o) found

      none_kept : changes ≡ [] → IsGone (effect book entry) tid member → IsKept (effect book entry) tid member changes
      none_kept empty gone = record { pending = gone.pending ∙ sym empty; on_record = ap changes_of gone.on_record ∙ sym empty }

      again : PendsAgain book (effect book entry) pend tid member → IsKept (effect book entry) tid member changes
      again p = record { pending = p.pending ∙ logged; on_record = ap changes_of p.on_record ∙ logged }

      by : (o : Option OnRecord) → record_at member.node.0 book tid member.server.0 ≡ o → (b : Bool) → is_among done tid ≡ b
          → (Applies book entry tid member changes × IsGone (effect book entry) tid member) ⊎ IsKept (effect book entry) tid member changes
      by None none b among =
          inr (none_kept (unrecorded none) (gone_still plain (record { pending = k.pending ∙ unrecorded none; on_record = none })))
      by (Some rec) found true among =
          inl (
            inr (record {
              inc = inc;
              pend = pend;
              done = done;
              act = is;
              here = e;
              logged = logged;
              applied = λ was at_last was_is last_is. commits_once book entry inc pend done tid member was at_last keeps h is e (recorded rec found) among was_is last_is;
            }),
            gone_found tidy among,
          )
      by (Some rec) found false apart =
          inr (again (pends_again book entry inc pend done tid member keeps h is e (committed_before apart now) plain (recorded rec found) apart))
