-- From a commit on, the changes of the transaction are kept at files and audit until an entry applies them, and gone after it.
use Rattle.qs_book_laws.proofs.Words.{◌≡◌, ◌⊎◌, inl, inr, ℕ, Bool, true, false, List, [], ◌∷◌, ◌++◌, Option, Some, None, refl, sym, ap, subst, ◌∙◌, nat_lt, slice_get, length, unwrap_or, option_map, append-nil, tid_cmp, Member, NodeNo, Outcome, Tid, same_tid-true, same_member-true, Op, Reply, Vote, Act, Entry, Found, nothing_held, Share, cell_of, BookValue, find_transaction, cell_of_transaction, changed_at, learn_node, doubts_after, broken_act, broken, effect_act, effect, IsLawful, book_after}
use Rattle.qs_book_laws.proofs.Words.{NodeValue, pending_at, record_of, changes_of, voter, voter_cmp, opening, record_at, Opened, OnRecord, IsKept, Applies, IsCommitted, IsCoherent, is_share, change_served, held_at, keeps_contents, lets_go, votes_on}
use Rattle.qs_base.specs.declared.identifiers.Outcome.TheVariants as outcomes
use Rattle.qs_ops.specs.declared.vote.Vote.TheVariants as votes
use Rattle.qs_book_journal.specs.declared.entry.Act.TheVariants as acts
use Rattle.qs_book_machine.specs.declared.transaction.Cell.TheVariants as cells
use Rattle.qs_book_laws.specs.Durable.{IsGone, LearnsCommit, IsGoneThrough, IsDurable}
use Rattle.qs_book_laws.specs.Served.{HasApplied}
use Rattle.qs_book_laws.proofs.Acts as alike
use Rattle.qs_book_laws.proofs.Alikes.{at_exact, voter_exact}
use Rattle.qs_book_laws.proofs.Committed.{ran_shut}
use Rattle.qs_book_laws.proofs.Covered.{one_more}
use Rattle.qs_book_laws.proofs.Covers.{Mark, mark_in, mark_of}
use Rattle.qs_book_laws.proofs.Ends.{lawful_node, held_there, applies_all}
use Rattle.qs_book_laws.proofs.Faces.{Alike}
use Rattle.qs_book_laws.proofs.Fates.{commit_stays}
use Rattle.qs_book_laws.proofs.Again.{record_there}
use Rattle.qs_book_laws.proofs.Histories.{learns_cell}
use Rattle.qs_book_laws.proofs.Holding.{which, left_of, right_of, same_number, learn_here}
use Rattle.qs_book_laws.proofs.Leaves.{serves_on, step_leaves}
use Rattle.qs_book_laws.proofs.Maps.{changed_at_here}
use Rattle.qs_book_laws.proofs.Openings.{opening_holds}
use Rattle.qs_book_laws.proofs.Outcomes.{Inv, Moves}
use Rattle.qs_book_laws.proofs.Ready.{Ready, ready_plain, step_ready, unanimous_ready, no_serve, no_vote}
use Rattle.qs_book_laws.proofs.Recovers.{recovers, gone_still}
use Rattle.qs_book_laws.proofs.Rising.{removed}
use Rattle.qs_book_laws.proofs.Shares.{number}
use Rattle.qs_book_laws.proofs.ShutOpenings.{opening_shut}
use Rattle.qs_book_laws.proofs.Steps.{stepped, ran, lawful_front, lawful_rest}
use Rattle.qs_book_laws.proofs.Tidy.{IsTidy, AllTidy, step_tidy, opening_tidy}
use Rattle.qs_book_laws.proofs.Unanimous.{Commits, alike_back, step_commits}
use Rattle.std.proofs.lemmas.Bool.{false_from_ne_true}

-- ---- what an act does at the member

-- the member makes this vote
abbrev pub IsVote : Tid → Member → Act → Type 0
IsVote tid member act = (ballot : Vote) × (covers : ℕ) × (act ≡ acts.Vote tid member ballot covers)

abbrev pub IsLearn : Tid → Member → Act → Type 0
IsLearn tid member act = (outcome : Outcome) × (act ≡ acts.Learn tid member outcome)

abbrev pub IsRestart : ℕ → ℕ → Act → Type 0
IsRestart n here act = (inc : ℕ) × (pend : List Found) × (done : List Tid) × (act ≡ acts.Restart inc pend done) × (here ≡ n)

abbrev pub IsServe : Tid → Member → Act → Type 0
IsServe tid member act = (from : NodeNo) × (n : ℕ) × (reply : Reply) × (act ≡ acts.Serve tid member from n reply)

abbrev pub recorded : Option Mark → Option OnRecord
recorded None = None
recorded (Some mark) = mark.rec

-- nothing of what the member learnt is left
pub learnt_none : (b : Bool) (tid : Tid) (v : NodeValue) → IsTidy v
    → (pending_at (doubts_after tid (number b) (learn_node outcomes.Commit tid (number b) v)) tid (number b) ≡ []) × (record_of (doubts_after tid (number b) (learn_node outcomes.Commit tid (number b) v)) tid (number b) ≡ None)
learnt_none true tid v tidy =
    (ap (λ (o : Option Share). (unwrap_or o nothing_held).changes) (removed tid_cmp at_exact tid v.files.shares tidy.files), removed voter_cmp voter_exact (voter tid 0) v.records tidy.records)
learnt_none false tid v tidy =
    (ap (λ (o : Option Share). (unwrap_or o nothing_held).changes) (removed tid_cmp at_exact tid v.audit.shares tidy.audit), removed voter_cmp voter_exact (voter tid 1) v.records tidy.records)

commit_outcome : (outcome : Outcome) → Some (cell_of outcome) ≡ Some cells.Commit → outcome ≡ outcomes.Commit
commit_outcome outcomes.Commit e = refl
commit_outcome outcomes.Abort e = absurd (cc e)

module _ (tid : Tid) (member : Member) where
  share_is : (t : Tid) (other : Member) → is_share tid member t other ≡ true → (t ≡ tid) × (other ≡ member)
  share_is t other h = (same_tid-true t tid (left_of _ _ h), same_member-true other member (right_of _ _ h))

  vote_is : (t : Tid) (other : Member) (ballot : Vote) (covers : ℕ) → is_share tid member t other ≡ true → IsVote tid member (acts.Vote t other ballot covers)
  vote_is t other ballot covers h =
      let e : (t ≡ tid) × (other ≡ member) = share_is t other h in
      (ballot, covers, ap (λ (x : Tid). acts.Vote x other ballot covers) e.0 ∙ ap (λ (m : Member). acts.Vote tid m ballot covers) e.1)

  pub going : (here : ℕ) (act : Act) → lets_go tid member here act ≡ true → IsVote tid member act ⊎ (IsLearn tid member act ⊎ IsRestart member.node.0 here act)
  going here (acts.Vote t other votes.ReadOnly covers) h = inl (vote_is t other votes.ReadOnly covers h)
  going here (acts.Learn t other outcome) h =
      let e : (t ≡ tid) × (other ≡ member) = share_is t other h in
      inr (inl (outcome, ap (λ (x : Tid). acts.Learn x other outcome) e.0 ∙ ap (λ (m : Member). acts.Learn tid m outcome) e.1))
  going here (acts.Restart inc pend done) h = inr (inr (inc, pend, done, refl, same_number here member.node.0 h))
  going here act h = absurd (cc h)

  pub voting : (act : Act) → votes_on tid member act ≡ true → IsVote tid member act
  voting (acts.Vote t other ballot covers) h = vote_is t other ballot covers h
  voting act h = absurd (cc h)

  pub serving : (act : Act) → serves_on tid member act ≡ true → IsServe tid member act
  serving (acts.Serve t other from n reply) h =
      let e : (t ≡ tid) × (other ≡ member) = share_is t other h in
      (from, n, reply, ap (λ (x : Tid). acts.Serve x other from n reply) e.0 ∙ ap (λ (m : Member). acts.Serve tid m from n reply) e.1)
  serving act h = absurd (cc h)

  pub none_served : (book : BookValue) (act : Act) → serves_on tid member act ≡ false → change_served book tid member act ≡ []
  none_served book (acts.Serve t other from n reply) h = rw h refl
  none_served book act h = refl

  -- ---- acts that don't come

  acted_back : (book : BookValue) (entry : Entry) (act : Act) → entry.act ≡ act → Alike book (effect_act entry.stamp entry.node.0 act book) → IsCommitted (effect book entry) tid → IsCommitted book tid
  acted_back book entry act is a now =
      alike_back book (effect_act entry.stamp entry.node.0 act book) tid a
      (ap (λ (x : Act). cell_of_transaction (find_transaction (effect_act entry.stamp entry.node.0 x book) tid)) (sym is) ∙ now)

  pub never_votes : (book : BookValue) (entry : Entry) → broken book entry ≡ None → IsCommitted (effect book entry) tid → IsVote tid member entry.act → ⊥
  never_votes book entry h now (ballot, covers, is) =
      let at : (node : NodeValue) × (slice_get book.nodes entry.node.0 ≡ Some node) × (broken_act book entry.stamp entry.node.0 node (acts.Vote tid member ballot covers) ≡ None) =
      lawful_node book entry (acts.Vote tid member ballot covers) is (λ node. refl) h in
      no_vote entry.node.0 at.0 tid (find_transaction book tid) member ballot covers
      (acted_back book entry (acts.Vote tid member ballot covers) is (alike.by_vote entry.node.0 tid member ballot covers book) now) at.2

  pub never_serves : (book : BookValue) (entry : Entry) → broken book entry ≡ None → Ready book tid member → IsServe tid member entry.act → ⊥
  never_serves book entry h r (from, n, reply, is) =
      let at : (node : NodeValue) × (slice_get book.nodes entry.node.0 ≡ Some node) × (broken_act book entry.stamp entry.node.0 node (acts.Serve tid member from n reply) ≡ None) =
      lawful_node book entry (acts.Serve tid member from n reply) is (λ node. refl) h in
      no_serve book entry.node.0 at.0 tid member member from.0 n reply r at.2

  -- ---- an entry at which the member does nothing on it

  pub record_marked : (book : BookValue) → record_at member.node.0 book tid member.server.0 ≡ recorded (mark_of book tid member)
  record_marked book = by (slice_get book.nodes member.node.0)
    where
      by : (o : Option NodeValue) → (elim o [ None ↦ None | Some v ↦ record_of v tid member.server.0 ]) ≡ recorded (option_map (mark_in tid member.server.0) o)
      by None = refl
      by (Some v) = refl

  pub record Rests (old new : BookValue) : Type 0 where
    pub pending : held_at new tid member ≡ held_at old tid member
    pub on_record : record_at member.node.0 new tid member.server.0 ≡ record_at member.node.0 old tid member.server.0

  pub rests : (book : BookValue) (entry : Entry) → keeps_contents member.server.0 ≡ true → Inv book → Ready book tid member → broken book entry ≡ None → IsCommitted (effect book entry) tid → lets_go tid member entry.node.0 entry.act ≡ false
      → Rests book (effect book entry)
  rests book entry keeps i r h now holds = record {
    pending =
        one_more book entry tid member keeps h (ready_plain book tid member r) holds (ready_plain (effect book entry) tid member (step_ready tid member book entry i r h now))
        ∙ (ap (λ (ops : List Op). held_at book tid member ++ ops) (none_served book entry.act idle) ∙ append-nil (held_at book tid member));
    on_record = record_marked (effect book entry) ∙ (ap recorded (step_leaves tid member book entry i h holds quiet idle).mark ∙ sym (record_marked book));
  }
    where
      idle : serves_on tid member entry.act ≡ false
      idle = false_from_ne_true (serves_on tid member entry.act) (λ is. never_serves book entry h r (serving entry.act is))

      quiet : votes_on tid member entry.act ≡ false
      quiet = false_from_ne_true (votes_on tid member entry.act) (λ is. never_votes book entry h now (voting entry.act is))

  -- ---- the member learns commit

  abbrev learning : NodeValue → NodeValue
  learning v = doubts_after tid member.server.0 (learn_node outcomes.Commit tid member.server.0 v)

  pub learn_commits : (book : BookValue) (entry : Entry) → broken book entry ≡ None → IsCommitted (effect book entry) tid → IsLearn tid member entry.act → entry.act ≡ acts.Learn tid member outcomes.Commit
  learn_commits book entry h now (outcome, is) =
      let at : (node : NodeValue) × (slice_get book.nodes entry.node.0 ≡ Some node) × (broken_act book entry.stamp entry.node.0 node (acts.Learn tid member outcome) ≡ None) =
      lawful_node book entry (acts.Learn tid member outcome) is (λ node. refl) h in
      let cell : cell_of_transaction (find_transaction book tid) ≡ Some (cell_of outcome) = learns_cell entry.node.0 at.0 (find_transaction book tid) member outcome at.2 in
      let was : IsCommitted book tid = acted_back book entry (acts.Learn tid member outcome) is (alike.by_learn entry.node.0 tid member outcome book) now in
      is ∙ ap (λ (o : Outcome). acts.Learn tid member o) (commit_outcome outcome (sym cell ∙ was))

  pub learn_gone : (book : BookValue) (entry : Entry) → keeps_contents member.server.0 ≡ true → AllTidy book.nodes → broken book entry ≡ None → entry.act ≡ acts.Learn tid member outcomes.Commit → IsGone (effect book entry) tid member
  learn_gone book entry keeps tidy h is =
      let at : (node : NodeValue) × (slice_get book.nodes entry.node.0 ≡ Some node) × (broken_act book entry.stamp entry.node.0 node (acts.Learn tid member outcomes.Commit) ≡ None) =
      lawful_node book entry (acts.Learn tid member outcomes.Commit) is (λ node. refl) h in
      let e : member.node.0 ≡ entry.node.0 = learn_here entry.node.0 at.0 (find_transaction book tid) member outcomes.Commit at.2 in
      let there : slice_get book.nodes member.node.0 ≡ Some at.0 = ap (slice_get book.nodes) e ∙ at.1 in
      let changed : slice_get (effect_act entry.stamp entry.node.0 (acts.Learn tid member outcomes.Commit) book).nodes member.node.0 ≡ Some (learning at.0) =
      subst (λ (n : ℕ). slice_get (changed_at n learning book.nodes) member.node.0 ≡ Some (learning at.0)) e (changed_at_here learning book.nodes member.node.0 at.0 there) in
      let last : slice_get (effect book entry).nodes member.node.0 ≡ Some (learning at.0) =
      subst (λ (a : Act). slice_get (effect_act entry.stamp entry.node.0 a book).nodes member.node.0 ≡ Some (learning at.0)) (sym is) changed in
      let w : (b : Bool) × (member.server.0 ≡ number b) = which member.server.0 keeps in
      let none : (pending_at (learning at.0) tid member.server.0 ≡ []) × (record_of (learning at.0) tid member.server.0 ≡ None) =
      subst (λ (s : ℕ). (pending_at (doubts_after tid s (learn_node outcomes.Commit tid s at.0)) tid s ≡ []) × (record_of (doubts_after tid s (learn_node outcomes.Commit tid s at.0)) tid s ≡ None)) (sym w.1)
      (learnt_none w.0 tid at.0 (tidy member.node.0 at.0 there)) in
      record {
        pending = held_there (effect book entry) tid member (learning at.0) last ∙ none.0;
        on_record = record_there (effect book entry) tid member.node.0 member.server.0 (learning at.0) last ∙ none.1;
      }

  learn_applies : (book : BookValue) (entry : Entry) (changes : List Op) → keeps_contents member.server.0 ≡ true → broken book entry ≡ None → entry.act ≡ acts.Learn tid member outcomes.Commit → held_at book tid member ≡ changes
      → LearnsCommit book entry tid member changes
  learn_applies book entry changes keeps h is held = record {
    act = is;
    applied = λ was at_last was_is last_is. subst (λ (ops : List Op). HasApplied member.server.0 ops was at_last) held (applies_all book entry tid member was at_last keeps h is was_is last_is);
  }

  -- ---- an entry

  pub kept_step : (book : BookValue) (entry : Entry) (changes : List Op) → keeps_contents member.server.0 ≡ true → Inv book → AllTidy book.nodes → Ready book tid member → broken book entry ≡ None → IsCommitted (effect book entry) tid
      → IsKept book tid member changes → (Applies book entry tid member changes × IsGone (effect book entry) tid member) ⊎ IsKept (effect book entry) tid member changes
  kept_step book entry changes keeps i tidy r h now k = by (lets_go tid member entry.node.0 entry.act) refl
    where
      goes : IsVote tid member entry.act ⊎ (IsLearn tid member entry.act ⊎ IsRestart member.node.0 entry.node.0 entry.act) → (Applies book entry tid member changes × IsGone (effect book entry) tid member) ⊎ IsKept (effect book entry) tid member changes
      goes (inl vote) = absurd (never_votes book entry h now vote)
      goes (inr (inl learns)) =
          let is : entry.act ≡ acts.Learn tid member outcomes.Commit = learn_commits book entry h now learns in
          inl (inl (learn_applies book entry changes keeps h is k.pending), learn_gone book entry keeps tidy h is)
      goes (inr (inr (inc, pend, done, is, e))) = recovers book entry inc pend done tid member keeps h is e changes tidy (ready_plain book tid member r) now k

      stays : Rests book (effect book entry) → IsKept (effect book entry) tid member changes
      stays same = record { pending = same.pending ∙ k.pending; on_record = ap changes_of same.on_record ∙ k.on_record }

      by : (b : Bool) → lets_go tid member entry.node.0 entry.act ≡ b → (Applies book entry tid member changes × IsGone (effect book entry) tid member) ⊎ IsKept (effect book entry) tid member changes
      by true is = goes (going entry.node.0 entry.act is)
      by false is = inr (stays (rests book entry keeps i r h now is))

  pub gone_step : (book : BookValue) (entry : Entry) → keeps_contents member.server.0 ≡ true → Inv book → AllTidy book.nodes → Ready book tid member → broken book entry ≡ None → IsCommitted (effect book entry) tid
      → IsGone book tid member → IsGone (effect book entry) tid member
  gone_step book entry keeps i tidy r h now gone = by (lets_go tid member entry.node.0 entry.act) refl
    where
      goes : IsVote tid member entry.act ⊎ (IsLearn tid member entry.act ⊎ IsRestart member.node.0 entry.node.0 entry.act) → IsGone (effect book entry) tid member
      goes (inl vote) = absurd (never_votes book entry h now vote)
      goes (inr (inl learns)) = learn_gone book entry keeps tidy h (learn_commits book entry h now learns)
      goes (inr (inr (inc, pend, done, is, e))) = gone_still book entry inc pend done tid member keeps h is e (ready_plain book tid member r) gone

      stays : Rests book (effect book entry) → IsGone (effect book entry) tid member
      stays same = record { pending = same.pending ∙ gone.pending; on_record = same.on_record ∙ gone.on_record }

      by : (b : Bool) → lets_go tid member entry.node.0 entry.act ≡ b → IsGone (effect book entry) tid member
      by true is = goes (going entry.node.0 entry.act is)
      by false is = stays (rests book entry keeps i r h now is)

  -- ---- a history

  -- what holds of a book from the commit on
  pub record Settled (book : BookValue) : Type 0 where
    pub inv : Inv book
    pub tidy : AllTidy book.nodes
    pub ready : Ready book tid member

  pub step_settled : (book : BookValue) (entry : Entry) → Settled book → broken book entry ≡ None → IsCommitted (effect book entry) tid → Settled (effect book entry)
  step_settled book entry s h now = record {
    inv = (stepped book entry s.inv h).inv;
    tidy = step_tidy book entry s.tidy;
    ready = step_ready tid member book entry s.inv s.ready h now;
  }

  committed_still : (book : BookValue) (entry : Entry) → Settled book → broken book entry ≡ None → IsCommitted book tid → IsCommitted (effect book entry) tid
  committed_still book entry s h is = commit_stays book (effect book entry) tid (stepped book entry s.inv h).kept is

  gone_through : (entries : List Entry) (book : BookValue) → keeps_contents member.server.0 ≡ true → Settled book → IsCommitted book tid → IsLawful book entries → IsGone book tid member → IsGoneThrough book tid member entries
  gone_through [] book keeps s is lawful gone = gone
  gone_through (entry ∷ entries) book keeps s is lawful gone =
      let now : IsCommitted (effect book entry) tid = committed_still book entry s lawful.0 is in
      (gone, gone_through entries (effect book entry) keeps (step_settled book entry s lawful.0 now) now lawful.1 (gone_step book entry keeps s.inv s.tidy s.ready lawful.0 now gone))

  -- ---- from a book after whose next entry it is committed

  durable_by : (changes : List Op) (book : BookValue) (entry : Entry) (entries : List Entry) → keeps_contents member.server.0 ≡ true → Settled book → IsCommitted (effect book entry) tid → IsLawful book (entry ∷ entries) → IsKept book tid member changes
      → (IsKept (effect book entry) tid member changes → IsDurable (effect book entry) tid member changes entries) → IsDurable book tid member changes (entry ∷ entries)
  durable_by changes book entry entries keeps s now lawful k more = (k, by (kept_step book entry changes keeps s.inv s.tidy s.ready lawful.0 now k))
    where
      by : (Applies book entry tid member changes × IsGone (effect book entry) tid member) ⊎ IsKept (effect book entry) tid member changes
          → (Applies book entry tid member changes × IsGoneThrough (effect book entry) tid member entries) ⊎ IsDurable (effect book entry) tid member changes entries
      by (inl applied) = inl (applied.0, gone_through entries (effect book entry) keeps (step_settled book entry s lawful.0 now) now lawful.1 applied.1)
      by (inr still) = inr (more still)

  durable_from : (entries : List Entry) (changes : List Op) (book : BookValue) → keeps_contents member.server.0 ≡ true → Settled book → IsCommitted book tid → IsLawful book entries → IsKept book tid member changes → IsDurable book tid member changes entries
  durable_from [] changes book keeps s is lawful k = k
  durable_from (entry ∷ entries) changes book keeps s is lawful k =
      let now : IsCommitted (effect book entry) tid = committed_still book entry s lawful.0 is in
      durable_by changes book entry entries keeps s now lawful k
      (λ still. durable_from entries changes (effect book entry) keeps (step_settled book entry s lawful.0 now) now lawful.1 still)

pub ran_tidy : (entries : List Entry) (book : BookValue) → AllTidy book.nodes → AllTidy (book_after book entries).nodes
ran_tidy [] book all = all
ran_tidy (entry ∷ entries) book all = ran_tidy entries (effect book entry) (step_tidy book entry all)

pub kept_from_commit : (opened : List Opened) (before after : List Entry) (entry : Entry) (tid : Tid) (member : Member) (changes : List Op) → IsCoherent opened → keeps_contents member.server.0 ≡ true → nat_lt member.node.0 (length opened) ≡ true
    → IsLawful (opening opened) (before ++ (entry ∷ after)) → cell_of_transaction (find_transaction (book_after (opening opened) before) tid) ≡ Some cells.Open → IsCommitted (effect (book_after (opening opened) before) entry) tid
    → IsKept (book_after (opening opened) before) tid member changes → IsDurable (book_after (opening opened) before) tid member changes (entry ∷ after)
kept_from_commit opened before after entry tid member changes coherent keeps in_run lawful was now k =
    let book : BookValue = book_after (opening opened) before in
    let front : IsLawful (opening opened) before = lawful_front before (entry ∷ after) (opening opened) lawful in
    let rest : IsLawful book (entry ∷ after) = lawful_rest before (entry ∷ after) (opening opened) lawful in
    let m : Moves (opening opened) book = ran before (opening opened) (opening_holds opened coherent) front in
    let u : Commits book tid = step_commits book entry tid (ran_shut before (opening opened) (opening_holds opened coherent) (opening_shut opened coherent) front) rest.0 was now in
    let s : Settled tid member book = record { inv = m.inv; tidy = ran_tidy before (opening opened) (opening_tidy opened coherent); ready = unanimous_ready book tid member u.tx u.found u.unanimous } in
    durable_by tid member changes book entry after keeps s now rest k
    (λ still. durable_from tid member after changes (effect book entry) keeps (step_settled tid member book entry s rest.0 now) now rest.1 still)
