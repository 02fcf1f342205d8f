-- Every lawful step changes committed files and notes by changes of committed transactions alone.
use Rattle.qs_book_laws.proofs.Words.{◌≡◌, ℕ, ◌+◌, [], ◌∷◌, ◌++◌, Bool, true, false, not, List, Option, Some, None, refl, sym, ap, subst, ◌∙◌, slice_get, list_all, ClientNo, Member, Tid, Act, Begin, Issue, Serve, Ask, Counted, Decide, Ending, Learn, Loan, Yield, Tick, Crash, Restart, Entry, TransactionValue, asked_at, voted, learnt, BookValue, find_transaction, with_node, with_transaction, begin, vote, learn, learn_node, doubts_after, inc_at, broken_vote, broken_learn, is_in_order, broken_act}
use Rattle.qs_book_laws.proofs.Words.{broken_node, broken_at, broken, effect_act, effect, IsLawful, book_after, NodeValue, pending_at, opening, broken_restart, is_found_commit, Opened, IsCoherent, IsCommitted, TakesCommitted, LeavesCommitted}
use Rattle.qs_base.specs.declared.identifiers.Outcome.TheVariants as outcomes
use Rattle.qs_ops.specs.declared.vote.Vote.TheVariants as votes
use Rattle.qs_book_journal.specs.declared.entry.Act.TheVariants.{Answer}
use Rattle.qs_book_journal.specs.declared.entry.Act.TheVariants as acts
use Rattle.qs_book_machine.specs.Clauses.{broken_ask, may_ask}
use Rattle.qs_book_laws.specs.Laws.{may_take}
use Rattle.qs_book_laws.proofs.Fates.{commit_stays}
use Rattle.qs_book_laws.proofs.Histories.{learns_cell}
use Rattle.qs_book_laws.proofs.Openings.{opening_holds}
use Rattle.qs_book_laws.proofs.Outcomes.{Inv, Kept, Moves}
use Rattle.qs_book_laws.proofs.Reopens.{restart_shut, restart_takes, restart_commits, decide_still}
use Rattle.qs_book_laws.proofs.Shut.{Shut, by_still, by_begin, by_ask, shut_step, node_before}
use Rattle.qs_book_laws.proofs.ShutOpenings.{opening_shut}
use Rattle.qs_book_laws.proofs.Steps.{held, unheld, at_acted, stepped, ran, lawful_front, lawful_rest}
use Rattle.qs_book_laws.proofs.StillActs as of
use Rattle.qs_book_laws.proofs.Stills.{Still, transaction_still}
use Rattle.qs_book_laws.proofs.Takes.{takes_none, leaves_still, takes_over, at_node, learn_takes, learn_changes, some_same}
use Rattle.qs_book_laws.proofs.Votes.{vote_changes}
use Rattle.qs_book_laws.proofs.Faces.{vote_by, recorded_by}

-- what a step does to committed files and notes, and that what is shut stays so
pub record Takes (book new : BookValue) (quiet : Bool) : Type 0 where
  pub shut : Shut new
  pub takes : (n : ℕ) (was at : NodeValue) → slice_get book.nodes n ≡ Some was → slice_get new.nodes n ≡ Some at → TakesCommitted new was at
  pub leaves : quiet ≡ true → (n : ℕ) (was at : NodeValue) → slice_get book.nodes n ≡ Some was → slice_get new.nodes n ≡ Some at → LeavesCommitted was at

-- a step that leaves them
leaving : (book new : BookValue) (quiet : Bool) → Shut new → ((n : ℕ) (was at : NodeValue) → slice_get book.nodes n ≡ Some was → slice_get new.nodes n ≡ Some at → LeavesCommitted was at) → Takes book new quiet
leaving book new quiet shut leaves = record {
  shut = shut;
  takes = λ n was at was_is at_is. takes_none new was at (leaves n was at was_is at_is);
  leaves = λ q. leaves;
}

still_takes : (book new : BookValue) (quiet : Bool) → Shut book → Kept book new → Still book new → Takes book new quiet
still_takes book new quiet shut kept still = leaving book new quiet (by_still book new shut kept still) (leaves_still book new still)

leaves_self : (v : NodeValue) → LeavesCommitted v v
leaves_self v = record { contents = refl; notes = refl }

-- ---- acts of a node that is up

vote_takes : (book : BookValue) (here : ℕ) (node : NodeValue) (tid : Tid) (member : Member) (covers : ℕ) → Shut book → slice_get book.nodes here ≡ Some node
    → broken_vote here node tid (find_transaction book tid) member votes.Recoverable covers ≡ None → Kept book (vote here tid member votes.Recoverable covers book) → Takes book (vote here tid member votes.Recoverable covers book) true
vote_takes book here node tid member covers shut at_here h kept =
    leaving book (vote here tid member votes.Recoverable covers book) true
    (shut_step book (vote here tid member votes.Recoverable covers book) shut kept
    (λ q at s. (transaction_still tid (voted member (inc_at book (record { 0 = here })) votes.Recoverable) (λ tx. refl) (with_node here on_record book)).asks q ∙ s.asks)
    (node_before here on_record book node at_here (vote_changes book here node tid member votes.Recoverable covers (recorded_by book here tid member covers (pending_at node tid member.server.0)) h)))
    (at_node here on_record book node LeavesCommitted at_here (record { contents = refl; notes = refl }) leaves_self)
  where
    on_record : NodeValue → NodeValue
    on_record = vote_by book here tid member votes.Recoverable covers

learn_commit_takes : (book : BookValue) (here : ℕ) (node : NodeValue) (tid : Tid) (member : Member) → Shut book → slice_get book.nodes here ≡ Some node
    → broken_learn here node (find_transaction book tid) member outcomes.Commit ≡ None → Kept book (learn here tid member outcomes.Commit book) → Takes book (learn here tid member outcomes.Commit book) false
learn_commit_takes book here node tid member shut at_here h kept = record {
  shut =
      shut_step book last shut kept
      (λ q at s. (transaction_still tid (learnt member (inc_at book (record { 0 = here })) outcomes.Commit) (of.learnt_asked member (inc_at book (record { 0 = here })) outcomes.Commit) (with_node here learns book)).asks q ∙ s.asks)
      (node_before here learns book node at_here (learn_changes book node tid member.server.0));
  takes = λ n was at was_is at_is.
      takes_over book last was at (λ q. commit_stays book last q kept)
      (at_node here learns book node (λ a b. TakesCommitted book a b) at_here (learn_takes book node tid is member.server.0) (λ v. takes_none book v v (leaves_self v)) n was at was_is at_is);
  leaves = λ q. absurd (cc q);
}
  where
    last : BookValue
    last = learn here tid member outcomes.Commit book

    learns : NodeValue → NodeValue
    learns v = doubts_after tid member.server.0 (learn_node outcomes.Commit tid member.server.0 v)

    is : IsCommitted book tid
    is = learns_cell here node (find_transaction book tid) member outcomes.Commit h

begin_takes : (book : BookValue) (here : ℕ) (node : NodeValue) (tid : Tid) (label : List ℕ) (client : ClientNo) → Shut book → slice_get book.nodes here ≡ Some node
    → Kept book (begin here tid label client book) → Takes book (begin here tid label client book) true
begin_takes book here node tid label client shut at_here kept =
    leaving book (begin here tid label client book) true (by_begin book here node tid label client at_here shut kept)
    (at_node here (λ (v : NodeValue). record v { begun = tid.seq }) book node LeavesCommitted at_here (record { contents = refl; notes = refl }) leaves_self)

same_at : (book : BookValue) (n : ℕ) (was at : NodeValue) → slice_get book.nodes n ≡ Some was → slice_get book.nodes n ≡ Some at → LeavesCommitted was at
same_at book n was at was_is at_is = let same : was ≡ at = some_same was at (sym was_is ∙ at_is) in subst (λ (v : NodeValue). LeavesCommitted was v) same (leaves_self was)

ask_may : (here : ℕ) (tid : Tid) (o : Option TransactionValue) → broken_ask here tid o ≡ None → (tx : TransactionValue) × (o ≡ Some tx) × (may_ask here tid tx ≡ true)
ask_may here tid None h = absurd (cc h)
ask_may here tid (Some tx) h = (tx, refl, (held (may_ask here tid tx) 50 None h).0)

ask_takes : (book : BookValue) (here : ℕ) (node : NodeValue) (tid : Tid) → Shut book → slice_get book.nodes here ≡ Some node → broken_ask here tid (find_transaction book tid) ≡ None
    → Kept book (with_transaction tid (asked_at book.place) book) → Takes book (with_transaction tid (asked_at book.place) book) true
ask_takes book here node tid shut at_here h kept =
    let may : (tx : TransactionValue) × (find_transaction book tid ≡ Some tx) × (may_ask here tid tx ≡ true) = ask_may here tid (find_transaction book tid) h in
    leaving book (with_transaction tid (asked_at book.place) book) true (by_ask book here node tid may.0 at_here may.1 may.2 shut kept) (same_at book)

acted_takes : (book : BookValue) (stamp here : ℕ) (node : NodeValue) (act : Act) → Shut book → slice_get book.nodes here ≡ Some node → broken_act book stamp here node act ≡ None
    → Kept book (effect_act stamp here act book) → Takes book (effect_act stamp here act book) (not (may_take act))
acted_takes book stamp here node (Begin tid label client) shut at h kept = begin_takes book here node tid label client shut at kept
acted_takes book stamp here node (Issue tid issuer member number op) shut at h kept = still_takes book _ true shut kept (of.by_issue here tid issuer member number op book)
acted_takes book stamp here node (Serve tid member from number reply) shut at h kept = still_takes book _ true shut kept (of.by_serve here tid member from number stamp reply book)
acted_takes book stamp here node (acts.Vote tid member votes.ReadOnly covers) shut at h kept = still_takes book _ true shut kept (of.by_vote here tid member votes.ReadOnly covers book refl)
acted_takes book stamp here node (acts.Vote tid member (votes.Abort reason) covers) shut at h kept = still_takes book _ true shut kept (of.by_vote here tid member (votes.Abort reason) covers book refl)
acted_takes book stamp here node (acts.Vote tid member votes.Volatile covers) shut at h kept = still_takes book _ true shut kept (of.by_vote here tid member votes.Volatile covers book refl)
acted_takes book stamp here node (acts.Vote tid member votes.Recoverable covers) shut at h kept = vote_takes book here node tid member covers shut at h kept
acted_takes book stamp here node (Ask tid) shut at h kept = ask_takes book here node tid shut at h kept
acted_takes book stamp here node (Counted tid peer up_to) shut at h kept = still_takes book _ true shut kept (of.by_count here tid peer up_to book)
acted_takes book stamp here node (Decide tid outcome cause) shut at h kept = still_takes book _ true shut kept (decide_still tid outcome cause book)
acted_takes book stamp here node (Ending tid member) shut at h kept = still_takes book _ true shut kept (of.by_end here tid member book)
acted_takes book stamp here node (Learn tid member outcomes.Commit) shut at h kept = learn_commit_takes book here node tid member shut at h kept
acted_takes book stamp here node (Learn tid member outcomes.Abort) shut at h kept = still_takes book _ true shut kept (of.by_learn_abort here tid member book)
acted_takes book stamp here node (Answer client line said) shut at h kept = still_takes book _ true shut kept (of.by_answer client line book)
acted_takes book stamp here node (Loan tid client) shut at h kept = still_takes book _ true shut kept (of.by_loan here tid client book)
acted_takes book stamp here node (Yield tid client) shut at h kept = still_takes book _ true shut kept (of.by_yield here tid client book)
acted_takes book stamp here node Tick shut at h kept = still_takes book _ true shut kept (of.by_tick here stamp book)
acted_takes book stamp here node (Crash cause) shut at h kept = still_takes book _ true shut kept (of.by_crash here book)
acted_takes book stamp here node (Restart inc pend done) shut at h kept = absurd (cc h)

-- ---- a step

node_takes : (book : BookValue) (stamp here : ℕ) (node : NodeValue) (act : Act) → Inv book → Shut book → slice_get book.nodes here ≡ Some node → broken_node book stamp here node act ≡ None
    → Kept book (effect_act stamp here act book) → Takes book (effect_act stamp here act book) (not (may_take act))
node_takes book stamp here node (Restart inc pend done) i shut at h kept =
    let lawful : list_all (is_found_commit here book node) done ≡ true = restart_commits here inc pend done book node (unheld node.up 2 (broken_restart here book node inc pend done) h) in
    record {
      shut = restart_shut here inc pend done book node i shut at lawful;
      takes = restart_takes here inc pend done book node i shut at lawful;
      leaves = λ q. absurd (cc q);
    }
node_takes book stamp here node act i shut at h kept = acted_takes book stamp here node act shut at (held node.up 2 (broken_act book stamp here node act) h).1 kept

at_takes : (book : BookValue) (stamp here : ℕ) (o : Option NodeValue) (act : Act) → Inv book → Shut book → slice_get book.nodes here ≡ o → broken_at book stamp here o act ≡ None
    → Kept book (effect_act stamp here act book) → Takes book (effect_act stamp here act book) (not (may_take act))
at_takes book stamp here None act i shut at h kept = absurd (cc h)
at_takes book stamp here (Some node) act i shut at h kept = node_takes book stamp here node act i shut at h kept

pub step_takes : (book : BookValue) (entry : Entry) → Inv book → Shut book → broken book entry ≡ None → Takes book (effect book entry) (not (may_take entry.act))
step_takes book entry i shut h =
    let at : broken_at book entry.stamp entry.node.0 (slice_get book.nodes entry.node.0) entry.act ≡ None = (held (is_in_order book entry) 1 _ h).1 in
    let m : Moves book (effect_act entry.stamp entry.node.0 entry.act book) = at_acted book entry.stamp entry.node.0 (slice_get book.nodes entry.node.0) entry.act i refl at in
    stamped (effect_act entry.stamp entry.node.0 entry.act book) entry.stamp entry.node.0 (book.place + 1)
    (at_takes book entry.stamp entry.node.0 (slice_get book.nodes entry.node.0) entry.act i shut refl at m.kept)
  where
    stamped : (new : BookValue) (stamp node place : ℕ) → Takes book new (not (may_take entry.act)) → Takes book (record new { stamp = stamp; node = node; place = place }) (not (may_take entry.act))
    stamped new stamp node place t =
        let last : BookValue = record new { stamp = stamp; node = node; place = place } in
        record {
          shut = by_still new last t.shut (λ tid seen is closed. is) (record { asks = λ tid. refl; facets = λ n. refl });
          takes = λ n was at was_is at_is. takes_over new last was at (λ tid is. is) (t.takes n was at was_is at_is);
          leaves = t.leaves;
        }

-- ---- histories

pub ran_shut : (entries : List Entry) (book : BookValue) → Inv book → Shut book → IsLawful book entries → Shut (book_after book entries)
ran_shut [] book i shut h = shut
ran_shut (entry ∷ entries) book i shut h =
    ran_shut entries (effect book entry) (stepped book entry i h.0).inv (step_takes book entry i shut h.0).shut h.1

history_takes : (opened : List Opened) (before after : List Entry) (entry : Entry) → IsCoherent opened → IsLawful (opening opened) (before ++ (entry ∷ after))
    → Takes (book_after (opening opened) before) (effect (book_after (opening opened) before) entry) (not (may_take entry.act))
history_takes opened before after entry coherent lawful =
    let front : IsLawful (opening opened) before = lawful_front before (entry ∷ after) (opening opened) lawful in
    let m : Moves (opening opened) (book_after (opening opened) before) = ran before (opening opened) (opening_holds opened coherent) front in
    step_takes (book_after (opening opened) before) entry m.inv (ran_shut before (opening opened) (opening_holds opened coherent) (opening_shut opened coherent) front) (lawful_rest before (entry ∷ after) (opening opened) lawful).0

pub takes_committed : (opened : List Opened) (before after : List Entry) (entry : Entry) (n : ℕ) (was at : NodeValue) → IsCoherent opened → IsLawful (opening opened) (before ++ (entry ∷ after))
    → slice_get (book_after (opening opened) before).nodes n ≡ Some was → slice_get (effect (book_after (opening opened) before) entry).nodes n ≡ Some at
    → TakesCommitted (effect (book_after (opening opened) before) entry) was at
takes_committed opened before after entry n was at coherent lawful was_is at_is = (history_takes opened before after entry coherent lawful).takes n was at was_is at_is

pub leaves_committed : (opened : List Opened) (before after : List Entry) (entry : Entry) (n : ℕ) (was at : NodeValue) → IsCoherent opened → IsLawful (opening opened) (before ++ (entry ∷ after)) → may_take entry.act ≡ false
    → slice_get (book_after (opening opened) before).nodes n ≡ Some was → slice_get (effect (book_after (opening opened) before) entry).nodes n ≡ Some at
    → LeavesCommitted was at
leaves_committed opened before after entry n was at coherent lawful quiet was_is at_is = (history_takes opened before after entry coherent lawful).leaves (ap not quiet) n was at was_is at_is
