-- The acts of a node that runs leave what its log says of the machine: all but a vote that goes on record, whose Prepare goes with
-- it; and where a member learns commit, the log has the Commit of what is on record of it.
use Rattle.qs_world_lawful.proofs.Words.{◌≡◌, inl, inr, ℕ, Bool, true, false, List, Option, Some, None, refl, sym, ap, subst, ◌∙◌, slice_get, is_some, ◌==◌, option_map, lookup, remove_entry, is_at, tid_cmp, ClientNo, Member, ServerNo, Tid, Act, Found, TableValue, committed, TransactionValue, has_learnt, learnt, BookValue, find_transaction, inc_at, learn_node, doubts_after, broken, broken_at, broken_node, effect, effect_act, is_among, is_on_record, member_at, OnRecord, Voter, voter_exact, face}
use Rattle.qs_world_lawful.proofs.Words.{either_way, changed_at_alike, changed_at_here, lookup_changed, removed_none, removed_apart, Inv, begin_may, held, Facet, facet, Prepared, Recovery, entry_of, found_of, IsApplied, IsVoteLogged, Later, IsRecordSafe, HoldsLogged, is_plain}
use Rattle.qs_base.specs.declared.identifiers.Outcome.TheVariants as outcomes
use Rattle.qs_book_journal.specs.declared.entry.Act.TheVariants as acts
use Rattle.qs_ops.specs.declared.vote.Vote.TheVariants as votes
use Rattle.qs_book_machine.specs.Clauses.{is_next_tid, broken_learn}
use Rattle.qs_book_machine.specs.Lawful.{is_in_order}
use Rattle.qs_book_machine.specs.Nodes as machine
use Rattle.qs_book_laws.proofs.Outcomes.{is_new}
use Rattle.qs_book_laws.proofs.Steps.{stepped}
use Rattle.qs_book_laws.proofs.StillActs as still
use Rattle.qs_book_laws.proofs.Stills.{facet_at}
use Rattle.qs_world_lawful.proofs.LearntOn.{IsNewBegin, acted_learnt, has_learnt_now}
use Rattle.qs_world_lawful.proofs.LogFrames.{later, logged_on, logged_by}

-- ---- the nodes

pub plain_facets : (stamp here : ℕ) (act : Act) (book : BookValue) → is_plain act ≡ true → (n : ℕ) → facet_at (effect_act stamp here act book) n ≡ facet_at book n
plain_facets stamp here (acts.Begin tid label client) book plain n = changed_at_alike facet (λ node. record node { begun = tid.seq }) (λ node. refl) book.nodes here n
plain_facets stamp here (acts.Issue tid issuer member number op) book plain n = (still.by_issue here tid issuer member number op book).facets n
plain_facets stamp here (acts.Serve tid member from number reply) book plain n = (still.by_serve here tid member from number stamp reply book).facets n
plain_facets stamp here (acts.Vote tid member votes.Recoverable covers) book plain n = absurd (cc plain)
plain_facets stamp here (acts.Vote tid member votes.ReadOnly covers) book plain n = (still.by_vote here tid member votes.ReadOnly covers book refl).facets n
plain_facets stamp here (acts.Vote tid member votes.Volatile covers) book plain n = (still.by_vote here tid member votes.Volatile covers book refl).facets n
plain_facets stamp here (acts.Vote tid member (votes.Abort reason) covers) book plain n = (still.by_vote here tid member (votes.Abort reason) covers book refl).facets n
plain_facets stamp here (acts.Ask tid) book plain n = refl
plain_facets stamp here (acts.Counted tid peer up_to) book plain n = (still.by_count here tid peer up_to book).facets n
plain_facets stamp here (acts.Decide tid outcome cause) book plain n = refl
plain_facets stamp here (acts.Ending tid member) book plain n = (still.by_end here tid member book).facets n
plain_facets stamp here (acts.Learn tid member outcomes.Commit) book plain n = absurd (cc plain)
plain_facets stamp here (acts.Learn tid member outcomes.Abort) book plain n = (still.by_learn_abort here tid member book).facets n
plain_facets stamp here (acts.Answer client line said) book plain n = (still.by_answer client line book).facets n
plain_facets stamp here (acts.Loan tid client) book plain n = (still.by_loan here tid client book).facets n
plain_facets stamp here (acts.Yield tid client) book plain n = (still.by_yield here tid client book).facets n
plain_facets stamp here acts.Tick book plain n = (still.by_tick here stamp book).facets n
plain_facets stamp here (acts.Crash cause) book plain n = (still.by_crash here book).facets n
plain_facets stamp here (acts.Restart inc pend done) book plain n = absurd (cc plain)

-- the node with that facet
pub with_facet : (o : Option machine.NodeValue) (seen : Facet) → option_map facet o ≡ Some seen → (node : machine.NodeValue) × (o ≡ Some node) × (facet node ≡ seen)
with_facet None seen h = absurd (cc h)
with_facet (Some node) seen h = (node, refl, cc h)

-- ---- transactions

-- the act passes the clauses of its node
pub acting : (book : BookValue) (stamp here : ℕ) (act : Act) (state : machine.NodeValue) → slice_get book.nodes here ≡ Some state → broken book (entry_of here stamp act) ≡ None → broken_node book stamp here state act ≡ None
acting book stamp here act state there lawful =
    subst (λ (o : Option machine.NodeValue). broken_at book stamp here o act ≡ None) there (held (is_in_order book (entry_of here stamp act)) 1 _ lawful).1

-- a lawful begin is new
pub fresh : (book : BookValue) (stamp here : ℕ) (state : machine.NodeValue) → Inv book → slice_get book.nodes here ≡ Some state → (tid : Tid) (label : List ℕ) (client : ClientNo)
    → broken book (entry_of here stamp (acts.Begin tid label client)) ≡ None → find_transaction book tid ≡ None
fresh book stamp here state i there tid label client lawful = by (find_transaction book tid) refl
  where
    next : is_next_tid here state tid ≡ true
    next = begin_may here state book.labels tid label (held state.up 2 _ (acting book stamp here (acts.Begin tid label client) state there lawful)).1

    by : (o : Option TransactionValue) → find_transaction book tid ≡ o → o ≡ None
    by None is = refl
    by (Some tx) is = absurd (is_new book here state tid label client i there next (face tx) (ap (option_map face) is))

-- it is no restart
abbrev pub is_begun : Act → Bool
is_begun (acts.Restart inc pend done) = false
is_begun act = true

pub new_begin : (book : BookValue) (stamp here : ℕ) (state : machine.NodeValue) → Inv book → slice_get book.nodes here ≡ Some state → (act : Act) → is_begun act ≡ true → broken book (entry_of here stamp act) ≡ None → IsNewBegin book act
new_begin book stamp here state i there (acts.Begin tid label client) goes lawful = fresh book stamp here state i there tid label client lawful
new_begin book stamp here state i there (acts.Restart inc pend done) goes lawful = absurd (cc goes)
new_begin book stamp here state i there (acts.Issue tid issuer member number op) goes lawful = tt
new_begin book stamp here state i there (acts.Serve tid member from number reply) goes lawful = tt
new_begin book stamp here state i there (acts.Vote tid member ballot covers) goes lawful = tt
new_begin book stamp here state i there (acts.Ask tid) goes lawful = tt
new_begin book stamp here state i there (acts.Counted tid peer up_to) goes lawful = tt
new_begin book stamp here state i there (acts.Decide tid outcome cause) goes lawful = tt
new_begin book stamp here state i there (acts.Ending tid member) goes lawful = tt
new_begin book stamp here state i there (acts.Learn tid member outcome) goes lawful = tt
new_begin book stamp here state i there (acts.Answer client line said) goes lawful = tt
new_begin book stamp here state i there (acts.Loan tid client) goes lawful = tt
new_begin book stamp here state i there (acts.Yield tid client) goes lawful = tt
new_begin book stamp here state i there acts.Tick goes lawful = tt
new_begin book stamp here state i there (acts.Crash cause) goes lawful = tt

-- the machine after it is a later one
pub acted_later : (book : BookValue) (stamp here : ℕ) (state : machine.NodeValue) → Inv book → slice_get book.nodes here ≡ Some state → (act : Act) → is_begun act ≡ true → broken book (entry_of here stamp act) ≡ None → Later book (effect book (entry_of here stamp act))
acted_later book stamp here state i there act goes lawful =
    later book (effect book (entry_of here stamp act)) (stepped book (entry_of here stamp act) i lawful).kept
    (acted_learnt stamp here act book (new_begin book stamp here state i there act goes lawful))

pub plain_begun : (act : Act) → is_plain act ≡ true → is_begun act ≡ true
plain_begun (acts.Restart inc pend done) plain = absurd (cc plain)
plain_begun (acts.Begin tid label client) plain = refl
plain_begun (acts.Issue tid issuer member number op) plain = refl
plain_begun (acts.Serve tid member from number reply) plain = refl
plain_begun (acts.Vote tid member ballot covers) plain = refl
plain_begun (acts.Ask tid) plain = refl
plain_begun (acts.Counted tid peer up_to) plain = refl
plain_begun (acts.Decide tid outcome cause) plain = refl
plain_begun (acts.Ending tid member) plain = refl
plain_begun (acts.Learn tid member outcome) plain = refl
plain_begun (acts.Answer client line said) plain = refl
plain_begun (acts.Loan tid client) plain = refl
plain_begun (acts.Yield tid client) plain = refl
plain_begun acts.Tick plain = refl
plain_begun (acts.Crash cause) plain = refl

-- ---- what the log says after an act

-- the node after it, and what its logs say then
pub record LoggedAfter (here : ℕ) (new : BookValue) (logs : Recovery → Type 0) : Type 0 where
  pub state : machine.NodeValue
  pub there : slice_get new.nodes here ≡ Some state
  pub logged : (log : Recovery) → logs log → HoldsLogged here new state log

pub by_plain : (book : BookValue) (stamp here : ℕ) (state : machine.NodeValue) → Inv book → slice_get book.nodes here ≡ Some state → (act : Act) → is_plain act ≡ true → broken book (entry_of here stamp act) ≡ None
    → LoggedAfter here (effect book (entry_of here stamp act)) (HoldsLogged here book state)
by_plain book stamp here state i there act plain lawful =
    let at = with_facet (slice_get (effect book (entry_of here stamp act)).nodes here) (facet state) (plain_facets stamp here act book plain here ∙ ap (option_map facet) there) in
    record {
      state = at.0;
      there = at.1;
      logged = λ log h. logged_on here book (effect book (entry_of here stamp act)) state at.0 log (acted_later book stamp here state i there act (plain_begun act plain) lawful)
          (ap (λ (f : Facet). f.committed) at.2) (ap (λ (f : Facet). f.records) at.2) h;
    }

-- ---- it learns commit

module _ (book : BookValue) (stamp here : ℕ) (state : machine.NodeValue) (i : Inv book) (there : slice_get book.nodes here ≡ Some state) (tid : Tid) (server : ServerNo) where
  abbrev member : Member
  member = record { node = record { 0 = here }; server = server }

  abbrev act : Act
  act = acts.Learn tid member outcomes.Commit

  abbrev new : BookValue
  new = effect book (entry_of here stamp act)

  abbrev learning : machine.NodeValue → machine.NodeValue
  learning node = doubts_after tid server.0 (learn_node outcomes.Commit tid server.0 node)

  abbrev pub next : machine.NodeValue
  next = learning state

  pub next_there : slice_get new.nodes here ≡ Some next
  next_there = changed_at_here learning book.nodes here state there

  abbrev taken : List (Voter × OnRecord)
  taken = remove_entry (is_at (machine.voter_cmp (machine.voter tid server.0))) state.records

  table_records : (s : ℕ) (f : TableValue → TableValue) (node : machine.NodeValue) → (machine.with_table s f node).records ≡ node.records
  table_records s f node = either_way (λ (v : machine.NodeValue). v.records) (s == 0) _ _ _ refl
      (either_way (λ (v : machine.NodeValue). v.records) (s == 1) _ _ _ refl
      (either_way (λ (v : machine.NodeValue). v.records) (s == 2) _ _ _ refl
      (either_way (λ (v : machine.NodeValue). v.records) (s == 4) _ _ _ refl
      (either_way (λ (v : machine.NodeValue). v.records) (s == 5) _ _ _ refl refl))))

  table_committed : (s : ℕ) (f : TableValue → TableValue) (node : machine.NodeValue) → (machine.with_table s f node).committed ≡ node.committed
  table_committed s f node = either_way (λ (v : machine.NodeValue). v.committed) (s == 0) _ _ _ refl
      (either_way (λ (v : machine.NodeValue). v.committed) (s == 1) _ _ _ refl
      (either_way (λ (v : machine.NodeValue). v.committed) (s == 2) _ _ _ refl
      (either_way (λ (v : machine.NodeValue). v.committed) (s == 4) _ _ _ refl
      (either_way (λ (v : machine.NodeValue). v.committed) (s == 5) _ _ _ refl refl))))

  committed_table : (node : machine.NodeValue) → ((learn_node outcomes.Commit tid server.0 node).records ≡ remove_entry (is_at (machine.voter_cmp (machine.voter tid server.0))) node.records) × ((learn_node outcomes.Commit tid server.0 node).committed ≡ node.committed)
  committed_table node = (
    ap (remove_entry (is_at (machine.voter_cmp (machine.voter tid server.0)))) (table_records server.0 (λ table. committed table tid) node),
    table_committed server.0 (λ table. committed table tid) node,
  )

  facet_is : facet next ≡ facet (learn_node outcomes.Commit tid server.0 state)
  facet_is = still.doubts_facet tid server.0 (learn_node outcomes.Commit tid server.0 state)

  pub records_are : next.records ≡ taken
  records_are = ap (λ (f : Facet). f.records) facet_is ∙ (committed_table state).0

  committed_are : next.committed ≡ state.committed
  committed_are = ap (λ (f : Facet). f.committed) facet_is ∙ (committed_table state).1

  abbrev test : Voter → Bool
  test = is_at (machine.voter_cmp (machine.voter tid server.0))

  abbrev found_in : List (Voter × OnRecord) → Tid → ℕ → Option OnRecord
  found_in records t s = lookup (is_at (machine.voter_cmp (machine.voter t s))) records

  -- what is still on record under that voter was so before
  was_recorded : (t : Tid) (s : ℕ) (rec : OnRecord) → machine.voter tid server.0 ≡ machine.voter t s → machine.record_of next t s ≡ Some rec → is_some (machine.record_of state tid server.0) ≡ true
  was_recorded t s rec e is = by (machine.record_of state tid server.0) refl
    where
      taken_has : found_in taken tid server.0 ≡ Some rec
      taken_has = ap (λ (rs : List (Voter × OnRecord)). found_in rs tid server.0) (sym records_are) ∙ subst (λ (v : Voter). machine.record_of next v.tid v.server.0 ≡ Some rec) (sym e) is

      clash : None ≡ Some rec → ⊥
      clash c = cc c

      by : (o : Option OnRecord) → machine.record_of state tid server.0 ≡ o → is_some (machine.record_of state tid server.0) ≡ true
      by (Some found) at = ap is_some at
      by None at = absurd (clash (sym (removed_none test test state.records at) ∙ taken_has))

  learner : broken book (entry_of here stamp act) ≡ None → (tx : TransactionValue) × (find_transaction book tid ≡ Some tx)
  learner lawful = by (find_transaction book tid) refl (held state.up 2 _ (acting book stamp here act state there lawful)).1
    where
      by : (o : Option TransactionValue) → find_transaction book tid ≡ o → broken_learn here state o member outcomes.Commit ≡ None → (tx : TransactionValue) × (find_transaction book tid ≡ Some tx)
      by None is h = absurd (cc h)
      by (Some tx) is h = (tx, is)

  -- the Commit of what is on record stands in the log
  pub by_learn : broken book (entry_of here stamp act) ≡ None → (log : Recovery) → (is_some (machine.record_of state tid server.0) ≡ true → is_among log.committed tid ≡ true) → HoldsLogged here book state log → HoldsLogged here new next log
  by_learn lawful log done h = logged_by here book new state next log on committed_are vote_on record_on h
    where
      on : Later book new
      on = acted_later book stamp here state i there act refl lawful

      apart : (v : Voter) → test v ≡ false → (k : Voter) → is_at (machine.voter_cmp v) k ≡ true → test k ≡ false
      apart v far k is = subst (λ (w : Voter). test w ≡ false) (voter_exact v k is) far

      left_there : (t : Tid) (s : ℕ) → test (machine.voter t s) ≡ false → machine.record_of next t s ≡ machine.record_of state t s
      left_there t s far = ap (λ (rs : List (Voter × OnRecord)). found_in rs t s) records_are ∙ removed_apart test (is_at (machine.voter_cmp (machine.voter t s))) (apart (machine.voter t s) far) state.records

      -- one more of that voter would be of what has its Commit
      record_on : (t : Tid) (s : ℕ) (rec : OnRecord) → machine.record_of next t s ≡ Some rec → IsRecordSafe book log (machine.voter t s) rec.covers
      record_on t s rec is = by (test (machine.voter t s)) refl
        where
          by : (b : Bool) → test (machine.voter t s) ≡ b → IsRecordSafe book log (machine.voter t s) rec.covers
          by true same =
              let e : machine.voter tid server.0 ≡ machine.voter t s = voter_exact (machine.voter tid server.0) (machine.voter t s) same in
              inr (inl (subst (λ (v : Voter). is_among log.committed v.tid ≡ true) e (done (was_recorded t s rec e is))))
          by false far = h.kept t s rec (sym (left_there t s far) ∙ is)

      recorded : (state : machine.NodeValue) (found : Found) → is_on_record state found ≡ true → is_some (machine.record_of state found.tid found.server.0) ≡ true
      recorded state found is = by (machine.record_of state found.tid found.server.0) refl is
        where
          by : (o : Option OnRecord) → machine.record_of state found.tid found.server.0 ≡ o → (elim o [ None ↦ false | Some rec ↦ rec.covers == found.covers ]) ≡ true → is_some (machine.record_of state found.tid found.server.0) ≡ true
          by None at k = absurd (cc k)
          by (Some rec) at k = ap is_some at

      applied : (vote : Prepared) → is_on_record state (found_of vote) ≡ true → machine.voter tid server.0 ≡ machine.voter vote.tid vote.server.0 → IsApplied here new next log vote
      applied vote is e =
          let at = learner lawful in
          let inc = inc_at book (record { 0 = here }) in
          record {
            tx = learnt member inc outcomes.Commit at.0;
            found = ap (find_transaction new) (ap (λ (v : Voter). v.tid) (sym e)) ∙ lookup_changed (is_at (tid_cmp tid)) (learnt member inc outcomes.Commit) book.transactions at.0 at.1;
            has_commit = subst (λ (v : Voter). is_among log.committed v.tid ≡ true) e (done (subst (λ (v : Voter). is_some (machine.record_of state v.tid v.server.0) ≡ true) (sym e) (recorded state (found_of vote) is)));
            learnt = inl (subst (λ (v : Voter). has_learnt (learnt member inc outcomes.Commit at.0) (member_at here v.server.0) ≡ true) e (has_learnt_now member inc at.0));
          }

      vote_on : (vote : Prepared) → is_on_record state (found_of vote) ≡ true → IsVoteLogged here new next log vote
      vote_on vote is = by (test (machine.voter vote.tid vote.server.0)) refl
        where
          by : (b : Bool) → test (machine.voter vote.tid vote.server.0) ≡ b → IsVoteLogged here new next log vote
          by true same = inr (applied vote is (voter_exact (machine.voter tid server.0) (machine.voter vote.tid vote.server.0) same))
          by false far = inl (ap (λ (o : Option OnRecord). elim o [ None ↦ false | Some rec ↦ rec.covers == vote.covers ]) (left_there vote.tid vote.server.0 far) ∙ is)
