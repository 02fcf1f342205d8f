-- What the machine has of the servers of a node goes on through each act of the node that serves nothing, as the node's own servers do.
use Rattle.std.proofs.Common.{◌≡◌, ◌∙◌, ℕ, ◌==◌, Bool, true, false, List, Option, Some, None, refl, sym, ap, subst, inl, inr}
use Rattle.std.proofs.lemmas.Bool.{eqb-true}
use Rattle.std.specs.Prelude.{◌⊎◌, ◌&&◌, [], if◌then◌else◌, length, slice_get}
use Rattle.qs_base.specs.declared.identifiers.Class.TheVariants as classes
use Rattle.qs_base.specs.declared.identifiers.ClientNo.{ClientNo}
use Rattle.qs_base.specs.declared.identifiers.Member.{Member}
use Rattle.qs_base.specs.declared.identifiers.NodeNo.{NodeNo}
use Rattle.qs_base.specs.declared.identifiers.Outcome.{Outcome}
use Rattle.qs_base.specs.declared.identifiers.Outcome.TheVariants as outcomes
use Rattle.qs_base.specs.declared.identifiers.ServerNo.{ServerNo}
use Rattle.qs_base.specs.declared.identifiers.Tid.{Tid}
use Rattle.qs_base_lemmas.proofs.Tests.{and_first}
use Rattle.qs_book_journal.specs.declared.entry.Act.{Act}
use Rattle.qs_book_journal.specs.declared.entry.Act.TheVariants as acts
use Rattle.qs_book_laws.proofs.Holding.{fold_nodes, yield_nodes}
use Rattle.qs_book_laws.proofs.Maps.{changed_at_here}
use Rattle.qs_book_laws.proofs.Steps.{held, passed}
use Rattle.qs_book_machine.specs.Book.{BookValue, crossed_in, find_transaction, hear, inc_at, issue, pending_in, waiting_of, with_owner}
use Rattle.qs_book_machine.specs.Book as book_rules
use Rattle.qs_book_machine.specs.Clauses.{borrower_at, broken_ending, broken_issue, broken_learn, is_immediate, may_end, may_learn}
use Rattle.qs_book_machine.specs.Lawful.{broken, broken_act, broken_at, broken_node, effect, is_in_order}
use Rattle.qs_book_machine.specs.Nodes as machine
use Rattle.qs_book_machine.specs.Transaction.{TransactionValue, is_commit, is_outcome, part_of}
use Rattle.qs_book_machine.specs.declared.state.Owner.{Owner}
use Rattle.qs_book_machine.specs.declared.transaction.Cell.{Cell}
use Rattle.qs_book_machine.specs.declared.transaction.Cell.TheVariants as cells
use Rattle.qs_ops.specs.Members.{class_of}
use Rattle.qs_ops.specs.Server.{after_notice, after_vote}
use Rattle.qs_ops.specs.Servers.{is_client_no, names_no, scratch_no, timers_no, windows_no}
use Rattle.qs_ops.specs.Timers.{ticked}
use Rattle.qs_ops.specs.declared.answer.Answer.{Answer}
use Rattle.qs_ops.specs.declared.answer.Cause.{Cause}
use Rattle.qs_ops.specs.declared.operation.Op.{Op}
use Rattle.qs_ops.specs.declared.vote.Notice.TheVariants as notices
use Rattle.qs_ops.specs.declared.vote.Vote.{Vote}
use Rattle.qs_node_servers.specs.Servers.{ServersValue, with_server}
use Rattle.qs_node_servers.specs.Servers as numbers
use Rattle.qs_node_step.specs.Deciding.{notice_of}
use Rattle.qs_world.specs.Posting.{entry_of}
use Rattle.qs_world_lawful.specs.Tables.{HoldsServers, is_seen, seen_in}
use Rattle.qs_world_lawful.proofs.Alike.{learnt_servers, other_state, voted_servers}
use Rattle.qs_world_lawful.proofs.Apart.{Apart, same_or_apart}
use Rattle.qs_world_lawful.proofs.AsideActs.{IsStill, crossings_same}
use Rattle.qs_world_lawful.proofs.AsideIssue.{NodeOn, issue_leaves}
use Rattle.qs_world_lawful.proofs.CrossedTables.{servers_alike}
use Rattle.qs_world_lawful.proofs.EntryTurns.{Begins, begins}
use Rattle.qs_world_lawful.proofs.LastsWell.{LastsWell}
use Rattle.qs_world_lawful.proofs.MemberWaits.{seen_committed, seen_here}
use Rattle.qs_world_lawful.proofs.SameWaits.{seen_alike}
use Rattle.qs_world_lawful.proofs.ServedTables.{ended_servers, ticked_servers}
use Rattle.qs_world_lawful.proofs.States.{learn_state, vote_state}

-- the machine has what servers of a node that runs hold
pub record HoldsSeen (here : NodeNo) (book : BookValue) (servers : ServersValue) : Type 0 where
  pub state : machine.NodeValue
  pub there : slice_get book.nodes here.0 ≡ Some state
  pub up : state.up ≡ true
  pub holds : HoldsServers (is_seen book here) state servers

-- timers alone are told that a transaction ends
pub timers_alone : (n : ℕ) → is_immediate (class_of n) ≡ true → n ≡ timers_no
timers_alone n = by (n == names_no) (n == timers_no) refl
  where
    none : (c d e : Bool) → is_immediate (if c then classes.Standard else if d then classes.Delayed else if e then classes.Activity else classes.Recoverable) ≡ true → ⊥
    none true d e is = cc is
    none false true e is = cc is
    none false false true is = cc is
    none false false false is = cc is

    by : (a b : Bool) → (n == timers_no) ≡ b
        → is_immediate (if a then classes.Volatile else if b then classes.Immediate else if n == windows_no then classes.Standard else if n == scratch_no then classes.Delayed else if is_client_no n then classes.Activity else classes.Recoverable) ≡ true → n ≡ timers_no
    by true b at is = absurd (cc is)
    by false true at is = eqb-true n timers_no at
    by false false at is = absurd (none (n == windows_no) (n == scratch_no) (is_client_no n) is)

committed_cell : (c : Cell) → is_outcome outcomes.Commit c ≡ true → is_commit c ≡ true
committed_cell cells.Commit is = refl
committed_cell cells.Abort is = absurd (cc is)
committed_cell cells.Open is = absurd (cc is)

module _ (book : BookValue) (here : NodeNo) (stamp : ℕ) (servers : ServersValue) (w : LastsWell book) (s : HoldsSeen here book servers) where
  abbrev after : Act → BookValue
  after act = effect book (entry_of here.0 stamp act)

  -- what its clauses let stand, where it is no restart
  ran : (act : Act) → broken_node book stamp here.0 s.state act ≡ (if s.state.up then broken_act book stamp here.0 s.state act else Some 2) → broken book (entry_of here.0 stamp act) ≡ None → broken_act book stamp here.0 s.state act ≡ None
  ran act same fine = (held s.state.up 2 _ (sym same ∙ subst (λ (o : Option machine.NodeValue). broken_at book stamp here.0 o act ≡ None) s.there (held (is_in_order book (entry_of here.0 stamp act)) 1 _ fine).1)).1

  -- ---- acts that leave what servers hold

  left : (act : Act) → IsStill act → slice_get (after act).nodes here.0 ≡ slice_get book.nodes here.0 → HoldsSeen here (after act) servers
  left act still nodes = record {
    state = s.state;
    there = nodes ∙ s.there;
    up = s.up;
    holds = servers_alike (is_seen book here) (is_seen (after act) here) s.state servers (seen_alike book (after act) here (crossings_same stamp here.0 act still book)) s.holds;
  }

  pub asked : (tid : Tid) → HoldsSeen here (after (acts.Ask tid)) servers
  asked tid = left (acts.Ask tid) tt refl

  pub counted : (tid : Tid) (peer : NodeNo) (up_to : ℕ) → HoldsSeen here (after (acts.Counted tid peer up_to)) servers
  counted tid peer up_to = left (acts.Counted tid peer up_to) tt refl

  pub decided : (tid : Tid) (outcome : Outcome) (cause : Option Cause) → HoldsSeen here (after (acts.Decide tid outcome cause)) servers
  decided tid outcome cause = left (acts.Decide tid outcome cause) tt refl

  pub answered : (client : ClientNo) (line : ℕ) (said : Answer) → HoldsSeen here (after (acts.Answer client line said)) servers
  answered client line said = left (acts.Answer client line said) tt
      (ap (λ (ns : List machine.NodeValue). slice_get ns here.0) (fold_nodes hear (λ x y. refl) (waiting_of (slice_get book.owners client.0)) (with_owner client.0 (λ (owner : Owner). record owner { line = line; waiting = [] }) book)))

  pub yielded : (tid : Tid) (client : ClientNo) → HoldsSeen here (after (acts.Yield tid client)) servers
  yielded tid client = left (acts.Yield tid client) tt (ap (λ (ns : List machine.NodeValue). slice_get ns here.0) (yield_nodes (inc_at book (record { 0 = here.0 })) tid (borrower_at client here.0) book))

  -- a request may cross its transaction at a server here
  pub requested : (tid : Tid) (issuer member : Member) (number : ℕ) (op : Op) → broken book (entry_of here.0 stamp (acts.Issue tid issuer member number op)) ≡ None → HoldsSeen here (after (acts.Issue tid issuer member number op)) servers
  requested tid issuer member number op fine = by (find_transaction book tid) refl
    where
      may : broken_issue here.0 s.state (length book.nodes) tid (find_transaction book tid) issuer member number op ≡ None
      may = ran (acts.Issue tid issuer member number op) refl fine

      by : (o : Option TransactionValue) → find_transaction book tid ≡ o → HoldsSeen here (after (acts.Issue tid issuer member number op)) servers
      by None none = absurd (cc (subst (λ (o : Option TransactionValue). broken_issue here.0 s.state (length book.nodes) tid o issuer member number op ≡ None) none may))
      by (Some tx) found =
          let on : NodeOn book (issue here.0 tid issuer member number op book) here s.state servers = issue_leaves book here.0 tid issuer member number op tx found here s.state s.there servers s.up in
          record { state = on.later; there = on.there; up = on.left.up ∙ s.up; holds = on.holds s.holds }

  -- what begins is crossed nowhere
  pub begun : (tid : Tid) (label : List ℕ) (client : ClientNo) → broken book (entry_of here.0 stamp (acts.Begin tid label client)) ≡ None → HoldsSeen here (after (acts.Begin tid label client)) servers
  begun tid label client fine = record {
    state = record s.state { begun = tid.seq };
    there = changed_at_here (λ (v : machine.NodeValue). record v { begun = tid.seq }) book.nodes here.0 s.state s.there;
    up = s.up;
    holds = other_state (is_seen new here) s.state (record s.state { begun = tid.seq }) servers refl refl refl refl refl refl still.doubts still;
  }
    where
      new : BookValue
      new = after (acts.Begin tid label client)

      b : Begins book (entry_of here.0 stamp (acts.Begin tid label client))
      b = begins book (entry_of here.0 stamp (acts.Begin tid label client)) w.inv fine tid label client refl

      seen_on : (n : ℕ) (t : Tid) → is_seen new here n t ≡ is_seen book here n t
      seen_on n t = by (same_or_apart b.tid t)
        where
          by : (b.tid ≡ t) ⊎ Apart b.tid t → is_seen new here n t ≡ is_seen book here n t
          by (inl same) = subst (λ (u : Tid). is_seen new here n u ≡ is_seen book here n u) same (ap (seen_in here n) b.stands ∙ sym (ap (seen_in here n) b.new))
          by (inr far) = ap (seen_in here n) (b.others t far)

      still : HoldsServers (is_seen new here) s.state servers
      still = servers_alike (is_seen book here) (is_seen new here) s.state servers seen_on s.holds

  -- ---- acts that change what a server holds

  -- the state of the node, and its servers, are changed alike
  changed : (act : Act) → IsStill act → (f : machine.NodeValue → machine.NodeValue) (later : ServersValue) → slice_get (after act).nodes here.0 ≡ Some (f s.state) → (f s.state).up ≡ s.state.up → HoldsServers (is_seen book here) (f s.state) later
      → HoldsSeen here (after act) later
  changed act still f later there up holds = record {
    state = f s.state;
    there = there;
    up = up ∙ s.up;
    holds = servers_alike (is_seen book here) (is_seen (after act) here) (f s.state) later (seen_alike book (after act) here (crossings_same stamp here.0 act still book)) holds;
  }

  pub time_passed : HoldsSeen here (after acts.Tick) (with_server numbers.timers_no (λ value. record value { timers = ticked value.timers }) servers)
  time_passed = changed acts.Tick tt (book_rules.tick_node stamp) _ (changed_at_here (book_rules.tick_node stamp) book.nodes here.0 s.state s.there) refl (ticked_servers (is_seen book here) s.state servers s.holds stamp)

  pub ended : (tid : Tid) (member : Member) → broken book (entry_of here.0 stamp (acts.Ending tid member)) ≡ None → HoldsSeen here (after (acts.Ending tid member)) (with_server member.server (λ value. after_notice value tid notices.Ending) servers)
  ended tid member fine = changed (acts.Ending tid member) tt (book_rules.end_node tid) _ (changed_at_here (book_rules.end_node tid) book.nodes here.0 s.state s.there) refl
      (ended_servers (is_seen book here) s.state servers s.holds member.server (timers_alone member.server.0 (immediate (find_transaction book tid) (ran (acts.Ending tid member) refl fine))) tid)
    where
      immediate : (o : Option TransactionValue) → broken_ending here.0 s.state o member ≡ None → is_immediate (class_of member.server.0) ≡ true
      immediate None k = absurd (cc k)
      immediate (Some tx) k = and_first (is_immediate (class_of member.server.0)) _ (and_first (is_immediate (class_of member.server.0) && (member.node.0 == here.0)) _ (held (may_end here.0 s.state tx member) 90 None k).0)

  pub learnt : (tid : Tid) (member : Member) (outcome : Outcome) → broken book (entry_of here.0 stamp (acts.Learn tid member outcome)) ≡ None
      → HoldsSeen here (after (acts.Learn tid member outcome)) (with_server member.server (λ value. after_notice value tid (notice_of outcome)) servers)
  learnt tid member outcome fine = changed (acts.Learn tid member outcome) tt (λ v. book_rules.doubts_after tid member.server.0 (book_rules.learn_node outcome tid member.server.0 v)) _
      (changed_at_here (λ (v : machine.NodeValue). book_rules.doubts_after tid member.server.0 (book_rules.learn_node outcome tid member.server.0 v)) book.nodes here.0 s.state s.there)
      (learn_state outcome tid member.server.0 s.state).up
      (learnt_servers (is_seen book here) s.state servers s.holds member.server tid outcome seen)
    where
      told : (o : Option TransactionValue) → broken_learn here.0 s.state o member outcome ≡ None → (tx : TransactionValue) × ((o ≡ Some tx) × (is_outcome outcome tx.cell ≡ true))
      told None k = absurd (cc k)
      told (Some tx) k = (tx, (refl, and_first (is_outcome outcome tx.cell) _ (and_first (is_outcome outcome tx.cell && (member.node.0 == here.0)) _ (passed (may_learn here.0 tx member (part_of tx member s.state.inc) outcome) 95 _ k))))

      seen : outcome ≡ outcomes.Commit → is_seen book here member.server.0 tid ≡ true
      seen is = let t = told (find_transaction book tid) (ran (acts.Learn tid member outcome) refl fine) in
          seen_committed book here member.server tid t.0 t.1.0 ((w.waits tid t.0 t.1.0).whole (committed_cell t.0.cell (subst (λ (x : Outcome). is_outcome x t.0.cell ≡ true) is t.1.1)))

  pub cast : (tid : Tid) (server : ServerNo) (ballot : Vote) (covers : ℕ)
      → HoldsSeen here (after (acts.Vote tid (record { node = here; server = server }) ballot covers)) (with_server server (λ value. after_vote value tid ballot) servers)
  cast tid server ballot covers = changed (acts.Vote tid member ballot covers) tt (book_rules.vote_node count crossed tid server.0 ballot covers) _
      (changed_at_here (book_rules.vote_node count crossed tid server.0 ballot covers) book.nodes here.0 s.state s.there)
      (vote_state count crossed tid server.0 ballot covers s.state).up
      (voted_servers (is_seen book here) s.state servers s.holds server tid ballot count covers crossed (seen_here book here server tid))
    where
      member : Member
      member = record { node = here; server = server }

      count : ℕ
      count = pending_in (find_transaction book tid) member (inc_at book (record { 0 = here.0 }))

      crossed : Bool
      crossed = crossed_in (find_transaction book tid) member
