-- A request goes to a server of another node: the rule as a whole. What is crossed there is nothing of this node's.
use Rattle.qs_world_lawful.proofs.Words.{◌≡◌, ◌≢◌, ◌⊎◌, inl, inr, ℕ, ◌==◌, ◌+◌, ◌<◌, Bool, true, false, List, Option, Some, None, refl, sym, ap, subst, ◌∙◌, length, nat_lt, not, slice_get, if◌then◌else◌, option_map, lookup, is_at, tid_cmp, Member, NodeNo, ServerNo, Tid, ClientNo, client_server, next_to, last_number, peer_of, changed_alike, BookValue, crosses, find_transaction, inc_at, with_crossing, with_transaction, with_waiting, link_to, broken, crossed_node, TransactionValue, issued, Request}
use Rattle.qs_world_lawful.proofs.Words.{Owner, Op, member_here, send, local_count, ask_on, enter_issue, is_asked, issue_away, label_of, Work, with_manager, awaits_note, has_noted, Outstanding, Participant, entry_of, HoldsWork, book_at, at_server, face_of, part_in, part_or_new, HoldsTid, HoldsServers, is_seen, seen_in}
use Rattle.qs_ipc.specs.Queue as queues
use Rattle.qs_world_lawful.proofs.Issuing.{owner_issues}
use Rattle.qs_book_journal.specs.declared.entry.Act.TheVariants as acts
use Rattle.qs_book_machine.specs.Nodes as machine
use Rattle.qs_packet.specs.declared.message.Message.TheVariants as messages
use Rattle.qs_node_step.specs.State.{NodeValue}
use Rattle.qs_tm.specs.Manager as tm
use Rattle.qs_tm.specs.Participant as participant
use Rattle.qs_tm.specs.Participant.{is_by_files}
use Rattle.qs_world_lawful.proofs.Apart.{Apart, same_or_apart}
use Rattle.qs_world_lawful.proofs.Asking.{by_send}
use Rattle.qs_world_lawful.proofs.Clauses.{of_tid}
use Rattle.qs_world_lawful.proofs.Crossing.{crossing_owners, crossing_run, crossing_txs, waiting_nodes, waiting_owners, waiting_txs}
use Rattle.qs_world_lawful.proofs.CrossedTables.{servers_alike}
use Rattle.qs_world_lawful.proofs.Faces.{part_apart, part_changed}
use Rattle.qs_world_lawful.proofs.Frames.{KeepsOwners, KeepsSeen, SameFace, clients_on, said_to, told_of}
use Rattle.qs_world_lawful.proofs.Growing.{book_with, entered}
use Rattle.qs_world_lawful.proofs.CommitsWhole.{open_still}
use Rattle.qs_world_lawful.proofs.IssuedAway.{away_tid, away_waits, changed_elsewhere, crossed_near}
use Rattle.qs_world_lawful.proofs.Steps.{one_changed, tx_apart, tx_changed, tx_seen, waits_of}
use Rattle.std.proofs.lemmas.Bool.{ne_eqb}

module _ (stamp : ℕ) (before : BookValue) (work : Work) (tid : Tid) (outstanding : Outstanding) (op : Op) (part : Participant) (tx : TransactionValue) (h : HoldsWork stamp before work)
    (known : tm.part_of tid work.node.manager ≡ Some part) (found : find_transaction (book_at stamp before work) tid ≡ Some tx)
    (far : outstanding.member.node.0 ≢ work.node.setting.node.0) (room : ((peer_of part.engage outstanding.member.node).sent == last_number) ≡ false) (slot : outstanding.member.node.0 < length part.engage.peers) where
  abbrev node : NodeValue
  node = work.node

  abbrev home : NodeNo
  home = node.setting.node

  abbrev to : NodeNo
  to = outstanding.member.node

  -- the work with the request counted
  abbrev away_work : Work
  away_work = with_manager (tm.sent tid to) (enter_issue tid outstanding op work)

  abbrev new : NodeValue
  new = away_work.node

  abbrev book : BookValue
  book = book_at stamp before work

  abbrev issuer : Member
  issuer = member_here work outstanding.issuer

  abbrev new_book : BookValue
  new_book = book_with stamp before work (acts.Issue tid issuer outstanding.member outstanding.number op)

  abbrev request : Request
  request = record { issuer = issuer; member = outstanding.member; op = op; inc = inc_at book (record { 0 = home.0 }); served = false }

  abbrev f : TransactionValue → TransactionValue
  f = issued (record { link = link_to home.0 outstanding.member; number = outstanding.number }) request (inc_at book to) book.place

  abbrev crossing : Bool
  crossing = crosses (find_transaction book tid) (record { link = link_to home.0 outstanding.member; number = outstanding.number }) outstanding.member

  abbrev inner : BookValue
  inner = with_waiting tid issuer outstanding.member (with_transaction tid f book)

  txs : new_book.transactions ≡ (with_transaction tid f book).transactions
  txs = crossing_txs crossing tid outstanding.member inner ∙ waiting_txs tid issuer outstanding.member (with_transaction tid f book)

  seen_on : KeepsSeen book new_book
  seen_on = tx_seen tid f (λ x. refl) book new_book txs

  owners_on : KeepsOwners book new_book
  owners_on k = ap (λ (os : List Owner). option_map said_to (slice_get os k)) (crossing_owners crossing tid outstanding.member inner) ∙ waiting_owners tid issuer outstanding.member (with_transaction tid f book) k

  there : slice_get new_book.nodes home.0 ≡ Some h.holds.state
  there = by crossing
    where
      before_it : slice_get inner.nodes home.0 ≡ Some h.holds.state
      before_it = ap (λ (ns : List machine.NodeValue). slice_get ns home.0) (waiting_nodes tid issuer outstanding.member (with_transaction tid f book)) ∙ h.holds.there

      by : (b : Bool) → slice_get (with_crossing b tid outstanding.member inner).nodes home.0 ≡ Some h.holds.state
      by true = changed_elsewhere (crossed_node tid outstanding.member.server.0) inner.nodes to.0 home.0 far ∙ before_it
      by false = before_it

  run : length new_book.nodes ≡ length book.nodes
  run = crossing_run crossing tid outstanding.member inner ∙ ap length (waiting_nodes tid issuer outstanding.member (with_transaction tid f book))

  faces : (t : Tid) → Apart tid t → SameFace (face_of node t) (face_of new t)
  faces t apart = record {
    known = part_apart tid t (participant.sent to) (tm.issued tid outstanding node.manager) apart ∙ part_apart tid t (participant.issued outstanding) node.manager apart;
    local = refl;
    changes = refl;
    loans = refl;
    waiting = λ server. refl;
  }

  inc_is : inc_at book (record { 0 = home.0 }) ≡ node.setting.inc
  inc_is = ap (λ (o : Option machine.NodeValue). elim o [ None ↦ 0 | Some state ↦ state.inc ]) h.holds.there ∙ h.holds.same.inc

  known_now : tm.part_of tid new.manager ≡ Some (participant.sent to (participant.issued outstanding part))
  known_now = part_changed tid (participant.sent to) (tm.issued tid outstanding node.manager) (participant.issued outstanding part) (part_changed tid (participant.issued outstanding) node.manager part known)

  own : HoldsTid home node.setting.inc tid (f tx) (face_of new tid)
  own =
      subst (λ (o : Option Participant). HoldsTid home node.setting.inc tid (f tx) (record (face_of node tid) { known = o })) (sym known_now)
      (away_tid home node.setting.inc outstanding.number (inc_at book to) book.place request tx far inc_is tid (face_of node tid) part outstanding room slot
      (subst (λ (o : Option Participant). HoldsTid home node.setting.inc tid tx (record (face_of node tid) { known = o })) known (of_tid stamp book node h.holds tid tx found)))

  told_on : (t : Tid) → option_map told_of (tm.part_of t new.manager) ≡ option_map told_of (tm.part_of t node.manager)
  told_on t = changed_alike (is_at (tid_cmp tid)) told_of (participant.sent to) (λ p. refl) (is_at (tid_cmp t)) (tm.issued tid outstanding node.manager).known
      ∙ changed_alike (is_at (tid_cmp tid)) told_of (participant.issued outstanding) (λ p. refl) (is_at (tid_cmp t)) node.manager.known

  servers_on : HoldsServers (is_seen new_book home) h.holds.state node.servers
  servers_on = servers_alike (is_seen book home) (is_seen new_book home) h.holds.state node.servers (λ n t. of n t (same_or_apart tid t)) h.holds.servers
    where
      of : (n : ℕ) (t : Tid) → (tid ≡ t) ⊎ Apart tid t → is_seen new_book home n t ≡ is_seen book home n t
      of n t (inl is) = subst (λ (u : Tid). is_seen new_book home n u ≡ is_seen book home n u) is
          (ap (seen_in home n) (ap (lookup (is_at (tid_cmp tid))) txs ∙ tx_changed tid f book.transactions tx found)
          ∙ (ap not (crossed_near home node.setting.inc outstanding.number (inc_at book to) book.place request tx far inc_is n) ∙ sym (ap (seen_in home n) found)))
      of n t (inr apart) = ap (seen_in home n) (ap (lookup (is_at (tid_cmp t))) txs ∙ tx_apart tid t f book.transactions apart)

  by_away : broken book (entry_of home.0 stamp (acts.Issue tid issuer outstanding.member outstanding.number op)) ≡ None → HoldsWork stamp before away_work
  by_away lawful = entered stamp before work away_work (acts.Issue tid issuer outstanding.member outstanding.number op) h refl refl lawful
      (one_changed stamp book new_book node new h.holds tid f tx found txs h.holds.state (record { up = refl; inc = refl; begun = refl; format = refl }) there run refl refl
      (record { setting = refl; at = refl; in_inc = refl }) refl faces own
      (clients_on book new_book node new seen_on owners_on (record { setting = refl; at = refl; in_inc = refl }) (record { commands = refl; labels = refl; outcomes = refl }) h.holds.clients told_on)
      servers_on (λ t apart. refl)
      (away_waits home node.setting.inc outstanding.number (inc_at book to) book.place request tx far inc_is tid (face_of node tid).waiting node.servers
      (open_still stamp book node h.holds tid tx found issuer outstanding.member outstanding.number op lawful) (waits_of stamp book node h.holds tid tx found)))

  -- its message goes, and whoever was asked asks on
  pub by_issue_away : broken book (entry_of home.0 stamp (acts.Issue tid issuer outstanding.member outstanding.number op)) ≡ None → HoldsWork stamp before (issue_away tid outstanding op work)
  by_issue_away lawful = by (is_asked tid work) (by_send stamp before away_work to (messages.Request tid (label_of tid node) outstanding.member outstanding.number outstanding.issuer op) (by_away lawful))
    where
      by : (b : Bool) → HoldsWork stamp before (send to (messages.Request tid (label_of tid node) outstanding.member outstanding.number outstanding.issuer op) away_work)
          → HoldsWork stamp before (ask_on b tid to (send to (messages.Request tid (label_of tid node) outstanding.member outstanding.number outstanding.issuer op) away_work))
      by false k = k
      by true k = by_send stamp before (send to (messages.Request tid (label_of tid node) outstanding.member outstanding.number outstanding.issuer op) away_work) to (messages.AskVote tid) k

-- ---- of an owner

pub next_away : (node : NodeValue) (tid : Tid) (to : NodeNo) → to.0 ≢ node.setting.node.0 → next_to node tid to ≡ (peer_of (part_in (face_of node tid)).engage to).sent + 1
next_away node tid to far = by (to.0 == node.setting.node.0) (ne_eqb to.0 node.setting.node.0 far)
  where
    by : (b : Bool) → b ≡ false → (if b then local_count tid node + 1 else (peer_of (part_in (face_of node tid)).engage to).sent + 1) ≡ (peer_of (part_in (face_of node tid)).engage to).sent + 1
    by true e = absurd (cc e)
    by false e = refl

pub by_owner_away : (stamp : ℕ) (before : BookValue) (work : Work) (tid : Tid) (outstanding : Outstanding) (op : Op) (part : Participant) (tx : TransactionValue) → HoldsWork stamp before work → tm.part_of tid work.node.manager ≡ Some part
    → find_transaction (book_at stamp before work) tid ≡ Some tx → outstanding.member.node.0 ≢ work.node.setting.node.0 → ((peer_of part.engage outstanding.member.node).sent == last_number) ≡ false → outstanding.member.node.0 < length part.engage.peers
    → (client : ClientNo) → outstanding.issuer ≡ client_server client → outstanding.number ≡ (peer_of part.engage outstanding.member.node).sent + 1 → queues.is_for outstanding.member.server op ≡ true → nat_lt outstanding.member.node.0 work.node.setting.nodes ≡ true
    → tx.owner ≡ Some client → tid.home ≡ work.node.setting.node → tid.inc ≡ work.node.setting.inc → part.asked ≡ false → part.outcome ≡ None → HoldsWork stamp before (issue_away tid outstanding op work)
by_owner_away stamp before work tid outstanding op part tx h known found far room slot client its next fits in_run owns home inc unasked unknown =
    by_issue_away stamp before work tid outstanding op part tx h known found far room slot
    (subst (λ (s : ServerNo). broken (book_at stamp before work) (entry_of work.node.setting.node.0 stamp (acts.Issue tid (at_server work.node.setting.node s) outstanding.member outstanding.number op)) ≡ None) (sym its)
    (subst (λ (n : ℕ). broken (book_at stamp before work) (entry_of work.node.setting.node.0 stamp (acts.Issue tid (at_server work.node.setting.node (client_server client)) outstanding.member n op)) ≡ None) (next_away work.node tid outstanding.member.node far ∙ (ap (λ (p : Participant). (peer_of p.engage outstanding.member.node).sent + 1) (ap part_or_new known) ∙ sym next))
    (owner_issues stamp (book_at stamp before work) work.node h.holds tid tx found client outstanding.member op part known owns home inc unasked unknown fits in_run)))
