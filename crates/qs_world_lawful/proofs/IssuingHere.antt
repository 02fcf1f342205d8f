-- A request goes to a server of the node itself: the rule as a whole.
use Rattle.qs_world_lawful.proofs.Words.{◌⊎◌, inl, inr, ◌≡◌, ◌≢◌, ℕ, ◌+◌, Bool, true, false, List, [], ◌∷◌, ◌++◌, Option, Some, None, refl, sym, ap, subst, ◌∙◌, length, not, ◌&&◌, is_some, unwrap_or, slice_get, if◌then◌else◌, option_map, filter, is_at, tid_cmp, same_tid, Member, NodeNo, ServerNo, Tid, same_tid-self, tid_exact, queue_at, QueueValue, Delivery, tid_itself, lookup_put, lookup_put_apart, changed_alike, Op, TransactionValue, issued, Request, RequestNo, BookValue, find_transaction}
use Rattle.qs_world_lawful.proofs.Words.{inc_at, with_waiting, crosses, with_transaction, link_to, broken, crossed_node, Owner, Outstanding, Participant, member_here, enter_issue, with_local, issue_here, local_count, Work, with_queues, here, entry_of, face_of, HoldsTid, HoldsClients, HoldsWork, book_at, HoldsServers, is_seen, seen_in, HoldsWaits, is_commit, is_crossed, standing_request, member_cmp, lookup, and_false, and_true}
use Rattle.qs_ipc.specs.Ipc as ipc
use Rattle.qs_ipc.specs.Queue.{is_of}
use Rattle.qs_ipc.specs.Queue as queues
use Rattle.qs_book_journal.specs.declared.entry.Act.TheVariants as acts
use Rattle.qs_book_machine.specs.Nodes as machine
use Rattle.qs_tm.specs.Manager as tm
use Rattle.qs_tm.specs.Participant as participant
use Rattle.qs_node_step.specs.State.{NodeValue}
use Rattle.qs_world_lawful.specs.Face.{waiting_at}
use Rattle.qs_world_lawful.proofs.Apart.{Apart, same_or_apart}
use Rattle.qs_world_lawful.proofs.Clauses.{of_tid}
use Rattle.qs_world_lawful.proofs.CommitsWhole.{open_still}
use Rattle.qs_world_lawful.proofs.Crossing.{crossed_if, crossing_owners, crossing_run, crossing_state, crossing_there, crossing_txs, waiting_nodes, waiting_owners, waiting_txs}
use Rattle.qs_world_lawful.proofs.Faces.{part_apart, part_changed, queued_here, queued_elsewhere, same_server_or, waiting_apart, filter_last}
use Rattle.qs_world_lawful.proofs.Frames.{SameFace, KeepsSeen, KeepsOwners, said_to, clients_on, told_of}
use Rattle.qs_world_lawful.proofs.Growing.{entered, book_with}
use Rattle.qs_world_lawful.proofs.Issued.{issued_tid}
use Rattle.qs_world_lawful.proofs.IssuedStands.{crossed_none, crossed_some, crossed_other, issued_waits}
use Rattle.qs_world_lawful.proofs.Steps.{one_changed, tx_apart, tx_changed, tx_seen, waits_of}
use Rattle.qs_world_lawful.proofs.CrossedTables.{crossed_up, servers_alike}
use Rattle.qs_world_lawful.proofs.Keys.{member_found}

module _ (stamp : ℕ) (before : BookValue) (work : Work) (tid : Tid) (outstanding : Outstanding) (op : Op) (part : Participant) (tx : TransactionValue) (h : HoldsWork stamp before work)
    (known : tm.part_of tid work.node.manager ≡ Some part) (found : find_transaction (book_at stamp before work) tid ≡ Some tx)
    (near : outstanding.member.node ≡ work.node.setting.node) (numbers : outstanding.number ≡ local_count tid work.node + 1) where
  abbrev node : NodeValue
  node = work.node

  abbrev home : NodeNo
  home = node.setting.node

  abbrev delivery : Delivery
  delivery = record { tid = tid; from = here work; number = outstanding.number; op = op; stale = false }

  -- the work with the request waiting at its server
  abbrev pub issued_work : Work
  issued_work = with_queues (ipc.enqueue outstanding.member.server delivery) (with_local tid outstanding.number (enter_issue tid outstanding op work))

  abbrev new : NodeValue
  new = issued_work.node

  abbrev book : BookValue
  book = book_at stamp before work

  abbrev issuer : Member
  issuer = member_here work outstanding.issuer

  abbrev new_book : BookValue
  new_book = book_with stamp before work (acts.Issue tid issuer outstanding.member outstanding.number op)

  abbrev request : Request
  request = record { issuer = issuer; member = outstanding.member; op = op; inc = inc_at book (record { 0 = home.0 }); served = false }

  abbrev key : RequestNo
  key = record { link = link_to home.0 outstanding.member; number = outstanding.number }

  abbrev f : TransactionValue → TransactionValue
  f = issued key request (inc_at book outstanding.member.node) book.place

  abbrev crossing : Bool
  crossing = crosses (find_transaction book tid) key outstanding.member

  abbrev inner : BookValue
  inner = with_waiting tid issuer outstanding.member (with_transaction tid f book)

  txs : new_book.transactions ≡ (with_transaction tid f book).transactions
  txs = crossing_txs crossing tid outstanding.member inner ∙ waiting_txs tid issuer outstanding.member (with_transaction tid f book)

  seen_on : KeepsSeen book new_book
  seen_on = tx_seen tid f (λ x. refl) book new_book txs

  owners_on : KeepsOwners book new_book
  owners_on k = ap (λ (os : List Owner). option_map said_to (slice_get os k)) (crossing_owners crossing tid outstanding.member inner) ∙ waiting_owners tid issuer outstanding.member (with_transaction tid f book) k

  there_before : slice_get inner.nodes outstanding.member.node.0 ≡ Some h.holds.state
  there_before = ap (λ (ns : List machine.NodeValue). slice_get ns outstanding.member.node.0) (waiting_nodes tid issuer outstanding.member (with_transaction tid f book))
      ∙ (ap (λ (n : NodeNo). slice_get book.nodes n.0) near ∙ h.holds.there)

  there : slice_get new_book.nodes home.0 ≡ Some (crossed_if crossing tid outstanding.member h.holds.state)
  there = subst (λ (n : NodeNo). slice_get new_book.nodes n.0 ≡ Some (crossed_if crossing tid outstanding.member h.holds.state)) near
      (crossing_there crossing tid outstanding.member inner h.holds.state there_before)

  run : length new_book.nodes ≡ length book.nodes
  run = crossing_run crossing tid outstanding.member inner ∙ ap length (waiting_nodes tid issuer outstanding.member (with_transaction tid f book))

  faces : (t : Tid) → Apart tid t → SameFace (face_of node t) (face_of new t)
  faces t far = record {
    known = part_apart tid t (participant.issued outstanding) node.manager far;
    local = ap (λ (o : Option ℕ). unwrap_or o 0) (lookup_put_apart tid_cmp tid outstanding.number (tid_exact tid) (is_at (tid_cmp t)) far.at node.locals);
    changes = refl;
    loans = refl;
    waiting = λ server. waiting_apart t outstanding.member.server server delivery node.queues far.of;
  }

  mine : same_tid tid tid ≡ true
  mine = same_tid-self tid

  waits_here : waiting_at new tid outstanding.member.server ≡ waiting_at node tid outstanding.member.server ++ delivery ∷ []
  waits_here = ap (λ (q : QueueValue). filter (is_of tid) q.waiting) (queued_here outstanding.member.server delivery node.queues)
      ∙ filter_last (is_of tid) (queue_at node.queues outstanding.member.server).waiting delivery mine

  waits_elsewhere : (server : ServerNo) → server ≢ outstanding.member.server → waiting_at new tid server ≡ waiting_at node tid server
  waits_elsewhere server far = same_server_or outstanding.member.server server _ (λ same. absurd (far (sym same)))
      (λ other apart. ap (λ (q : QueueValue). filter (is_of tid) q.waiting) (queued_elsewhere outstanding.member.server server delivery node.queues other))

  local_now : local_count tid new ≡ outstanding.number
  local_now = ap (λ (o : Option ℕ). unwrap_or o 0) (lookup_put tid_cmp tid outstanding.number (tid_itself tid) node.locals)

  inc_is : inc_at book (record { 0 = home.0 }) ≡ node.setting.inc
  inc_is = ap (λ (o : Option machine.NodeValue). elim o [ None ↦ 0 | Some state ↦ state.inc ]) h.holds.there ∙ h.holds.same.inc

  own : HoldsTid home node.setting.inc tid (f tx) (face_of new tid)
  own =
      subst (λ (o : Option Participant). HoldsTid home node.setting.inc tid (f tx) (record (face_of new tid) { known = o })) (sym (part_changed tid (participant.issued outstanding) node.manager part known))
      (subst (λ (n : ℕ). HoldsTid home node.setting.inc tid (f tx) (record (face_of new tid) { known = Some (participant.issued outstanding part); local = n })) (sym local_now)
      (issued_tid home node.setting.inc outstanding.number (inc_at book outstanding.member.node) book.place request tx near inc_is refl delivery refl refl tid (face_of node tid) part outstanding (waiting_at new tid) waits_here waits_elsewhere numbers
      (subst (λ (o : Option Participant). HoldsTid home node.setting.inc tid tx (record (face_of node tid) { known = o })) known (of_tid stamp book node h.holds tid tx found))))

  clients : HoldsClients new_book new
  clients = clients_on book new_book node new seen_on owners_on (record { setting = refl; at = refl; in_inc = refl }) (record { commands = refl; labels = refl; outcomes = refl }) h.holds.clients
      (λ t. changed_alike (is_at (tid_cmp tid)) told_of (participant.issued outstanding) (λ p. refl) (is_at (tid_cmp t)) node.manager.known)

  its_waits : HoldsWaits home node.setting.inc tid tx (face_of node tid).waiting node.servers
  its_waits = waits_of stamp book node h.holds tid tx found

  own_waits : queues.is_for outstanding.member.server op ≡ true → is_commit tx.cell ≡ false → HoldsWaits home node.setting.inc tid (f tx) (face_of new tid).waiting node.servers
  own_waits fits still = issued_waits home node.setting.inc outstanding.number (inc_at book outstanding.member.node) book.place request tx near inc_is refl delivery refl refl refl tid (waiting_at node tid) (waiting_at new tid) waits_here waits_elsewhere node.servers its_waits fits still

  member_here_is : outstanding.member ≡ record { node = home; server = record { 0 = outstanding.member.server.0 } }
  member_here_is = ap (λ (n : NodeNo). record { node = n; server = outstanding.member.server }) near

  found_now : find_transaction new_book tid ≡ Some (f tx)
  found_now = ap (lookup (is_at (tid_cmp tid))) txs ∙ tx_changed tid f book.transactions tx found

  found_far : (t : Tid) → Apart tid t → find_transaction new_book t ≡ find_transaction book t
  found_far t far = ap (lookup (is_at (tid_cmp t))) txs ∙ tx_apart tid t f book.transactions far

  -- what is seen of each transaction where this one is not crossed by the request
  seen_where : (n : ℕ) → is_crossed (f tx) (record { node = home; server = record { 0 = n } }) ≡ is_crossed tx (record { node = home; server = record { 0 = n } }) → (t : Tid) → is_seen new_book home n t ≡ is_seen book home n t
  seen_where n same t = by (same_or_apart tid t)
    where
      by : (tid ≡ t) ⊎ Apart tid t → is_seen new_book home n t ≡ is_seen book home n t
      by (inl is) = subst (λ (u : Tid). is_seen new_book home n u ≡ is_seen book home n u) is (ap (seen_in home n) found_now ∙ (ap not same ∙ sym (ap (seen_in home n) found)))
      by (inr far) = ap (seen_in home n) (found_far t far)

  servers_on : HoldsServers (is_seen new_book home) (crossed_if crossing tid outstanding.member h.holds.state) node.servers
  servers_on = by (standing_request tx key outstanding.member) refl
    where
      crosses_is : (o : Option Request) → standing_request tx key outstanding.member ≡ o → crossing ≡ (elim o [ None ↦ false | Some r ↦ true ])
      crosses_is o is = ap (λ (x : Option TransactionValue). crosses x key outstanding.member) found ∙ ap (λ (x : Option Request). elim x [ None ↦ false | Some r ↦ true ]) is

      hides : (earlier : Request) → standing_request tx key outstanding.member ≡ Some earlier → (t : Tid) → is_seen new_book home outstanding.member.server.0 t ≡ (is_seen book home outstanding.member.server.0 t && not (is_at (tid_cmp tid) t))
      hides earlier is t = of (same_or_apart tid t)
        where
          itself : (u : Tid) → is_at (tid_cmp u) u ≡ true
          itself u = rw (tid_itself u) refl

          now_hidden : is_seen new_book home outstanding.member.server.0 tid ≡ false
          now_hidden = ap (seen_in home outstanding.member.server.0) found_now
              ∙ ap not (subst (λ (m : Member). is_crossed (f tx) m ≡ true) member_here_is (crossed_some home node.setting.inc outstanding.number (inc_at book outstanding.member.node) book.place request tx near inc_is earlier is))

          own_it : is_seen new_book home outstanding.member.server.0 tid ≡ (is_seen book home outstanding.member.server.0 tid && not (is_at (tid_cmp tid) tid))
          own_it = now_hidden ∙ sym (ap (λ (b : Bool). is_seen book home outstanding.member.server.0 tid && not b) (itself tid) ∙ and_false (is_seen book home outstanding.member.server.0 tid))

          of : (tid ≡ t) ⊎ Apart tid t → is_seen new_book home outstanding.member.server.0 t ≡ (is_seen book home outstanding.member.server.0 t && not (is_at (tid_cmp tid) t))
          of (inl same) = subst (λ (u : Tid). is_seen new_book home outstanding.member.server.0 u ≡ (is_seen book home outstanding.member.server.0 u && not (is_at (tid_cmp tid) u))) same own_it
          of (inr far) = ap (seen_in home outstanding.member.server.0) (found_far t far)
              ∙ sym (ap (λ (b : Bool). is_seen book home outstanding.member.server.0 t && not b) (far.keys t (itself t)) ∙ and_true (is_seen book home outstanding.member.server.0 t))

      others : (n : ℕ) → n ≢ outstanding.member.server.0 → (t : Tid) → is_seen new_book home n t ≡ is_seen book home n t
      others n far t = seen_where n (crossed_other home node.setting.inc outstanding.number (inc_at book outstanding.member.node) book.place request tx near inc_is (record { node = home; server = record { 0 = n } }) (member_far (is_at (member_cmp (record { node = home; server = record { 0 = n } })) outstanding.member) refl)) t
        where
          member_far : (b : Bool) → is_at (member_cmp (record { node = home; server = record { 0 = n } })) outstanding.member ≡ b → b ≡ false
          member_far false is = refl
          member_far true is = absurd (far (ap (λ (m : Member). m.server.0) (member_found (record { node = home; server = record { 0 = n } }) outstanding.member is)))

      by : (o : Option Request) → standing_request tx key outstanding.member ≡ o → HoldsServers (is_seen new_book home) (crossed_if crossing tid outstanding.member h.holds.state) node.servers
      by None is = subst (λ (b : Bool). HoldsServers (is_seen new_book home) (crossed_if b tid outstanding.member h.holds.state) node.servers) (sym (crosses_is None is))
          (servers_alike (is_seen book home) (is_seen new_book home) h.holds.state node.servers
          (λ n t. seen_where n (ap (λ (xs : List (Member × ℕ)). is_some (lookup (is_at (member_cmp (record { node = home; server = record { 0 = n } }))) xs)) (crossed_none home node.setting.inc outstanding.number (inc_at book outstanding.member.node) book.place request tx near inc_is is)) t) h.holds.servers)
      by (Some earlier) is = subst (λ (b : Bool). HoldsServers (is_seen new_book home) (crossed_if b tid outstanding.member h.holds.state) node.servers) (sym (crosses_is (Some earlier) is))
          (crossed_up (is_seen book home) (is_seen new_book home) h.holds.state node.servers h.holds.servers tid outstanding.member.server.0 (hides earlier is) others h.holds.same.up)

  by_issued : queues.is_for outstanding.member.server op ≡ true → broken book (entry_of home.0 stamp (acts.Issue tid issuer outstanding.member outstanding.number op)) ≡ None → HoldsWork stamp before issued_work
  by_issued fits lawful = entered stamp before work issued_work (acts.Issue tid issuer outstanding.member outstanding.number op) h refl refl lawful
      (one_changed stamp book new_book node new h.holds tid f tx found txs
      (crossed_if crossing tid outstanding.member h.holds.state) (crossing_state crossing tid outstanding.member h.holds.state) there run refl refl
      (record { setting = refl; at = refl; in_inc = refl }) refl faces own clients servers_on (λ t far. refl) (own_waits fits (open_still stamp book node h.holds tid tx found issuer outstanding.member outstanding.number op lawful)))

  -- where the operation is one of its server's
  pub by_issue_here : queues.is_for outstanding.member.server op ≡ true → broken book (entry_of home.0 stamp (acts.Issue tid issuer outstanding.member outstanding.number op)) ≡ None → HoldsWork stamp before (issue_here tid outstanding op work)
  by_issue_here fits lawful = by (queues.is_for outstanding.member.server op) fits
    where
      by : (b : Bool) → b ≡ true → HoldsWork stamp before (if b then issued_work else with_local tid outstanding.number (enter_issue tid outstanding op work))
      by true is = by_issued fits lawful
      by false is = absurd (cc is)
