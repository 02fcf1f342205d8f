-- A member serves a request: the rule as a whole, but for its loan and its reply.
use Rattle.qs_world_lawful.proofs.Words.{arith, ◌≡◌, ◌⊎◌, ℕ, ◌==◌, ◌≤◌, Bool, true, false, [], ◌∷◌, ◌++◌, ◌+◌, Option, Some, None, suc, refl, sym, ap, subst, ◌∙◌, length, not, ◌||◌, if◌then◌else◌, filter, is_at, tid_cmp, NodeNo, ServerNo, Tid, last_number, Delivery, changed_at_here, changed_alike, class_of, ServerValue, changes_in, after_serving, share_of, Op, Part, Request, HoldsServers, is_seen, HoldsWaits, IsWithin, op_in, op_of, waiting_ops, standing_ops, is_idle, Reply, TransactionValue}
use Rattle.qs_world_lawful.proofs.Words.{is_crossed, life, serving_part, standing_request, served_in, is_standing, requests_at, has_note, RequestNo, BookValue, find_transaction, inc_at, serve_node, crossed_in, crossed_serve, server_serve, broken, member_of, with_member, has_noted, awaits_note, Participant, ServersValue, with_server, is_client, enter_serve, Work, entry_of, face_of, at_server, Holds, HoldsTid, HoldsClients, HoldsWork, book_at, eqb-true, eqb-false}
use Rattle.qs_ops.specs.Servers as numbers
use Rattle.qs_world_lawful.proofs.MemberTid.{lives_apart}
use Rattle.qs_world_lawful.proofs.MemberWaits.{seen_here}
use Rattle.qs_world_lawful.proofs.Parts.{put_part_apart}
use Rattle.qs_world_lawful.proofs.Pending.{files_elsewhere}
use Rattle.qs_world_lawful.proofs.Served.{part_served}
use Rattle.qs_world_lawful.proofs.ServedTables.{served_client, served_hidden, served_seen}
use Rattle.qs_world_lawful.proofs.Stands.{alone, served_waits}
use Rattle.qs_world_lawful.proofs.Within.{map_length, within_count}
use Rattle.qs_book_journal.specs.declared.entry.Act.TheVariants as acts
use Rattle.qs_book_machine.specs.Transaction.{part_of}
use Rattle.qs_book_machine.specs.Book.{is_done}
use Rattle.qs_book_machine.specs.Clauses.{note_text}
use Rattle.qs_book_machine.specs.Nodes as machine
use Rattle.qs_tm.specs.Manager as tm
use Rattle.qs_tm.specs.Members as rules
use Rattle.qs_tm.specs.Participant as participant
use Rattle.qs_node_step.specs.State.{NodeValue}
use Rattle.qs_world_lawful.specs.Face.{waiting_at, is_numbered}
use Rattle.qs_world_lawful.specs.Holds.{is_kept}
use Rattle.qs_world_lawful.proofs.Apart.{Apart}
use Rattle.qs_world_lawful.proofs.Clauses.{of_tid}
use Rattle.qs_ipc.specs.Queue.{is_for}
use Rattle.qs_world_lawful.proofs.Doubted.{within_for}
use Rattle.qs_world_lawful.proofs.Faces.{part_apart, part_changed}
use Rattle.qs_world_lawful.proofs.Files.{served_apart, served_share, files_apart, files_keep, idle_in}
use Rattle.qs_world_lawful.proofs.Frames.{SameFace, KeepsSeen, clients_on, told_of}
use Rattle.qs_world_lawful.proofs.Growing.{entered, book_with, book_now}
use Rattle.qs_world_lawful.proofs.ServedTid.{served_tid}
use Rattle.qs_world_lawful.proofs.States.{serve_state}
use Rattle.qs_world_lawful.proofs.Steps.{one_changed, servers_still, waits_of, found_now, tx_seen, same_owners, changed_length}

module _ (stamp : ℕ) (before : BookValue) (work : Work) (server : ServerNo) (delivery : Delivery) (reply : Reply) (part : Participant) (tx : TransactionValue) (h : HoldsWork stamp before work)
    (known : tm.part_of delivery.tid work.node.manager ≡ Some part) (found : find_transaction (book_at stamp before work) delivery.tid ≡ Some tx) where
  abbrev node : NodeValue
  node = work.node

  abbrev here : NodeNo
  here = node.setting.node

  abbrev tid : Tid
  tid = delivery.tid

  abbrev pub served_work : Work
  served_work = enter_serve server delivery reply work

  abbrev book : BookValue
  book = book_at stamp before work

  abbrev new_book : BookValue
  new_book = book_with stamp before work (acts.Serve tid (at_server here server) delivery.from delivery.number reply)

  abbrev at : RequestNo
  at = record { link = record { from = delivery.from; to = here }; number = delivery.number }

  abbrev f : TransactionValue → TransactionValue
  f = served_in at (at_server here server) (inc_at book (record { 0 = here.0 })) stamp (is_done reply)

  -- the servers after it
  abbrev servers_after : ServersValue
  servers_after = if is_client server then node.servers else with_server server (λ value. after_serving value tid delivery.op reply) node.servers

  abbrev new : NodeValue
  new = record node { servers = servers_after; manager = tm.served tid server node.manager }

  node_is : served_work.node ≡ new
  node_is = by (is_client server)
    where
      by : (b : Bool) → record ((if b then work else record work { node = record node { servers = with_server server (λ value. after_serving value tid delivery.op reply) node.servers } }).node)
          { manager = tm.served tid server (if b then work else record work { node = record node { servers = with_server server (λ value. after_serving value tid delivery.op reply) node.servers } }).node.manager }
          ≡ record node { servers = if b then node.servers else with_server server (λ value. after_serving value tid delivery.op reply) node.servers; manager = tm.served tid server node.manager }
      by true = refl
      by false = refl

  entries_are : served_work.out.entries ≡ work.out.entries ++ acts.Serve tid (at_server here server) delivery.from delivery.number reply ∷ []
  entries_are = by (is_client server)
    where
      by : (b : Bool) → (if b then work else record work { node = record node { servers = with_server server (λ value. after_serving value tid delivery.op reply) node.servers } }).out.entries
          ++ acts.Serve tid (at_server here server) delivery.from delivery.number reply ∷ []
          ≡ work.out.entries ++ acts.Serve tid (at_server here server) delivery.from delivery.number reply ∷ []
      by true = refl
      by false = refl

  seen_on : KeepsSeen book new_book
  seen_on = tx_seen tid f (λ x. refl) book new_book refl

  files_on : (t : Tid) → Apart tid t → length (changes_in servers_after.files t) ≡ length (changes_in node.servers.files t)
  files_on t far = by (is_client server)
    where
      by : (b : Bool) → length (changes_in (if b then node.servers else with_server server (λ value. after_serving value tid delivery.op reply) node.servers).files t) ≡ length (changes_in node.servers.files t)
      by true = refl
      by false = files_apart server (λ value. after_serving value tid delivery.op reply) node.servers t (λ value. served_apart tid t delivery.op reply value far)

  faces : (t : Tid) → Apart tid t → SameFace (face_of node t) (face_of new t)
  faces t far = record { known = part_apart tid t (participant.served server) node.manager far; local = refl; changes = files_on t far; loans = refl; waiting = λ s. refl }

  abbrev old_state : machine.NodeValue
  old_state = h.holds.state

  abbrev state : machine.NodeValue
  state = serve_node (find_transaction book tid) at tid (at_server here server) reply old_state

  clients : HoldsClients new_book new
  clients = clients_on book new_book node new seen_on (same_owners book new_book refl) (record { setting = refl; at = refl; in_inc = refl }) (record { commands = refl; labels = refl; outcomes = refl }) h.holds.clients
      (λ t. changed_alike (is_at (tid_cmp tid)) told_of (participant.served server) told_on (is_at (tid_cmp t)) node.manager.known)
    where
      told_on : (p : Participant) → told_of (participant.served server p) ≡ told_of p
      told_on p = by ((member_of p server).served == last_number)
        where
          by : (b : Bool) → told_of (if b then p else record (with_member server (record (member_of p server) { served = (member_of p server).served + 1; fresh = true }) p) { involved = p.involved || rules.is_told_class (rules.class_here server) }) ≡ told_of p
          by true = refl
          by false = refl

  inc_is : inc_at book (record { 0 = here.0 }) ≡ node.setting.inc
  inc_is = ap (λ (o : Option machine.NodeValue). elim o [ None ↦ 0 | Some s ↦ s.inc ]) h.holds.there ∙ h.holds.same.inc

  abbrev after : TransactionValue
  after = served_in at (at_server here server) node.setting.inc stamp (is_done reply) tx

  module _ (room : is_kept server ≡ true → ((member_of part server).served == last_number) ≡ false)
      (first : IsWithin (delivery.op ∷ waiting_ops at (waiting_at node tid server)) (standing_ops tx at here server))
      (pending : (part_of after (at_server here rules.files_no) node.setting.inc).pending ≡ length (changes_in servers_after.files tid))
      (noted : (count : ℕ) → 1 ≤ count → has_note after (record { node = here; inc = node.setting.inc; text = note_text tid here.0 count }) ≡ true → (has_noted count part ≡ true) ⊎ (awaits_note part ≡ true)) where
    -- one more stands than waits
    one : suc (length (filter (is_numbered at) (waiting_at node tid server))) ≤ length (filter (is_standing (at_server here server)) (requests_at tx at))
    one = fewer _ _ _ _ (map_length op_of (filter (is_numbered at) (waiting_at node tid server))) (map_length op_in (filter (is_standing (at_server here server)) (requests_at tx at)))
        (within_count (delivery.op ∷ waiting_ops at (waiting_at node tid server)) (standing_ops tx at here server) first)
      where
        fewer : (a b c d : ℕ) → a ≡ b → c ≡ d → suc a ≤ c → suc b ≤ d
        fewer a b c d p q e = grind (arith, p, q, e)

    its_waits : HoldsWaits here node.setting.inc tid tx (face_of node tid).waiting node.servers
    its_waits = waits_of stamp book node h.holds tid tx found

    -- it is for its server
    its_own : is_for server delivery.op ≡ true
    its_own = within_for server delivery.op (waiting_ops at (waiting_at node tid server)) (standing_ops tx at here server) first (its_waits.fits server at refl)

    servers_on : HoldsServers (is_seen book here) state servers_after
    servers_on = subst (λ (o : Option TransactionValue). HoldsServers (is_seen book here) (serve_node o at tid (at_server here server) reply old_state) servers_after) (sym found) (by (is_crossed tx (at_server here server)) refl)
      where
        mine : (b : Bool) → is_crossed tx (at_server here server) ≡ b → is_seen book here server.0 tid ≡ not b
        mine b is = seen_here book here server tid ∙ (ap (λ (o : Option TransactionValue). not (crossed_in o (at_server here server))) found ∙ ap not is)

        hidden : (c : Bool) → is_client server ≡ c → is_seen book here server.0 tid ≡ false → HoldsServers (is_seen book here) (crossed_serve server.0 tid (requests_at tx at) reply old_state) (if c then node.servers else with_server server (λ value. after_serving value tid delivery.op reply) node.servers)
        hidden true client other = (served_client (is_seen book here) old_state node.servers h.holds.servers server tid delivery.op reply client).1 (requests_at tx at)
        hidden false client other = served_hidden (is_seen book here) old_state node.servers h.holds.servers server tid delivery.op reply its_own other (waiting_ops at (waiting_at node tid server)) (is_standing (at_server here server)) (requests_at tx at) first

        plain : (c : Bool) → is_client server ≡ c → is_seen book here server.0 tid ≡ true → HoldsServers (is_seen book here) (server_serve server.0 tid delivery.op reply old_state) (if c then node.servers else with_server server (λ value. after_serving value tid delivery.op reply) node.servers)
        plain true client own_it = (served_client (is_seen book here) old_state node.servers h.holds.servers server tid delivery.op reply client).0
        plain false client own_it = served_seen (is_seen book here) old_state node.servers h.holds.servers server tid delivery.op reply its_own own_it

        by : (b : Bool) → is_crossed tx (at_server here server) ≡ b → HoldsServers (is_seen book here) (if b then crossed_serve server.0 tid (requests_at tx at) reply old_state else elim (standing_request tx at (at_server here server)) [ None ↦ old_state | Some request ↦ server_serve server.0 tid request.op reply old_state ])
            (if is_client server then node.servers else with_server server (λ value. after_serving value tid delivery.op reply) node.servers)
        by true is = hidden (is_client server) refl (mine true is)
        by false is =
            let stands = alone delivery.op _ tx at here server first (its_waits.once server at is) in
            subst (λ (o : Option Request). HoldsServers (is_seen book here) (elim o [ None ↦ old_state | Some request ↦ server_serve server.0 tid request.op reply old_state ]) servers_after) (sym stands.1)
            (subst (λ (op : Op). HoldsServers (is_seen book here) (server_serve server.0 tid op reply old_state) servers_after) (sym stands.2) (plain (is_client server) refl (mine false is)))

    idle_on : (t : Tid) → Apart tid t → is_idle (share_of servers_after.files.table t) ≡ is_idle (share_of node.servers.files.table t)
    idle_on t far = by (is_client server)
      where
        by : (b : Bool) → is_idle (share_of (if b then node.servers else with_server server (λ value. after_serving value tid delivery.op reply) node.servers).files.table t) ≡ is_idle (share_of node.servers.files.table t)
        by true = refl
        by false = files_keep (idle_in t) server (λ value. after_serving value tid delivery.op reply) node.servers (λ value. ap is_idle (served_share tid t delivery.op reply value far))

    -- files that hold something of it are due
    due_on : is_idle (share_of servers_after.files.table tid) ≡ false → (part_of after (at_server here rules.files_no) node.setting.inc).due ≡ true
    due_on busy = by (server.0 == numbers.files_no) refl
      where
        elsewhere : (c : Bool) → (server.0 == numbers.files_no) ≡ false → is_idle (share_of (if c then node.servers else with_server server (λ value. after_serving value tid delivery.op reply) node.servers).files.table tid) ≡ false → is_idle (share_of node.servers.files.table tid) ≡ false
        elsewhere true far b = b
        elsewhere false far b = subst (λ (v : ServerValue). is_idle (share_of v.table tid) ≡ false) (files_elsewhere server (λ value. after_serving value tid delivery.op reply) node.servers far) b

        own_due : server.0 ≡ numbers.files_no → (part_of after (at_server here server) node.setting.inc).due ≡ true
        own_due is = ap (λ (p : Part). p.due) (part_served at tx (at_server here server) node.setting.inc stamp (is_done reply)) ∙ ap (λ (n : ℕ). (serving_part (class_of n) stamp (is_done reply) (part_of tx (at_server here server) node.setting.inc)).due) is

        by : (b : Bool) → (server.0 == numbers.files_no) ≡ b → (part_of after (at_server here rules.files_no) node.setting.inc).due ≡ true
        by true is =
            let at_files : server.0 ≡ numbers.files_no = eqb-true server.0 numbers.files_no is in
            subst (λ (s : ServerNo). (part_of after (at_server here s) node.setting.inc).due ≡ true) (ap (λ (n : ℕ). record { 0 = n }) at_files) (own_due at_files)
        by false is =
            ap (λ (p : Part). p.due) (put_part_apart (life (at_server here server) node.setting.inc) _ tx.parts (at_server here rules.files_no) node.setting.inc (lives_apart here node.setting.inc server rules.files_no (eqb-false server.0 numbers.files_no is)))
            ∙ its_waits.due (elsewhere (is_client server) is busy)

    own_waits : HoldsWaits here node.setting.inc tid (f tx) (face_of new tid).waiting servers_after
    own_waits = subst (λ (i : ℕ). HoldsWaits here node.setting.inc tid (served_in at (at_server here server) i stamp (is_done reply) tx) (face_of node tid).waiting servers_after) (sym inc_is)
        (served_waits here node.setting.inc stamp delivery.number delivery.from server (is_done reply) tid tx delivery.op (face_of node tid).waiting node.servers servers_after its_waits first due_on)

    own : HoldsTid here node.setting.inc tid (f tx) (face_of new tid)
    own =
        subst (λ (i : ℕ). HoldsTid here node.setting.inc tid (served_in at (at_server here server) i stamp (is_done reply) tx) (face_of new tid)) (sym inc_is)
        (subst (λ (o : Option Participant). HoldsTid here node.setting.inc tid after (record (face_of new tid) { known = o })) (sym (part_changed tid (participant.served server) node.manager part known))
        (served_tid here node.setting.inc stamp delivery.number delivery.from server (is_done reply) tid tx (face_of node tid) part (length (changes_in servers_after.files tid))
        (subst (λ (o : Option Participant). HoldsTid here node.setting.inc tid tx (record (face_of node tid) { known = o })) known (of_tid stamp book node h.holds tid tx found))
        room one pending noted))

    held : Holds stamp new_book new
    held = one_changed stamp book new_book node new h.holds tid f tx found refl state (serve_state (find_transaction book tid) at tid (at_server here server) reply old_state)
        (changed_at_here (serve_node (find_transaction book tid) at tid (at_server here server) reply) book.nodes here.0 old_state h.holds.there)
        (changed_length here.0 (serve_node (find_transaction book tid) at tid (at_server here server) reply) book.nodes) refl refl
        (record { setting = refl; at = refl; in_inc = refl }) refl faces own clients
        (servers_still tid f (λ x. refl) book new_book refl here state servers_after servers_on) idle_on own_waits

    pub by_serve : broken book (entry_of here.0 stamp (acts.Serve tid (at_server here server) delivery.from delivery.number reply)) ≡ None → HoldsWork stamp before served_work
    by_serve lawful = entered stamp before work served_work (acts.Serve tid (at_server here server) delivery.from delivery.number reply) h (ap (λ (n : NodeValue). n.setting) node_is) entries_are lawful
        (subst (λ (n : NodeValue). Holds stamp new_book n) (sym node_is) held)

  -- the machine has served it then
  pub found_served : find_transaction (book_at stamp before served_work) tid ≡ Some after
  found_served =
      ap (λ (b : BookValue). find_transaction b tid) (book_now stamp before work served_work (acts.Serve tid (at_server here server) delivery.from delivery.number reply) (ap (λ (n : NodeValue). n.setting) node_is) entries_are)
      ∙ (found_now stamp book new_book node new h.holds tid f tx found refl
      ∙ ap (λ (i : ℕ). Some (served_in at (at_server here server) i stamp (is_done reply) tx)) inc_is)

  -- and the node
  pub served_setting : served_work.node.setting ≡ node.setting
  served_setting = ap (λ (n : NodeValue). n.setting) node_is
