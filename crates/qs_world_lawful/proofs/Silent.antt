-- What a node does without an entry that changes what is held: a request leaves its queue, a label is kept, a command comes, a
-- loan is taken; and the tick of its clock.
use Rattle.qs_world_lawful.proofs.Words.{◌≡◌, ◌≢◌, ◌⊎◌, inl, inr, ℕ, ◌≤◌, Bool, true, false, List, [], ◌∷◌, Option, Some, None, Equal, suc, refl, sym, ap, subst, ◌∙◌, arith, length, drop, le_refl, filter, find, lookup, is_at, tied_itself, nat_cmp_total, exact_unsigned, ClientNo, NodeNo, ServerNo, Tid, IpcValue, queue_at, QueueValue, Delivery, ScriptLine, lookup_put, lookup_put_apart, changed_at_here, put_rises, TransactionValue, RequestNo, BookValue, find_transaction, tick_node, ticked}
use Rattle.qs_world_lawful.proofs.Words.{enter, put_label, label_at, has_label, Work, with_queues, with_manager, change_server, client_cmp, with_command, KeptLabel, OpenCommand, face_of, HoldsTid, HoldsAt, HoldsClients, IsBehind, IsOwner, IsAsking, HoldsWork, book_at, is_seen, HoldsWaitsAt, IsWithin, waiting_ops, op_of, Op, some_same, le_le}
use Rattle.std.specs.Cmp.{IsTotalOrder}
use Rattle.std.proofs.lemmas.Cmp.{on_total}
use Rattle.qs_ipc.specs.Ipc as ipc
use Rattle.qs_ipc.specs.Queue.{is_of}
use Rattle.qs_book_journal.specs.declared.entry.Act.TheVariants as acts
use Rattle.qs_tm.specs.Manager as tm
use Rattle.qs_node_servers.specs.Servers.{timers_no}
use Rattle.qs_node_step.specs.State.{NodeValue}
use Rattle.qs_world_lawful.specs.Face.{Face, is_numbered}
use Rattle.qs_world_lawful.proofs.Answers.{AreApart, same_client_or}
use Rattle.qs_world_lawful.proofs.Begins.{label_stays, label_more}
use Rattle.qs_world_lawful.proofs.Clauses.{may_tick}
use Rattle.qs_world_lawful.proofs.Faces.{left_here, left_elsewhere, same_server_or}
use Rattle.qs_world_lawful.proofs.Frames.{SameFace, held_on, at_none, clients_on}
use Rattle.qs_world_lawful.proofs.Growing.{entered, kept_on, book_with}
use Rattle.qs_world_lawful.proofs.SameWaits.{waits_alike}
use Rattle.qs_world_lawful.proofs.ServedTables.{ticked_servers}
use Rattle.qs_world_lawful.proofs.Steps.{next_again, changed_length}
use Rattle.qs_world_lawful.proofs.Within.{within_left}

-- ---- a request leaves its queue

dropped : {A : Type 0} (p : A → Bool) (xs : List A) → length (filter p (drop 1 xs)) ≤ length (filter p xs)
dropped p [] = grind arith
dropped p (x ∷ xs) = by (p x) refl
  where
    up : (n : ℕ) → n ≤ suc n
    up n = grind arith

    by : (b : Bool) → p x ≡ b → length (filter p xs) ≤ length (filter p (x ∷ xs))
    by true is = rw is (up (length (filter p xs)))
    by false is = rw is (le_refl (length (filter p xs)))

-- of each kind no more waits than before
abbrev pub Fewer : (ServerNo → List Delivery) → (ServerNo → List Delivery) → Type 0
Fewer new old = (server : ServerNo) (at : RequestNo) → length (filter (is_numbered at) (new server)) ≤ length (filter (is_numbered at) (old server))

abbrev pub NoneMore : (ServerNo → List Delivery) → (ServerNo → List Delivery) → Type 0
NoneMore new old = (server : ServerNo) → old server ≡ [] → new server ≡ []

tid_fewer : (here : NodeNo) (inc : ℕ) (tid : Tid) (tx : TransactionValue) (face : Face) (waiting : ServerNo → List Delivery) → Fewer waiting face.waiting → HoldsTid here inc tid tx face → HoldsTid here inc tid tx (record face { waiting = waiting })
tid_fewer here inc tid tx face waiting fewer h = record {
  sized = h.sized;
  members = h.members;
  asked = h.asked;
  outcome = h.outcome;
  silent = h.silent;
  local = h.local;
  sent = h.sent;
  pending = h.pending;
  noted = h.noted;
  queued = λ server at near. le_le _ _ _ (fewer server at) (h.queued server at near);
  made = h.made;
  yielded = h.yielded;
  home = h.home;
}

pub at_fewer : (here : NodeNo) (inc : ℕ) (tid : Tid) (o : Option TransactionValue) (face : Face) (waiting : ServerNo → List Delivery) → Fewer waiting face.waiting → NoneMore waiting face.waiting → HoldsAt here inc tid o face → HoldsAt here inc tid o (record face { waiting = waiting })
at_fewer here inc tid (Some tx) face waiting fewer none h = tid_fewer here inc tid tx face waiting fewer h
at_fewer here inc tid None face waiting fewer none h = record { known = h.known; local = h.local; changes = h.changes; loans = h.loans; waiting = λ server. none server (h.waiting server) }

module _ (stamp : ℕ) (before : BookValue) (work : Work) (h : HoldsWork stamp before work) where
  abbrev node : NodeValue
  node = work.node

  abbrev book : BookValue
  book = book_at stamp before work

  abbrev here : NodeNo
  here = node.setting.node

  filter_drop : (t : Tid) (at : RequestNo) (ds : List Delivery) → length (filter (is_numbered at) (filter (is_of t) (drop 1 ds))) ≤ length (filter (is_numbered at) (filter (is_of t) ds))
  filter_drop t at [] = grind arith
  filter_drop t at (d ∷ ds) = by (is_of t d) refl
    where
      by : (b : Bool) → is_of t d ≡ b → length (filter (is_numbered at) (filter (is_of t) ds)) ≤ length (filter (is_numbered at) (filter (is_of t) (d ∷ ds)))
      by true is = rw is (dropped (is_numbered at) (d ∷ filter (is_of t) ds))
      by false is = rw is (le_refl _)

  filter_none : (t : Tid) (ds : List Delivery) → filter (is_of t) ds ≡ [] → filter (is_of t) (drop 1 ds) ≡ []
  filter_none t [] e = refl
  filter_none t (d ∷ ds) e = by (is_of t d) refl e
    where
      by : (b : Bool) → is_of t d ≡ b → filter (is_of t) (d ∷ ds) ≡ [] → filter (is_of t) ds ≡ []
      by true is none = absurd (cc (rw is at none))
      by false is none = rw is at none

  pub by_next : (server : ServerNo) → HoldsWork stamp before (with_queues (ipc.after_next server) work)
  by_next server = kept_on stamp before work (with_queues (ipc.after_next server) work) h refl refl
      (held_on stamp book book node new h.holds (record { setting = refl; at = refl; in_inc = refl }) refl h.holds.state (record { up = refl; inc = refl; begun = refl; format = refl })
      h.holds.order refl h.holds.there (λ t is. is)
      (λ t. at_fewer here node.setting.inc t (find_transaction book t) (face_of node t) (face_of new t).waiting (fewer t) (none t) (h.holds.at t))
      (clients_on book book node new (λ t. refl) (λ k. refl) (record { setting = refl; at = refl; in_inc = refl }) (record { commands = refl; labels = refl; outcomes = refl }) h.holds.clients (λ t. refl)) h.holds.servers waits)
    where
      new : NodeValue
      new = record work.node { queues = ipc.after_next server work.node.queues }

      fewer : (t : Tid) → Fewer (face_of new t).waiting (face_of node t).waiting
      fewer t other at = same_server_or server other _
          (λ same. subst (λ (s : ServerNo). length (filter (is_numbered at) (filter (is_of t) (queue_at (ipc.after_next server node.queues) s).waiting)) ≤ length (filter (is_numbered at) (filter (is_of t) (queue_at node.queues s).waiting))) same
          (rw (left_here server node.queues) (filter_drop t at (queue_at node.queues server).waiting)))
          (λ far apart. rw (left_elsewhere server other node.queues apart) (le_refl _))

      none : (t : Tid) → NoneMore (face_of new t).waiting (face_of node t).waiting
      none t other is = same_server_or server other _
          (λ same. subst (λ (s : ServerNo). filter (is_of t) (queue_at node.queues s).waiting ≡ [] → filter (is_of t) (queue_at (ipc.after_next server node.queues) s).waiting ≡ []) same
          (λ e. rw (left_here server node.queues) (filter_none t (queue_at node.queues server).waiting e)) is)
          (λ far apart. ap (λ (q : QueueValue). filter (is_of t) q.waiting) (left_elsewhere server other node.queues apart) ∙ is)

      ops_left : (t : Tid) (at : RequestNo) (ds : List Delivery) (rs : List Op) → IsWithin (waiting_ops at (filter (is_of t) ds)) rs → IsWithin (waiting_ops at (filter (is_of t) (drop 1 ds))) rs
      ops_left t at [] rs w = w
      ops_left t at (d ∷ ds) rs w = by (is_of t d) refl w
        where
          of : (b : Bool) → is_numbered at d ≡ b → IsWithin (waiting_ops at (d ∷ filter (is_of t) ds)) rs → IsWithin (waiting_ops at (filter (is_of t) ds)) rs
          of true is v = within_left (op_of d ∷ waiting_ops at (filter (is_of t) ds)) rs (rw is at v)
          of false is v = rw is at v

          by : (b : Bool) → is_of t d ≡ b → IsWithin (waiting_ops at (filter (is_of t) (d ∷ ds))) rs → IsWithin (waiting_ops at (filter (is_of t) ds)) rs
          by true is v = of (is_numbered at d) refl (rw is at v)
          by false is v = rw is at v

      within_on : (t : Tid) (other : ServerNo) (at : RequestNo) (rs : List Op) → IsWithin (waiting_ops at ((face_of node t).waiting other)) rs → IsWithin (waiting_ops at ((face_of new t).waiting other)) rs
      within_on t other at rs w = same_server_or server other _
          (λ same. subst (λ (s : ServerNo). IsWithin (waiting_ops at (filter (is_of t) (queue_at node.queues s).waiting)) rs → IsWithin (waiting_ops at (filter (is_of t) (queue_at (ipc.after_next server node.queues) s).waiting)) rs) same
          (λ v. rw (left_here server node.queues) (ops_left t at (queue_at node.queues server).waiting rs v)) w)
          (λ far apart. rw (left_elsewhere server other node.queues apart) w)

      waits : (t : Tid) → HoldsWaitsAt here node.setting.inc t (find_transaction book t) (face_of new t).waiting new.servers
      waits t = by (find_transaction book t) (h.holds.waits t)
        where
          by : (o : Option TransactionValue) → HoldsWaitsAt here node.setting.inc t o (face_of node t).waiting node.servers → HoldsWaitsAt here node.setting.inc t o (face_of new t).waiting new.servers
          by None k = k
          by (Some tx) k = record { whole = k.whole; due = k.due; within = λ s at near. within_on t s at _ (k.within s at near); once = k.once; fits = k.fits }

  -- ---- a label is kept: of a begin that was refused, or of a transaction of another node's client

  pub by_label : (b : KeptLabel) → ((t : Tid) (c : ClientNo) → b.tid ≡ Some t → b.owner ≡ Some c → ⊥) → HoldsWork stamp before (put_label b work)
  by_label b nobody = kept_on stamp before work (put_label b work) h refl refl
      (held_on stamp book book node new h.holds (record { setting = refl; at = refl; in_inc = refl }) refl h.holds.state (record { up = refl; inc = refl; begun = refl; format = refl })
      h.holds.order refl h.holds.there (λ t is. is) (at_none here node.setting.inc book node new h.holds.at faces) clients h.holds.servers h.holds.waits)
    where
      new : NodeValue
      new = (put_label b work).node

      faces : (t : Tid) → SameFace (face_of node t) (face_of new t)
      faces t = record { known = refl; local = refl; changes = refl; loans = refl; waiting = λ s. refl }

      asking_on : (t : Tid) (c : ClientNo) → IsAsking node t c → IsAsking new t c
      asking_on t c a = record { command = a.command; waits = a.waits; commits = a.commits; unissued = a.unissued; begun = a.begun; labelled = label_stays a.command.line.label b node.kept.now.labels a.begun a.labelled; of = a.of; owned = a.owned }

      labels_on : (label : List ℕ) (begun : KeptLabel) (t : Tid) (c : ClientNo) → label_at label new ≡ Some begun → begun.tid ≡ Some t → begun.owner ≡ Some c → IsOwner book t c
      labels_on label begun t c is of owned = by (label_more label b node.kept.now.labels begun is)
        where
          by : (find (has_label label) node.kept.now.labels ≡ Some begun) ⊎ (b ≡ begun) → IsOwner book t c
          by (inl was) = h.holds.clients.labels label begun t c was of owned
          by (inr same) = absurd (nobody t c (ap (λ (x : KeptLabel). x.tid) same ∙ of) (ap (λ (x : KeptLabel). x.owner) same ∙ owned))

      clients : HoldsClients book new
      clients = record {
        apart = h.holds.clients.apart;
        lines = h.holds.clients.lines;
        labels = labels_on;
        outcomes = h.holds.clients.outcomes;
        asking = λ t c part at is none asked owns. asking_on t c (h.holds.clients.asking t c part at is none asked owns);
      }

  -- ---- a command comes, of a client that has none, in order of its lines

  pub by_command : (line : ScriptLine) → lookup (is_at (client_cmp line.client)) node.commands ≡ None → IsBehind book line.client line.line → HoldsWork stamp before (with_command line work)
  by_command line idle behind = kept_on stamp before work (with_command line work) h refl refl
      (held_on stamp book book node new h.holds (record { setting = refl; at = refl; in_inc = refl }) refl h.holds.state (record { up = refl; inc = refl; begun = refl; format = refl })
      h.holds.order refl h.holds.there (λ t is. is) (at_none here node.setting.inc book node new h.holds.at faces) clients h.holds.servers h.holds.waits)
    where
      command : OpenCommand
      command = record { line = line; issued = None }

      new : NodeValue
      new = (with_command line work).node

      faces : (t : Tid) → SameFace (face_of node t) (face_of new t)
      faces t = record { known = refl; local = refl; changes = refl; loans = refl; waiting = λ s. refl }

      cmp_exact : (c d : ClientNo) → client_cmp c d ≡ Equal → c ≡ d
      cmp_exact c d e = ap (λ (n : ℕ). record { 0 = n }) (exact_unsigned c.0 d.0 e)

      client_at : (c : ClientNo) → is_at (client_cmp c) line.client ≡ false → lookup (is_at (client_cmp c)) new.commands ≡ lookup (is_at (client_cmp c)) node.commands
      client_at c far = lookup_put_apart client_cmp line.client (record { line = line; issued = None }) (cmp_exact line.client) (is_at (client_cmp c)) far node.commands

      lines_on : (c : ClientNo) (other : OpenCommand) → lookup (is_at (client_cmp c)) new.commands ≡ Some other → IsBehind book c other.line.line
      lines_on c other is = by (same_client_or c line.client)
        where
          itself : is_at (client_cmp line.client) line.client ≡ true
          itself = rw (tied_itself nat_cmp_total line.client.0) refl

          by : (c ≡ line.client) ⊎ ((c ≢ line.client) × AreApart c line.client) → IsBehind book c other.line.line
          by (inl same) =
              let now : Some (record { line = line; issued = None }) ≡ Some other =
              sym (lookup_put client_cmp line.client (record { line = line; issued = None }) (tied_itself nat_cmp_total line.client.0) node.commands) ∙ subst (λ (x : ClientNo). lookup (is_at (client_cmp x)) new.commands ≡ Some other) same is in
              subst (λ (o : OpenCommand). IsBehind book c o.line.line) (some_same now) (subst (λ (x : ClientNo). IsBehind book x line.line) (sym same) behind)
          by (inr far) = h.holds.clients.lines c other (sym (client_at c (far.1 line.client itself)) ∙ is)

      asking_on : (t : Tid) (c : ClientNo) → IsAsking node t c → IsAsking new t c
      asking_on t c a = record { command = a.command; waits = waits (same_client_or c line.client); commits = a.commits; unissued = a.unissued; begun = a.begun; labelled = a.labelled; of = a.of; owned = a.owned }
        where
          nothing : None ≡ Some a.command → ⊥
          nothing e = cc e

          itself : is_at (client_cmp line.client) line.client ≡ true
          itself = rw (tied_itself nat_cmp_total line.client.0) refl

          waits : (c ≡ line.client) ⊎ ((c ≢ line.client) × AreApart c line.client) → lookup (is_at (client_cmp c)) new.commands ≡ Some a.command
          waits (inl same) = absurd (nothing (sym idle ∙ subst (λ (x : ClientNo). lookup (is_at (client_cmp x)) node.commands ≡ Some a.command) same a.waits))
          waits (inr far) = client_at c (far.1 line.client itself) ∙ a.waits

      clients : HoldsClients book new
      clients = record {
        apart = put_rises client_cmp total line.client (record { line = line; issued = None }) node.commands h.holds.clients.apart;
        lines = lines_on;
        labels = h.holds.clients.labels;
        outcomes = h.holds.clients.outcomes;
        asking = λ t c part at is none asked owns. asking_on t c (h.holds.clients.asking t c part at is none asked owns);
      }
        where
          total : IsTotalOrder client_cmp
          total = on_total (λ (c : ClientNo). c.0) nat_cmp_total

  -- ---- time passes

  abbrev ticked_work : Work
  ticked_work = with_manager tm.tick (change_server timers_no (λ value. record value { timers = ticked value.timers }) (enter acts.Tick work))

  pub by_tick : HoldsWork stamp before (with_manager tm.tick (change_server timers_no (λ value. record value { timers = ticked value.timers }) (enter acts.Tick work)))
  by_tick = entered stamp before work ticked_work acts.Tick h refl refl (may_tick stamp book node h.holds)
      (held_on stamp book (book_with stamp before work acts.Tick) node ticked_work.node h.holds
      (record { setting = refl; at = refl; in_inc = refl }) refl (tick_node stamp h.holds.state) (record { up = refl; inc = refl; begun = refl; format = refl })
      (next_again stamp here.0 book (book_with stamp before work acts.Tick) refl refl h.holds.order)
      (changed_length here.0 (tick_node stamp) book.nodes) (changed_at_here (tick_node stamp) book.nodes here.0 h.holds.state h.holds.there) (λ t is. is)
      (at_none here node.setting.inc book node ticked_work.node h.holds.at (λ t. record { known = refl; local = refl; changes = refl; loans = refl; waiting = λ s. refl }))
      (clients_on book (book_with stamp before work acts.Tick) node ticked_work.node (λ t. refl) (λ k. refl) (record { setting = refl; at = refl; in_inc = refl }) (record { commands = refl; labels = refl; outcomes = refl }) h.holds.clients (λ t. refl))
      (ticked_servers (is_seen book here) h.holds.state node.servers h.holds.servers stamp)
      (λ t. waits_alike here node.setting.inc t (find_transaction book t) (face_of node t).waiting (face_of ticked_work.node t).waiting node.servers ticked_work.node.servers (λ s. refl) refl (h.holds.waits t)))
