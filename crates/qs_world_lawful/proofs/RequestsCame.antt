-- A request comes from another node: its transaction is met, its sender is noted, and it waits at its server.
use Rattle.qs_world_lawful.proofs.Words.{◌≡◌, ◌⊎◌, inl, inr, ℕ, Bool, true, false, List, [], ◌∷◌, ◌++◌, Option, Some, None, refl, sym, ap, subst, ◌∙◌, not, ◌||◌, is_none, is_some, if◌then◌else◌, tid_cmp, ClientNo, Member, NodeNo, Tid, same_node, Engaged, IpcValue, queue_at, filter, Entry, tid_itself, lookup_put, BookValue, find_transaction, book_after, TransactionValue, is_commit, Op, send, cover_from, engage, is_dropped, label_at, learn_label, met, put_label, request_came, take_in, Work}
use Rattle.qs_world_lawful.proofs.Words.{with_manager, Setting, new_participant, Participant, entries_of, HoldsWork, book_at, face_of, HoldsAt, HoldsTid, IsAsking, IsOwner, IsWithin, standing_ops, waiting_ops, false≢true, eqb-self, some_same, none-some}
use Rattle.qs_engage.specs.Engage as engaging
use Rattle.qs_engage.specs.declared.engage.Engaged.TheVariants as engagements
use Rattle.qs_ipc.specs.Queue.{is_of}
use Rattle.qs_packet.specs.declared.message.Message.TheVariants as messages
use Rattle.qs_node_step.specs.State as state
use Rattle.qs_node_step.specs.State.{NodeValue}
use Rattle.qs_tm.specs.Manager as tm
use Rattle.qs_world_lawful.specs.Face.{Face, waiting_at}
use Rattle.qs_world_lawful.proofs.Apart.{Apart, same_or_apart}
use Rattle.qs_world_lawful.proofs.Asking.{by_send, sent_entries, sent_node}
use Rattle.qs_world_lawful.proofs.Clauses.{of_tid}
use Rattle.qs_world_lawful.proofs.Engaging.{by_engaged, requested_sent}
use Rattle.qs_world_lawful.proofs.Enqueued.{by_enqueue}
use Rattle.qs_world_lawful.proofs.Faces.{put_apart}
use Rattle.qs_world_lawful.proofs.Frames.{asking_on, at_each, clients_with, held_on}
use Rattle.qs_world_lawful.proofs.Growing.{kept_on}
use Rattle.qs_world_lawful.proofs.Silent.{by_label}

-- ---- a transaction is met, elsewhere than at its home

met_tid : (home : Bool) (here : NodeNo) (inc : ℕ) (tid : Tid) (tx : TransactionValue) (face : Face) → is_commit tx.cell ≡ false → (tid.home ≡ here → ⊥) → HoldsTid here inc tid tx (record face { known = None }) → HoldsTid here inc tid tx (record face { known = Some (new_participant home) })
met_tid home here inc tid tx face still away h = record {
  sized = refl;
  members = λ held server kept. h.members is_held_then server kept;
  asked = h.asked;
  outcome = h.outcome;
  silent = h.silent;
  local = h.local;
  sent = λ held peer far. h.sent is_held_then peer far;
  pending = h.pending;
  noted = λ held count some is. h.noted is_held_then count some is;
  queued = h.queued;
  made = h.made;
  yielded = h.yielded;
  home = λ at in_inc. absurd (away at);
}
  where
    is_held_then : (false || not (is_commit tx.cell)) ≡ true
    is_held_then = ap not still

module _ (stamp : ℕ) (before : BookValue) (work : Work) (h : HoldsWork stamp before work) (tid : Tid) (tx : TransactionValue) (found : find_transaction (book_at stamp before work) tid ≡ Some tx) (still : is_commit tx.cell ≡ false) where
  module _ (unknown : tm.part_of tid work.node.manager ≡ None) (away : tid.home ≡ work.node.setting.node → ⊥) where
    abbrev node : NodeValue
    node = work.node

    abbrev part : Participant
    part = new_participant (tm.is_home tid node.manager)

    abbrev new : NodeValue
    new = record node { manager = tm.put_part tid part node.manager }

    abbrev book : BookValue
    book = book_at stamp before work

    known_now : tm.part_of tid new.manager ≡ Some part
    known_now = lookup_put tid_cmp tid part (tid_itself tid) node.manager.known

    own : HoldsAt node.setting.node node.setting.inc tid (find_transaction book tid) (face_of new tid)
    own = subst (λ (o : Option TransactionValue). HoldsAt node.setting.node node.setting.inc tid o (face_of new tid)) (sym found)
        (subst (λ (o : Option Participant). HoldsTid node.setting.node node.setting.inc tid tx (record (face_of node tid) { known = o })) (sym known_now)
        (met_tid (tm.is_home tid node.manager) node.setting.node node.setting.inc tid tx (face_of node tid) still away
        (subst (λ (o : Option Participant). HoldsTid node.setting.node node.setting.inc tid tx (record (face_of node tid) { known = o })) unknown (of_tid stamp book node h.holds tid tx found))))

    asking : (t : Tid) (c : ClientNo) (p : Participant) → t.home ≡ node.setting.node → tm.part_of t new.manager ≡ Some p → p.outcome ≡ None → p.asked ≡ true → IsOwner book t c → IsAsking new t c
    asking t c p at is none asked owns = by (same_or_apart tid t)
      where
        by : (tid ≡ t) ⊎ Apart tid t → IsAsking new t c
        by (inl same) =
            let it : Some part ≡ Some p = sym known_now ∙ subst (λ (u : Tid). tm.part_of u new.manager ≡ Some p) (sym same) is in
            absurd (false≢true (ap (λ (q : Participant). q.asked) (some_same it) ∙ asked))
        by (inr far) = asking_on node new (record { commands = refl; labels = refl; outcomes = refl }) t c (h.holds.clients.asking t c p at (sym (put_apart tid t part node.manager far) ∙ is) none asked owns)

    by_put : HoldsWork stamp before (with_manager (λ manager. tm.put_part tid part manager) work)
    by_put = kept_on stamp before work (with_manager (λ manager. tm.put_part tid part manager) work) h refl refl
        (held_on stamp book book node new h.holds (record { setting = refl; at = refl; in_inc = refl }) refl h.holds.state (record { up = refl; inc = refl; begun = refl; format = refl })
        h.holds.order refl h.holds.there (λ t is. is)
        (at_each node.setting.node node.setting.inc book book node new tid h.holds.at (λ t far. refl) (λ t far. record { known = put_apart tid t part node.manager far; local = refl; changes = refl; loans = refl; waiting = λ s. refl }) own)
        (clients_with book book node new (λ t. refl) (λ k. refl) (record { setting = refl; at = refl; in_inc = refl }) (record { commands = refl; labels = refl; outcomes = refl }) h.holds.clients asking)
        h.holds.servers h.holds.waits)

  by_met : HoldsWork stamp before (met tid work)
  by_met = by (same_node tid.home (state.here work)) refl
    where
      away_from : (b : Bool) → same_node tid.home (state.here work) ≡ b → b ≡ false → tid.home ≡ work.node.setting.node → ⊥
      away_from b is no_home at = false≢true (sym (is ∙ no_home) ∙ (ap (λ (n : NodeNo). same_node n work.node.setting.node) at ∙ eqb-self work.node.setting.node.0))

      of : same_node tid.home (state.here work) ≡ false → (o : Option Participant) → tm.part_of tid work.node.manager ≡ o
          → HoldsWork stamp before (record work { node = record work.node { manager = if is_some o then work.node.manager else tm.put_part tid (new_participant (tm.is_home tid work.node.manager)) work.node.manager } })
      of far (Some p) is = h
      of far None is = by_put is (away_from false far refl)

      by : (b : Bool) → same_node tid.home (state.here work) ≡ b → HoldsWork stamp before (if b then work else with_manager (tm.meet tid) work)
      by true is = h
      by false is = of is (tm.part_of tid work.node.manager) refl

-- ---- what an arriving request leaves until it waits

record Arrived (stamp : ℕ) (before : BookValue) (work new : Work) : Type 0 where
  held : HoldsWork stamp before new
  setting : new.node.setting ≡ work.node.setting
  queues : new.node.queues ≡ work.node.queues
  book : book_at stamp before new ≡ book_at stamp before work

module _ (stamp : ℕ) (before : BookValue) (work : Work) (tid : Tid) (tx : TransactionValue) (found : find_transaction (book_at stamp before work) tid ≡ Some tx) (still : is_commit tx.cell ≡ false) where
  labelled : HoldsWork stamp before work → (label : List ℕ) → Arrived stamp before work (learn_label label tid work)
  labelled h label = by (is_none (label_at label work.node))
    where
      by : (b : Bool) → Arrived stamp before work (if b then put_label (record { label = label; tid = Some tid; owner = None }) work else work)
      by true = record { held = by_label stamp before work h (record { label = label; tid = Some tid; owner = None }) (λ t c of owned. none-some c owned); setting = refl; queues = refl; book = refl }
      by false = record { held = h; setting = refl; queues = refl; book = refl }

  met_on : (w : Work) → Arrived stamp before work w → Arrived stamp before work (met tid w)
  met_on w a = record {
    held = by_met stamp before w a.held tid tx (ap (λ (b : BookValue). find_transaction b tid) a.book ∙ found) still;
    setting = (left (same_node tid.home (state.here w))).0 ∙ a.setting;
    queues = (left (same_node tid.home (state.here w))).1 ∙ a.queues;
    book = (left (same_node tid.home (state.here w))).2 ∙ a.book;
  }
    where
      left : (b : Bool) → ((if b then w else with_manager (tm.meet tid) w).node.setting ≡ w.node.setting) × ((if b then w else with_manager (tm.meet tid) w).node.queues ≡ w.node.queues)
          × (book_at stamp before (if b then w else with_manager (tm.meet tid) w) ≡ book_at stamp before w)
      left true = (refl, refl, refl)
      left false = (refl, refl, refl)

  requested_on : (peer : NodeNo) (number : ℕ) (w : Work) → Arrived stamp before work w → Arrived stamp before work (with_manager (tm.requested tid peer number) w)
  requested_on peer number w a = record { held = by_engaged stamp before w a.held tid (engaging.requested peer number) (requested_sent peer number); setting = a.setting; queues = a.queues; book = a.book }

  covered_on : (e : Engaged) (peer : NodeNo) (number : ℕ) (w : Work) → Arrived stamp before work w → Arrived stamp before work (cover_from e tid peer number w)
  covered_on engagements.Superior peer number w a = a
  covered_on engagements.Elsewhere peer number w a = record {
    held = by_send stamp before w peer (messages.Covered tid number) a.held;
    setting = ap (λ (n : NodeValue). n.setting) (sent_node peer (messages.Covered tid number) w) ∙ a.setting;
    queues = ap (λ (n : NodeValue). n.queues) (sent_node peer (messages.Covered tid number) w) ∙ a.queues;
    book = ap (λ (es : List Entry). book_after before es)
        (ap (λ (n : NodeValue). entries_of n.setting.node.0 stamp (send peer (messages.Covered tid number) w).out.entries) (sent_node peer (messages.Covered tid number) w)
        ∙ ap (entries_of w.node.setting.node.0 stamp) (sent_entries peer (messages.Covered tid number) w)) ∙ a.book;
  }

  pub by_request_came : HoldsWork stamp before work → (peer : NodeNo) (label : List ℕ) (member : Member) (number : ℕ) (op : Op)
      → IsWithin (waiting_ops (record { link = record { from = peer; to = work.node.setting.node }; number = number }) (waiting_at work.node tid member.server) ++ op ∷ []) (standing_ops tx (record { link = record { from = peer; to = work.node.setting.node }; number = number }) work.node.setting.node member.server)
      → HoldsWork stamp before (request_came peer tid label member number op work)
  by_request_came h peer label member number op stands = by (is_dropped (same_node tid.home (state.here work)) (state.part_of tid work))
    where
      arrived : Arrived stamp before work (engage tid peer number (learn_label label tid work))
      arrived = covered_on (tm.engaged_at tid peer (met tid (learn_label label tid work)).node.manager) peer number (with_manager (tm.requested tid peer number) (met tid (learn_label label tid work)))
          (requested_on peer number (met tid (learn_label label tid work)) (met_on (learn_label label tid work) (labelled h label)))

      stands_then : (s : Setting) (q : IpcValue) → s ≡ work.node.setting → q ≡ work.node.queues
          → IsWithin (waiting_ops (record { link = record { from = peer; to = s.node }; number = number }) (filter (is_of tid) (queue_at q member.server).waiting) ++ op ∷ []) (standing_ops tx (record { link = record { from = peer; to = s.node }; number = number }) s.node member.server)
      stands_then s q at_setting at_queues =
          subst (λ (x : Setting). IsWithin (waiting_ops (record { link = record { from = peer; to = x.node }; number = number }) (filter (is_of tid) (queue_at q member.server).waiting) ++ op ∷ []) (standing_ops tx (record { link = record { from = peer; to = x.node }; number = number }) x.node member.server)) (sym at_setting)
          (subst (λ (x : IpcValue). IsWithin (waiting_ops (record { link = record { from = peer; to = work.node.setting.node }; number = number }) (filter (is_of tid) (queue_at x member.server).waiting) ++ op ∷ []) (standing_ops tx (record { link = record { from = peer; to = work.node.setting.node }; number = number }) work.node.setting.node member.server)) (sym at_queues) stands)

      by : (b : Bool) → HoldsWork stamp before (take_in b member (record { tid = tid; from = peer; number = number; op = op; stale = false }) (engage tid peer number (learn_label label tid work)))
      by true = arrived.held
      by false = by_enqueue stamp before (engage tid peer number (learn_label label tid work)) arrived.held member.server (record { tid = tid; from = peer; number = number; op = op; stale = false }) tx
          (ap (λ (b : BookValue). find_transaction b tid) arrived.book ∙ found) (stands_then _ _ arrived.setting arrived.queues)
