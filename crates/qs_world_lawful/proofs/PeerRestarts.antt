-- Another node restarted: what waits here of its dead incarnation is marked, and each transaction that has to do with it is looked
-- at. Nothing is entered, and nothing is held of what that changes.
use Rattle.qs_world_lawful.proofs.Words.{◌≡◌, ℕ, ◌==◌, Bool, true, false, List, [], ◌∷◌, Option, Some, None, suc, refl, sym, ap, subst, ◌∙◌, length, map, fold, not, ◌&&◌, unwrap_or, if◌then◌else◌, filter, lookup, is_at, NodeNo, Outcome, ServerNo, Tid, with_last, listed, same_node, IpcValue, queue_at, server_cmp, no_queue, Delivery, BookValue, find_transaction, TransactionValue, RequestNo, Op, block, send, find_gone, inquire, is_orphaned_by, notice_decided, notice_part, notice_tid}
use Rattle.qs_world_lawful.proofs.Words.{peer_restarted, Work, with_manager, with_queues, is_told_again, named_by, is_owed_by, Participant, HoldsWork, book_at, face_of, HoldsWaitsAt, IsWithin, standing_ops, waiting_ops}
use Rattle.qs_node_step.specs.Restarts.{name_again, tell_again}
use Rattle.qs_ipc.specs.Ipc as ipc
use Rattle.qs_ipc.specs.Ipc.{mark_queue}
use Rattle.qs_ipc.specs.Queue.{is_of, mark_stale}
use Rattle.qs_ops.specs.declared.answer.Cause.TheVariants as causes
use Rattle.qs_packet.specs.declared.message.Message.TheVariants as messages
use Rattle.qs_node_step.specs.State.{NodeValue}
use Rattle.qs_tm.specs.Manager as tm
use Rattle.qs_tm.specs.Outcomes.{is_abort}
use Rattle.qs_tm.specs.Participant as participant
use Rattle.qs_world_lawful.specs.Face.{is_numbered}
use Rattle.qs_world_lawful.proofs.Asking.{by_send}
use Rattle.qs_world_lawful.proofs.Bare.{by_bare}
use Rattle.qs_world_lawful.proofs.Engaging.{by_engaged, last_sent}
use Rattle.qs_world_lawful.proofs.Frames.{clients_on, held_on}
use Rattle.qs_world_lawful.proofs.Growing.{kept_on}
use Rattle.qs_world_lawful.proofs.Silent.{Fewer, NoneMore, at_fewer}
use Rattle.qs_base_lemmas.proofs.Tests.{eq_le}

-- ---- what waits is marked

pub marked_at : (peer : NodeNo) (p : ServerNo → Bool) (queues : IpcValue) → (unwrap_or (lookup p (map (mark_queue peer) queues)) no_queue).waiting ≡ map (mark_stale peer) (unwrap_or (lookup p queues) no_queue).waiting
marked_at peer p [] = refl
marked_at peer p (q ∷ qs) = by (p q.0) refl (marked_at peer p qs)
  where
    by : (b : Bool) → p q.0 ≡ b → (unwrap_or (lookup p (map (mark_queue peer) qs)) no_queue).waiting ≡ map (mark_stale peer) (unwrap_or (lookup p qs) no_queue).waiting
        → (unwrap_or (lookup p (map (mark_queue peer) (q ∷ qs))) no_queue).waiting ≡ map (mark_stale peer) (unwrap_or (lookup p (q ∷ qs)) no_queue).waiting
    by true is more = rw is refl
    by false is more = rw is more

-- a mark leaves whose a request is, its number and its operation
pub marked_of : (peer : NodeNo) (t : Tid) (d : Delivery) → is_of t (mark_stale peer d) ≡ is_of t d
marked_of peer t d = by (d.from.0 == peer.0)
  where
    by : (b : Bool) → is_of t (if b then record d { stale = true } else d) ≡ is_of t d
    by true = refl
    by false = refl

pub marked_number : (peer : NodeNo) (at : RequestNo) (d : Delivery) → is_numbered at (mark_stale peer d) ≡ is_numbered at d
marked_number peer at d = by (d.from.0 == peer.0)
  where
    by : (b : Bool) → is_numbered at (if b then record d { stale = true } else d) ≡ is_numbered at d
    by true = refl
    by false = refl

marked_op : (peer : NodeNo) (d : Delivery) → (mark_stale peer d).op ≡ d.op
marked_op peer d = by (d.from.0 == peer.0)
  where
    by : (b : Bool) → (if b then record d { stale = true } else d).op ≡ d.op
    by true = refl
    by false = refl

pub filter_marked : (peer : NodeNo) (p : Delivery → Bool) → ((d : Delivery) → p (mark_stale peer d) ≡ p d) → (ds : List Delivery) → filter p (map (mark_stale peer) ds) ≡ map (mark_stale peer) (filter p ds)
filter_marked peer p same [] = refl
filter_marked peer p same (d ∷ ds) = by (p d) refl (filter_marked peer p same ds)
  where
    by : (b : Bool) → p d ≡ b → filter p (map (mark_stale peer) ds) ≡ map (mark_stale peer) (filter p ds) → filter p (map (mark_stale peer) (d ∷ ds)) ≡ map (mark_stale peer) (filter p (d ∷ ds))
    by true is more = rw (same d ∙ is, is) (ap (λ (xs : List Delivery). mark_stale peer d ∷ xs) more)
    by false is more = rw (same d ∙ is, is) more

pub map_marked : (peer : NodeNo) (ds : List Delivery) → map (λ (d : Delivery). d.op) (map (mark_stale peer) ds) ≡ map (λ (d : Delivery). d.op) ds
map_marked peer [] = refl
map_marked peer (d ∷ ds) = ap (λ (op : Op). op ∷ map (λ (d : Delivery). d.op) (map (mark_stale peer) ds)) (marked_op peer d) ∙ ap (λ (ops : List Op). d.op ∷ ops) (map_marked peer ds)

length_marked : (peer : NodeNo) (ds : List Delivery) → length (map (mark_stale peer) ds) ≡ length ds
length_marked peer [] = refl
length_marked peer (d ∷ ds) = ap suc (length_marked peer ds)

module _ (stamp : ℕ) (before : BookValue) (peer : NodeNo) where
  module _ (work : Work) (h : HoldsWork stamp before work) where
    abbrev node : NodeValue
    node = work.node

    abbrev new : NodeValue
    new = record node { queues = ipc.mark_queues peer node.queues }

    abbrev book : BookValue
    book = book_at stamp before work

    waits_marked : (t : Tid) (server : ServerNo) → (face_of new t).waiting server ≡ map (mark_stale peer) ((face_of node t).waiting server)
    waits_marked t server = ap (filter (is_of t)) (marked_at peer (is_at (server_cmp server)) node.queues) ∙ filter_marked peer (is_of t) (marked_of peer t) (queue_at node.queues server).waiting

    fewer : (t : Tid) → Fewer (face_of new t).waiting (face_of node t).waiting
    fewer t server at = eq_le _ _ (ap (λ (ds : List Delivery). length (filter (is_numbered at) ds)) (waits_marked t server)
        ∙ (ap length (filter_marked peer (is_numbered at) (marked_number peer at) ((face_of node t).waiting server)) ∙ length_marked peer (filter (is_numbered at) ((face_of node t).waiting server))))

    none : (t : Tid) → NoneMore (face_of new t).waiting (face_of node t).waiting
    none t server is = waits_marked t server ∙ ap (map (mark_stale peer)) is

    ops_same : (t : Tid) (server : ServerNo) (at : RequestNo) → waiting_ops at ((face_of new t).waiting server) ≡ waiting_ops at ((face_of node t).waiting server)
    ops_same t server at = ap (waiting_ops at) (waits_marked t server)
        ∙ (ap (map (λ (d : Delivery). d.op)) (filter_marked peer (is_numbered at) (marked_number peer at) ((face_of node t).waiting server)) ∙ map_marked peer (filter (is_numbered at) ((face_of node t).waiting server)))

    waits : (t : Tid) → HoldsWaitsAt node.setting.node node.setting.inc t (find_transaction book t) (face_of new t).waiting node.servers
    waits t = by (find_transaction book t) (h.holds.waits t)
      where
        by : (o : Option TransactionValue) → HoldsWaitsAt node.setting.node node.setting.inc t o (face_of node t).waiting node.servers → HoldsWaitsAt node.setting.node node.setting.inc t o (face_of new t).waiting node.servers
        by None k = k
        by (Some tx) k = record { whole = k.whole; due = k.due; within = λ server at near. subst (λ (ops : List Op). IsWithin ops (standing_ops tx at node.setting.node server)) (sym (ops_same t server at)) (k.within server at near); once = k.once; fits = k.fits }

    pub by_marks : HoldsWork stamp before (with_queues (ipc.mark_queues peer) work)
    by_marks = kept_on stamp before work (with_queues (ipc.mark_queues peer) work) h refl refl
        (held_on stamp book book node new h.holds (record { setting = refl; at = refl; in_inc = refl }) refl h.holds.state (record { up = refl; inc = refl; begun = refl; format = refl })
        h.holds.order refl h.holds.there (λ t is. is)
        (λ t. at_fewer node.setting.node node.setting.inc t (find_transaction book t) (face_of node t) (face_of new t).waiting (fewer t) (none t) (h.holds.at t))
        (clients_on book book node new (λ t. refl) (λ k. refl) (record { setting = refl; at = refl; in_inc = refl }) (record { commands = refl; labels = refl; outcomes = refl }) h.holds.clients (λ t. refl)) h.holds.servers waits)

module _ (stamp : ℕ) (before : BookValue) (peer : NodeNo) (old new_inc : ℕ) where
  -- ---- what is looked at

  by_block : (work : Work) → HoldsWork stamp before work → (tid : Tid) → HoldsWork stamp before (block tid (causes.Gone peer old) work)
  by_block work h tid = by_bare stamp before (with_manager (tm.refused tid) work) tid (participant.add_cause (causes.Gone peer old)) (λ p. refl) (by_bare stamp before work tid participant.refused (λ p. refl) h)

  by_gone : (work : Work) → HoldsWork stamp before work → (tid : Tid) (part : Participant) → HoldsWork stamp before (find_gone peer old tid part work)
  by_gone work h tid part = by (is_owed_by peer part)
    where
      by : (b : Bool) → HoldsWork stamp before (if b then block tid (causes.Gone peer old) work else work)
      by true = by_block work h tid
      by false = h

  by_inquire : (work : Work) → HoldsWork stamp before work → (tid : Tid) (part : Participant) → HoldsWork stamp before (inquire peer new_inc tid part work)
  by_inquire work h tid part = by (not part.engage.home && is_orphaned_by peer new_inc tid part)
    where
      by : (b : Bool) → HoldsWork stamp before (if b then send tid.home (messages.Inquire tid) work else work)
      by true = by_send stamp before work tid.home (messages.Inquire tid) h
      by false = h

  by_decided : (work : Work) → HoldsWork stamp before work → (tid : Tid) (outcome : Outcome) (part : Participant) → HoldsWork stamp before (notice_decided peer tid outcome part work)
  by_decided work h tid outcome part = by part.engage.home
    where
      again : (b : Bool) → HoldsWork stamp before (if b then send peer (messages.Tell tid outcome) work else work)
      again true = by_send stamp before work peer (messages.Tell tid outcome) h
      again false = h

      named : (b : Bool) → HoldsWork stamp before (if b then send peer (messages.Told tid (listed (named_by tid.home part))) work else work)
      named true = by_send stamp before work peer (messages.Told tid (listed (named_by tid.home part))) h
      named false = h

      by : (b : Bool) → HoldsWork stamp before (if b then tell_again peer tid outcome part work else name_again peer tid part work)
      by true = again (is_told_again peer part)
      by false = named (is_abort part.outcome && same_node tid.home peer)

  by_part : (work : Work) → HoldsWork stamp before work → (tid : Tid) (part : Participant) → HoldsWork stamp before (notice_part peer old new_inc tid part work)
  by_part work h tid part = by part.outcome
    where
      by : (o : Option Outcome) → HoldsWork stamp before (elim o [ None ↦ inquire peer new_inc tid part (find_gone peer old tid part work) | Some outcome ↦ notice_decided peer tid outcome part work ])
      by None = by_inquire (find_gone peer old tid part work) (by_gone work h tid part) tid part
      by (Some outcome) = by_decided work h tid outcome part

  pub by_tid : (work : Work) → HoldsWork stamp before work → (tid : Tid) → HoldsWork stamp before (notice_tid peer old new_inc work tid)
  by_tid work h tid = by (tm.part_of tid work.node.manager) refl
    where
      by : (o : Option Participant) → tm.part_of tid work.node.manager ≡ o → HoldsWork stamp before (elim o [ None ↦ work | Some part ↦ notice_part peer old new_inc tid part (with_manager (tm.restarted tid peer) work) ])
      by None is = h
      by (Some part) is = by_part (with_manager (tm.restarted tid peer) work) (by_engaged stamp before work h tid (with_last peer 0) (last_sent peer 0)) tid part

  by_each : (tids : List Tid) (work : Work) → HoldsWork stamp before work → HoldsWork stamp before (fold (notice_tid peer old new_inc) work tids)
  by_each [] work h = h
  by_each (tid ∷ tids) work h = by_each tids (notice_tid peer old new_inc work tid) (by_tid work h tid)

  pub by_peer_restarted : (work : Work) → HoldsWork stamp before work → HoldsWork stamp before (peer_restarted peer old new_inc work)
  by_peer_restarted work h = by_each (tm.concerned peer work.node.manager) (with_queues (ipc.mark_queues peer) work) (by_marks stamp before peer work h)
