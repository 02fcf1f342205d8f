-- What a node does for one transaction where another node restarted leaves every other one, and each server of its kind.
use Rattle.qs_world_refine.proofs.Words.{◌≡◌, ℕ, ◌+◌, ◌==◌, ◌&&◌, not, Bool, true, false, List, [], ◌∷◌, Option, Some, None, map, refl, ◌∙◌, if◌then◌else◌, is_at, tid_cmp, NodeNo, ServerNo, Tid, same_node, listed, IpcValue, queue_at, server_cmp, count_of, mark_stale, Delivery, is_abort, is_told_again, named_by, is_owed_by, Participant, block, send, find_gone, is_orphaned_by, inquire, notice_decided, notice_part, notice_tid, Work, part_of, with_manager, with_queues, server_no}
use Rattle.qs_base.specs.declared.identifiers.Outcome.{Outcome}
use Rattle.qs_ipc.specs.Ipc as ipc
use Rattle.qs_ipc.specs.Queue.{is_of}
use Rattle.qs_ops.specs.declared.answer.Cause.TheVariants as causes
use Rattle.qs_packet.specs.declared.message.Message.TheVariants as messages
use Rattle.qs_tm.specs.Manager as tm
use Rattle.qs_tm.specs.Participant as participant
use Rattle.qs_world_refine.proofs.DecidedStands.{KeepOutcomes, outcome_itself, outcome_on, outcome_sent}
use Rattle.qs_world_refine.proofs.During.{Leaves, leaves_itself, leaves_on, send_leaves}
use Rattle.qs_world_refine.proofs.Frames.{out_leaves, part_leaves, part_apart}
use Rattle.qs_world_refine.proofs.KindsKept.{KeepsKinds, send_kinds}
use Rattle.qs_world_refine.proofs.LogFrames.{Apart}
use Rattle.qs_world_refine.proofs.Maps.{lookup_changed}
use Rattle.qs_world_refine.proofs.Others.{manager_leaves}
use Rattle.qs_world_refine.proofs.PassCarried.{Carries, carries_itself, carries_on, carries_send}

-- ---- what waits is marked, and waits as before

marked_count : (t : Tid) (peer : NodeNo) (waiting : List Delivery) → count_of t (map (mark_stale peer) waiting) ≡ count_of t waiting
marked_count t peer [] = refl
marked_count t peer (d ∷ rest) = by (d.from.0 == peer.0) (is_of t d) refl (marked_count t peer rest)
  where
    by : (a b : Bool) → is_of t d ≡ b → count_of t (map (mark_stale peer) rest) ≡ count_of t rest
        → (if is_of t (if a then record d { stale = true } else d) then count_of t (map (mark_stale peer) rest) + 1 else count_of t (map (mark_stale peer) rest)) ≡ (if b then count_of t rest + 1 else count_of t rest)
    by true b is more = rw (is, more) refl
    by false b is more = rw (is, more) refl

marked_waits : (t : Tid) (peer : NodeNo) (s : ServerNo) (es : IpcValue) → count_of t (queue_at (ipc.mark_queues peer es) s).waiting ≡ count_of t (queue_at es s).waiting
marked_waits t peer s [] = refl
marked_waits t peer s (e ∷ es) = by (is_at (server_cmp s) e.0) refl (marked_waits t peer s es)
  where
    by : (b : Bool) → is_at (server_cmp s) e.0 ≡ b → count_of t (queue_at (ipc.mark_queues peer es) s).waiting ≡ count_of t (queue_at es s).waiting → count_of t (queue_at (ipc.mark_queues peer (e ∷ es)) s).waiting ≡ count_of t (queue_at (e ∷ es) s).waiting
    by true is more = rw is (marked_count t peer e.1.waiting)
    by false is more = rw is more

pub marked_leaves : (t : Tid) (peer : NodeNo) (work : Work) → Leaves t work (with_queues (ipc.mark_queues peer) work)
marked_leaves t peer work = out_leaves t work (with_queues (ipc.mark_queues peer) work)
    (record { around = record { setting = refl; waits = λ s. marked_waits t peer (server_no s) work.node.queues; loans = refl; past = refl }; part = refl }) refl refl

module _ (peer : NodeNo) (old new : ℕ) where
  -- ---- every other transaction

  module _ (t tid : Tid) (apart : Apart t tid) where
    gone_leaves : (part : Participant) (work : Work) → Leaves t work (find_gone peer old tid part work)
    gone_leaves part work = by (is_owed_by peer part)
      where
        by : (b : Bool) → Leaves t work (if b then block tid (causes.Gone peer old) work else work)
        by true = manager_leaves t (λ manager. tm.add_cause tid (causes.Gone peer old) (tm.refused tid manager)) work
            (part_apart t tid (participant.add_cause (causes.Gone peer old)) (tm.refused tid work.node.manager) apart ∙ part_apart t tid participant.refused work.node.manager apart)
        by false = leaves_itself t work

    inquire_leaves : (part : Participant) (work : Work) → Leaves t work (inquire peer new tid part work)
    inquire_leaves part work = by (not part.engage.home && is_orphaned_by peer new tid part)
      where
        by : (b : Bool) → Leaves t work (if b then send tid.home (messages.Inquire tid) work else work)
        by true = send_leaves t tid.home (messages.Inquire tid) work (rw apart refl)
        by false = leaves_itself t work

    decided_leaves : (outcome : Outcome) (part : Participant) (work : Work) → Leaves t work (notice_decided peer tid outcome part work)
    decided_leaves outcome part work = by part.engage.home (is_told_again peer part) (is_abort part.outcome && same_node tid.home peer)
      where
        by : (h a b : Bool) → Leaves t work (if h then (if a then send peer (messages.Tell tid outcome) work else work) else if b then send peer (messages.Told tid (listed (named_by tid.home part))) work else work)
        by true true b = send_leaves t peer (messages.Tell tid outcome) work (rw apart refl)
        by true false b = leaves_itself t work
        by false a true = send_leaves t peer (messages.Told tid (listed (named_by tid.home part))) work (rw apart refl)
        by false a false = leaves_itself t work

    pub notice_leaves : (work : Work) → Leaves t work (notice_tid peer old new work tid)
    notice_leaves work = by (part_of tid work)
      where
        numbered : Work
        numbered = with_manager (tm.restarted tid peer) work

        noticed : (part : Participant) (o : Option Outcome) → Leaves t numbered (elim o [ None ↦ inquire peer new tid part (find_gone peer old tid part numbered) | Some outcome ↦ notice_decided peer tid outcome part numbered ])
        noticed part None = leaves_on t numbered (find_gone peer old tid part numbered) (inquire peer new tid part (find_gone peer old tid part numbered)) (gone_leaves part numbered) (inquire_leaves part (find_gone peer old tid part numbered))
        noticed part (Some outcome) = decided_leaves outcome part numbered

        by : (o : Option Participant) → Leaves t work (elim o [ None ↦ work | Some part ↦ notice_part peer old new tid part numbered ])
        by None = leaves_itself t work
        by (Some part) = leaves_on t work numbered (notice_part peer old new tid part numbered) (part_leaves t tid (participant.restarted peer) work apart) (noticed part part.outcome)

  -- ---- kinds

  pub notice_kinds : (work : Work) (tid : Tid) → KeepsKinds work (notice_tid peer old new work tid)
  notice_kinds work tid = by (part_of tid work)
    where
      gone : (part : Participant) (b : Bool) (some : Work) → KeepsKinds some (if b then block tid (causes.Gone peer old) some else some)
      gone part true some has = has
      gone part false some has = has

      asks : (b : Bool) (some : Work) → KeepsKinds some (if b then send tid.home (messages.Inquire tid) some else some)
      asks true some has = send_kinds tid.home (messages.Inquire tid) some has
      asks false some has = has

      decided : (outcome : Outcome) (part : Participant) (h a b : Bool) (some : Work) → KeepsKinds some (if h then (if a then send peer (messages.Tell tid outcome) some else some) else if b then send peer (messages.Told tid (listed (named_by tid.home part))) some else some)
      decided outcome part true true b some has = send_kinds peer (messages.Tell tid outcome) some has
      decided outcome part true false b some has = has
      decided outcome part false a true some has = send_kinds peer (messages.Told tid (listed (named_by tid.home part))) some has
      decided outcome part false a false some has = has

      noticed : (part : Participant) (o : Option Outcome) (some : Work) → KeepsKinds some (elim o [ None ↦ inquire peer new tid part (find_gone peer old tid part some) | Some outcome ↦ notice_decided peer tid outcome part some ])
      noticed part None some has = asks (not part.engage.home && is_orphaned_by peer new tid part) (find_gone peer old tid part some) (gone part (is_owed_by peer part) some has)
      noticed part (Some outcome) some has = decided outcome part part.engage.home (is_told_again peer part) (is_abort part.outcome && same_node tid.home peer) some has

      by : (o : Option Participant) → KeepsKinds work (elim o [ None ↦ work | Some part ↦ notice_part peer old new tid part (with_manager (tm.restarted tid peer) work) ])
      by None has = has
      by (Some part) has = noticed part part.outcome (with_manager (tm.restarted tid peer) work) has

  -- ---- its own

  module _ (tid : Tid) (part : Participant) where
    restarted_carries : (work : Work) → Carries tid work (with_manager (tm.restarted tid peer) work)
    restarted_carries work p known = record {
      next = participant.restarted peer p;
      known = lookup_changed (is_at (tid_cmp tid)) (participant.restarted peer) work.node.manager.known p known;
      outcome = refl;
      superior = λ m has. has;
      unprepared = λ off. (off, refl);
    }

    pub undecided_carries : (work : Work) → Carries tid work (inquire peer new tid part (find_gone peer old tid part (with_manager (tm.restarted tid peer) work)))
    undecided_carries work =
        let numbered : Work = with_manager (tm.restarted tid peer) work in
        let gone : Work = find_gone peer old tid part numbered in
        carries_on tid work numbered (inquire peer new tid part gone) (restarted_carries work)
        (carries_on tid numbered gone (inquire peer new tid part gone) (blocks (is_owed_by peer part) numbered) (asks (not part.engage.home && is_orphaned_by peer new tid part) gone))
      where
        blocks : (b : Bool) (some : Work) → Carries tid some (if b then block tid (causes.Gone peer old) some else some)
        blocks true some p known = record {
          next = participant.add_cause (causes.Gone peer old) (participant.refused p);
          known = lookup_changed (is_at (tid_cmp tid)) (participant.add_cause (causes.Gone peer old)) (tm.refused tid some.node.manager).known (participant.refused p) (lookup_changed (is_at (tid_cmp tid)) participant.refused some.node.manager.known p known);
          outcome = refl;
          superior = λ m has. has;
          unprepared = λ off. (off, refl);
        }
        blocks false some p known = carries_itself tid some p known

        asks : (b : Bool) (some : Work) → Carries tid some (if b then send tid.home (messages.Inquire tid) some else some)
        asks true some = carries_send tid tid.home (messages.Inquire tid) some
        asks false some = carries_itself tid some

    restarted_outcomes : (work : Work) → KeepOutcomes tid work (with_manager (tm.restarted tid peer) work)
    restarted_outcomes work p known = record { next = participant.restarted peer p; known = lookup_changed (is_at (tid_cmp tid)) (participant.restarted peer) work.node.manager.known p known; outcome = refl; superior = λ m has. has }

    pub decided_outcomes : (outcome : Outcome) (work : Work) → KeepOutcomes tid work (notice_decided peer tid outcome part (with_manager (tm.restarted tid peer) work))
    decided_outcomes outcome work =
        let numbered : Work = with_manager (tm.restarted tid peer) work in
        outcome_on tid work numbered (notice_decided peer tid outcome part numbered) (restarted_outcomes work) (by part.engage.home (is_told_again peer part) (is_abort part.outcome && same_node tid.home peer) numbered)
      where
        by : (h a b : Bool) (some : Work) → KeepOutcomes tid some (if h then (if a then send peer (messages.Tell tid outcome) some else some) else if b then send peer (messages.Told tid (listed (named_by tid.home part))) some else some)
        by true true b some = outcome_sent tid peer (messages.Tell tid outcome) some
        by true false b some = outcome_itself tid some
        by false a true some = outcome_sent tid peer (messages.Told tid (listed (named_by tid.home part))) some
        by false a false some = outcome_itself tid some
