-- A node stays sound where another one restarted, and in its own first step.
use Rattle.qs_world_refine.proofs.Words.{◌≡◌, ℕ, ◌<◌, ◌==◌, ◌&&◌, not, nat_lt, nat_le, Bool, true, false, List, [], ◌∷◌, Option, Some, None, is_some, refl, sym, subst, ◌∙◌, fold, if◌then◌else◌, list_all, eqb-true, length-set, NodeNo, Tid, peer_of, with_last, same_node, listed, PeerPart, named_by, is_abort, is_told_again, is_owed_by, is_undecided, Participant, block, send, log_if, give_notices, find_gone, is_orphaned_by, inquire, name_again, notice_decided, notice_part, notice_tid, resume_home}
use Rattle.qs_world_refine.proofs.Words.{resume_part, resume_tid, known_tids, NodeValue, Work, part_of, with_node, with_manager, with_queues, node_no, is_sound, where_so, is_sound_peer, StaysSound}
use Rattle.qs_base.specs.declared.identifiers.Outcome.{Outcome}
use Rattle.qs_base.specs.declared.identifiers.Outcome.TheVariants as outcomes
use Rattle.qs_engage.specs.Nodes.{all_nodes, has_node}
use Rattle.qs_ipc.specs.Ipc as ipc
use Rattle.qs_ops.specs.declared.answer.Cause.TheVariants as causes
use Rattle.qs_packet.specs.declared.message.Message.TheVariants as messages
use Rattle.qs_record.specs.declared.record.Record.TheVariants as records
use Rattle.qs_tm.specs.Manager as tm
use Rattle.qs_tm.specs.Outcomes as outcome_rules
use Rattle.qs_tm.specs.Participant as participant
use Rattle.qs_node_step.specs.Restarts.{tell_again}
use Rattle.qs_world_refine.specs.SoundLaws.{PeerRestartedSound, BeginIncarnationSound}
use Rattle.qs_world_refine.proofs.Arrays.{peer_put}
use Rattle.qs_world_refine.proofs.SoundBegin.{all_implied}
use Rattle.qs_world_refine.proofs.SoundRules.{send_node, sends_node, block_sound}
use Rattle.qs_world_refine.proofs.SoundCount.{peers_length}
use Rattle.qs_world_refine.proofs.SoundHolds.{Holds, holds_step, part_step, told_as}
use Rattle.qs_world_refine.proofs.SoundHome.{cleared}
use Rattle.qs_world_refine.proofs.SoundNotices.{give_notices_hold}
use Rattle.qs_world_refine.proofs.SoundQueued.{marked_sound}
use Rattle.qs_world_refine.proofs.SoundViews.{PartSound, is_apart}

-- ---- numbers begin anew

module _ (from : NodeNo) (number : ℕ) (within : from.0 < 16) (node : NodeValue) (tid : Tid) (part : Participant) (s : PartSound node tid part) where
  abbrev last : PeerPart
  last = record (peer_of part.engage from) { last = number }

  abbrev numbered : Participant
  numbered = record part { engage = with_last from number part.engage }

  -- with the entry of a peer
  abbrev entry_sound : NodeNo → PeerPart → Bool
  entry_sound q entry =
      nat_le entry.covered entry.sent
      && (where_so (nat_lt 0 entry.sent) (part.involved && (nat_lt q.0 node.setting.nodes && not (same_node q node.setting.node)))
      && where_so (has_node part.told q) (nat_lt q.0 node.setting.nodes))

  peer_same : (q : NodeNo) → is_sound_peer node part q ≡ true → is_sound_peer node numbered q ≡ true
  peer_same q is = by (q.0 == from.0) refl
    where
      now : peer_of (with_last from number part.engage) q ≡ (if q.0 == from.0 then last else peer_of part.engage q)
      now = peer_put from.0 q.0 last part.engage (rw (peers_length part s.whole) within)

      by : (b : Bool) → (q.0 == from.0) ≡ b → is_sound_peer node numbered q ≡ true
      by true same = subst (λ (entry : PeerPart). entry_sound q entry ≡ true) (sym (now ∙ picked same)) (subst (λ (k : ℕ). entry_sound q (peer_of part.engage (node_no k)) ≡ true) (eqb-true q.0 from.0 same) is)
        where
          picked : (q.0 == from.0) ≡ true → (if q.0 == from.0 then last else peer_of part.engage q) ≡ last
          picked is = rw is refl
      by false apart = subst (λ (entry : PeerPart). entry_sound q entry ≡ true) (sym (now ∙ left apart)) is
        where
          left : (q.0 == from.0) ≡ false → (if q.0 == from.0 then last else peer_of part.engage q) ≡ peer_of part.engage q
          left is = rw is refl

  numbered_sound : PartSound node tid numbered
  numbered_sound = record {
    whole = rw (length-set part.engage.peers from.0 last) s.whole;
    homed = s.homed;
    peers = all_implied (is_sound_peer node part) (is_sound_peer node numbered) peer_same all_nodes s.peers;
    members = s.members;
    superior = s.superior;
    outside = s.outside;
    idle = s.idle;
    began = s.began;
    logged = s.logged;
    silent = s.silent;
  }

-- ---- another node restarted

module _ (peer : NodeNo) (old new : ℕ) (within : peer.0 < 16) where
  inquire_sound : (tid : Tid) (part : Participant) (work : Work) → StaysSound work (inquire peer new tid part work)
  inquire_sound tid part work sound = by (not part.engage.home && is_orphaned_by peer new tid part)
    where
      by : (b : Bool) → is_sound (if b then send tid.home (messages.Inquire tid) work else work).node ≡ true
      by true = rw (send_node tid.home (messages.Inquire tid) work) sound
      by false = sound

  gone_sound : (tid : Tid) (part : Participant) (work : Work) → StaysSound work (find_gone peer old tid part work)
  gone_sound tid part work sound = by (is_owed_by peer part)
    where
      by : (b : Bool) → is_sound (if b then block tid (causes.Gone peer old) work else work).node ≡ true
      by true = block_sound tid (causes.Gone peer old) work sound
      by false = sound

  decided_sound : (tid : Tid) (outcome : Outcome) (part : Participant) (work : Work) → StaysSound work (notice_decided peer tid outcome part work)
  decided_sound tid outcome part work sound = by part.engage.home
    where
      again : (b : Bool) → is_sound (if b then send peer (messages.Tell tid outcome) work else work).node ≡ true
      again true = rw (send_node peer (messages.Tell tid outcome) work) sound
      again false = sound

      named : (b : Bool) → is_sound (if b then send peer (messages.Told tid (listed (named_by tid.home part))) work else work).node ≡ true
      named true = rw (send_node peer (messages.Told tid (listed (named_by tid.home part))) work) sound
      named false = sound

      by : (h : Bool) → is_sound (if h then tell_again peer tid outcome part work else name_again peer tid part work).node ≡ true
      by true = again (is_told_again peer part)
      by false = named (is_abort part.outcome && same_node tid.home peer)

  pub notice_sound : (work : Work) (tid : Tid) → StaysSound work (notice_tid peer old new work tid)
  notice_sound work tid sound = by (part_of tid work) sound
    where
      numbered : Work
      numbered = with_manager (tm.restarted tid peer) work

      anew : is_sound numbered.node ≡ true
      anew = part_step tid (participant.restarted peer) work.node (λ part s. (refl, numbered_sound peer 0 within work.node tid part s)) sound

      noticed : (part : Participant) (o : Option Outcome) → StaysSound numbered (elim o [ None ↦ inquire peer new tid part (find_gone peer old tid part numbered) | Some outcome ↦ notice_decided peer tid outcome part numbered ])
      noticed part None so = inquire_sound tid part (find_gone peer old tid part numbered) (gone_sound tid part numbered so)
      noticed part (Some outcome) so = decided_sound tid outcome part numbered so

      by : (o : Option Participant) → StaysSound work (elim o [ None ↦ work | Some part ↦ notice_part peer old new tid part numbered ])
      by None so = so
      by (Some part) so = noticed part part.outcome anew

  notices_sound : (tids : List Tid) (work : Work) → is_sound work.node ≡ true → is_sound (fold (notice_tid peer old new) work tids).node ≡ true
  notices_sound [] work sound = sound
  notices_sound (tid ∷ tids) work sound = notices_sound tids (notice_tid peer old new work tid) (notice_sound work tid sound)

pub peer_restarted_sound : PeerRestartedSound
peer_restarted_sound peer old new work within sound =
    notices_sound peer old new within (tm.concerned peer work.node.manager) (with_queues (ipc.mark_queues peer) work) (marked_sound peer work.node sound)

-- ---- the first step of an incarnation

abbrev is_aborted : Participant → Bool
is_aborted part = is_abort part.outcome

aborted_busy : (part : Participant) → is_aborted part ≡ true → is_apart part ≡ false
aborted_busy part is = by part.outcome is part.engage.home (is_some part.engage.superior)
  where
    by : (o : Option Outcome) → is_abort o ≡ true → (h t : Bool) → (not h && (Rattle.std.specs.Prelude.is_none o && not (if h then Rattle.std.specs.Prelude.is_none o else t))) ≡ false
    by None so h t = absurd (cc (so))
    by (Some outcomes.Commit) so h t = absurd (cc (so))
    by (Some outcomes.Abort) so true t = refl
    by (Some outcomes.Abort) so false t = refl

resume_part_sound : (tid : Tid) (part : Participant) (work : Work) → part_of tid work ≡ Some part → StaysSound work (resume_part tid part work)
resume_part_sound tid part work known sound = by part.outcome refl sound
  where
    recorded : (w : Work) → Holds is_aborted tid w.node → (b : Bool) → is_sound (log_if (if b then Some (records.Aborted tid) else None) w).node ≡ true
    recorded w holds false = holds.0
    recorded w holds true = (holds_step is_aborted is_aborted tid (outcome_rules.logged (records.Aborted tid)) w.node (λ p is s. (refl, (is, cleared w.node tid p s))) holds).0

    resumed : (o : Outcome) → part.outcome ≡ Some o → is_sound (resume_home tid part o work).node ≡ true
    resumed outcomes.Commit is = rw (sends_node (listed part.tell) (messages.Tell tid outcomes.Commit) work) sound
    resumed outcomes.Abort is = recorded (give_notices tid outcomes.Abort work)
        (give_notices_hold is_aborted tid aborted_busy (λ server p so. so) outcomes.Abort work (sound, told_as is_aborted tid work.node.manager part known (rw is refl))) part.log.prepared

    by : (o : Option Outcome) → part.outcome ≡ o → StaysSound work (elim o [ None ↦ send tid.home (messages.Inquire tid) work | Some outcome ↦ resume_home tid part outcome work ])
    by None is so = rw (send_node tid.home (messages.Inquire tid) work) sound
    by (Some outcome) is so = resumed outcome is

pub resume_tid_sound : (work : Work) (tid : Tid) → StaysSound work (resume_tid work tid)
resume_tid_sound work tid = by (part_of tid work) refl
  where
    by : (o : Option Participant) → part_of tid work ≡ o → StaysSound work (elim o [ None ↦ work | Some part ↦ resume_part tid part work ])
    by None none = λ sound. sound
    by (Some part) known = resume_part_sound tid part work known

resumes_sound : (tids : List Tid) (work : Work) → is_sound work.node ≡ true → is_sound (fold resume_tid work tids).node ≡ true
resumes_sound [] work sound = sound
resumes_sound (tid ∷ tids) work sound = resumes_sound tids (resume_tid work tid) (resume_tid_sound work tid sound)

pub begin_incarnation_sound : BeginIncarnationSound
begin_incarnation_sound work sound = by work.node.is_first
  where
    by : (b : Bool) → is_sound (if b then fold resume_tid (with_node (λ node. record node { is_first = false }) work) (known_tids work) else work).node ≡ true
    by true = resumes_sound (known_tids work) (with_node (λ node. record node { is_first = false }) work) sound
    by false = sound
