-- What a node owes of what is undecided, as it looks at what a restart of another concerns, it owed before the step.
use Rattle.qs_world_runs.proofs.Words.{◌≡◌, ℕ, ◌||◌, ◌&&◌, Bool, true, false, not, List, [], ◌∷◌, ◌++◌, fold, Option, Some, None, refl, sym, ap, subst, ◌∙◌, if◌then◌else◌, same_tid, NodeNo, ServerNo, Tid, is_covered, no_peer, peer_of, listed, same_node, Message, Record, block, is_other, log_if, send, send_next, tid_of, end_member, end_members, give_notices, learn_member, due_endings, learners_at, begin_incarnation, find_gone, inquire, is_orphaned_by, known_tids, name_again, notice_decided}
use Rattle.qs_world_runs.proofs.Words.{notice_part, notice_tid, resume_home, resume_part, resume_tid, tell_again, Work, with_manager, with_node, record_learnt, is_told_again, named_by, is_owed_by, Manager, Participant, same_is, index_alike, part_changed, part_unknown, same_Some}
use Rattle.qs_base.specs.declared.identifiers.Outcome.{Outcome}
use Rattle.qs_base.specs.declared.identifiers.Outcome.TheVariants as outcomes
use Rattle.qs_ops.specs.declared.answer.Cause.TheVariants as causes
use Rattle.qs_packet.specs.declared.message.Message.TheVariants as messages
use Rattle.qs_node_step.specs.State.{part_of}
use Rattle.qs_tm.specs.Manager as tm
use Rattle.qs_tm.specs.Outcomes as outcome_rules
use Rattle.qs_tm.specs.Outcomes.{is_abort}
use Rattle.qs_tm.specs.Participant as participant
use Rattle.qs_tm.specs.Participant.{waits_for}
use Rattle.qs_world_refine.proofs.Frames.{part_apart}

module _ (peer : NodeNo) where
  -- it knows the transaction, has not decided it, and the peer owes something of it
  pub record Owing (manager : Manager) (t : Tid) : Type 0 where
    pub part : Participant
    pub known : tm.part_of t manager ≡ Some part
    pub undecided : part.outcome ≡ None
    pub owed : is_owed_by peer part ≡ true

  -- what is owed after was owed before
  abbrev pub Back : Work → Work → Type 0
  Back work new = (t : Tid) → Owing new.node.manager t → Owing work.node.manager t

  back_each : {A : Type 0} (f : Work → A → Work) → ((work : Work) (a : A) → Back work (f work a)) → (xs : List A) (work : Work) → Back work (fold f work xs)
  back_each f one [] work t h = h
  back_each f one (x ∷ xs) work t h = one work x t (back_each f one xs (f work x) t h)

  -- ---- a participant changes

  record LeavesOwed (f : Participant → Participant) : Type 0 where
    outcome : (p : Participant) → (f p).outcome ≡ p.outcome
    owed : (p : Participant) → is_owed_by peer (f p) ≡ is_owed_by peer p

  back_part : (t tid : Tid) (f : Participant → Participant) → LeavesOwed f → (manager : Manager) → Owing (tm.with_part tid f manager) t → Owing manager t
  back_part t tid f leaves manager h = by (same_tid t tid) refl
    where
      core : (u : Tid) → t ≡ u → Owing (tm.with_part u f manager) t → Owing manager t
      core u same h = subst (λ (x : Tid). Owing manager x) (sym same) (own (tm.part_of u manager) refl (subst (λ (x : Tid). Owing (tm.with_part u f manager) x) same h))
        where
          own : (o : Option Participant) → tm.part_of u manager ≡ o → Owing (tm.with_part u f manager) u → Owing manager u
          own None none h = absurd (let now = part_unknown u f manager none in let known = h.known in cc (now, known))
          own (Some p) some h =
              let same_part : f p ≡ h.part = same_Some (f p) h.part (sym (part_changed u f manager p some) ∙ h.known) in
              record {
                part = p;
                known = some;
                undecided = sym (leaves.outcome p) ∙ (ap (λ (x : Participant). x.outcome) same_part ∙ h.undecided);
                owed = sym (leaves.owed p) ∙ (ap (is_owed_by peer) same_part ∙ h.owed);
              }

      by : (b : Bool) → same_tid t tid ≡ b → Owing manager t
      by true same = core tid (same_is t tid same) h
      by false far = record { part = h.part; known = sym (part_apart t tid f manager far) ∙ h.known; undecided = h.undecided; owed = h.owed }

  -- ---- what is kept of it may change

  leaves_settled : (server : ServerNo) → LeavesOwed (outcome_rules.settled server)
  leaves_settled server = record { outcome = λ p. refl; owed = λ p. refl }

  leaves_logged : (rec : Record) → LeavesOwed (outcome_rules.logged rec)
  leaves_logged rec = record { outcome = λ p. refl; owed = λ p. refl }

  leaves_restarted : LeavesOwed (participant.restarted peer)
  leaves_restarted = record {
    outcome = λ p. refl;
    owed = λ p. ap (λ (b : Bool). not b || waits_for peer p) (index_alike is_covered p.engage.peers peer.0 peer.0 (record (peer_of p.engage peer) { last = 0 }) no_peer refl);
  }

  -- ---- a restart is noticed

  back_block : (old : ℕ) (tid : Tid) (work : Work) → Back work (block tid (causes.Gone peer old) work)
  back_block old tid work t h = back_part t tid participant.refused (record { outcome = λ p. refl; owed = λ p. refl }) work.node.manager
      (back_part t tid (participant.add_cause (causes.Gone peer old)) (record { outcome = λ p. refl; owed = λ p. refl }) (tm.refused tid work.node.manager) h)

  back_send : (to : NodeNo) (message : Message) (work : Work) → Back work (send to message work)
  back_send to message work t = by (is_other work.node.setting to)
    where
      by : (b : Bool) → Owing (if b then record work { out = record work.out { messages = work.out.messages ++ record { to = to; message = message } ∷ [] } } else work).node.manager t → Owing work.node.manager t
      by true h = h
      by false h = h

  back_if : (b : Bool) (work some : Work) → Back work some → Back work (if b then some else work)
  back_if true work some back = back
  back_if false work some back = λ t h. h

  pub back_notice : (old new : ℕ) (work : Work) (tid : Tid) → Back work (notice_tid peer old new work tid)
  back_notice old new work tid = by (part_of tid work)
    where
      numbered : Work
      numbered = with_manager (tm.restarted tid peer) work

      back_decided : (outcome : Outcome) (part : Participant) (w : Work) → Back w (notice_decided peer tid outcome part w)
      back_decided outcome part w = by part.engage.home
        where
          by : (b : Bool) → Back w (if b then tell_again peer tid outcome part w else name_again peer tid part w)
          by true = back_if (is_told_again peer part) w (send peer (messages.Tell tid outcome) w) (back_send peer (messages.Tell tid outcome) w)
          by false = back_if (is_abort part.outcome && same_node tid.home peer) w (send peer (messages.Told tid (listed (named_by tid.home part))) w) (back_send peer (messages.Told tid (listed (named_by tid.home part))) w)

      noticed : (part : Participant) (o : Option Outcome) → Back numbered (elim o [ None ↦ inquire peer new tid part (find_gone peer old tid part numbered) | Some outcome ↦ notice_decided peer tid outcome part numbered ])
      noticed part None = λ t h. back_if (is_owed_by peer part) numbered (block tid (causes.Gone peer old) numbered) (back_block old tid numbered) t
          (back_if (not part.engage.home && is_orphaned_by peer new tid part) (find_gone peer old tid part numbered) (send tid.home (messages.Inquire tid) (find_gone peer old tid part numbered)) (back_send tid.home (messages.Inquire tid) (find_gone peer old tid part numbered)) t h)
      noticed part (Some outcome) = back_decided outcome part numbered

      by : (o : Option Participant) → Back work (elim o [ None ↦ work | Some part ↦ notice_part peer old new tid part (with_manager (tm.restarted tid peer) work) ])
      by None = λ t h. h
      by (Some part) = λ t h. back_part t tid (participant.restarted peer) leaves_restarted work.node.manager (noticed part part.outcome t h)

  -- ---- an incarnation begins

  back_learn : (tid : Tid) (outcome : Outcome) (work : Work) (server : ServerNo) → Back work (learn_member tid outcome work server)
  back_learn tid outcome work server t h = back_part t tid (outcome_rules.settled server) (leaves_settled server) work.node.manager h

  back_end : (tid : Tid) (work : Work) (server : ServerNo) → Back work (end_member tid work server)
  back_end tid work server t h = back_part t tid (outcome_rules.settled server) (leaves_settled server) work.node.manager h

  back_give : (tid : Tid) (outcome : Outcome) (work : Work) → Back work (give_notices tid outcome work)
  back_give tid outcomes.Commit work = back_each (learn_member tid outcomes.Commit) (back_learn tid outcomes.Commit) (learners_at tid work) work
  back_give tid outcomes.Abort work = λ t h. back_each (end_member tid) (back_end tid) (due_endings tid work) work t
      (back_each (learn_member tid outcomes.Abort) (back_learn tid outcomes.Abort) (learners_at tid (end_members tid work)) (end_members tid work) t h)

  back_log : (o : Option Record) (work : Work) → Back work (log_if o work)
  back_log None work t h = h
  back_log (Some rec) work t h = back_part t (tid_of rec) (outcome_rules.logged rec) (leaves_logged rec) work.node.manager h

  back_home : (tid : Tid) (part : Participant) (outcome : Outcome) (work : Work) → Back work (resume_home tid part outcome work)
  back_home tid part outcomes.Commit work = back_each (send_next (messages.Tell tid outcomes.Commit)) (λ w to. back_send to (messages.Tell tid outcomes.Commit) w) (listed part.tell) work
  back_home tid part outcomes.Abort work = λ t h. back_give tid outcomes.Abort work t (back_log (record_learnt tid outcomes.Abort part) (give_notices tid outcomes.Abort work) t h)

  back_resume : (work : Work) (tid : Tid) → Back work (resume_tid work tid)
  back_resume work tid = by (part_of tid work)
    where
      resumed : (part : Participant) (o : Option Outcome) → Back work (elim o [ None ↦ send tid.home (messages.Inquire tid) work | Some outcome ↦ resume_home tid part outcome work ])
      resumed part None = back_send tid.home (messages.Inquire tid) work
      resumed part (Some outcome) = back_home tid part outcome work

      by : (o : Option Participant) → Back work (elim o [ None ↦ work | Some part ↦ resume_part tid part work ])
      by None = λ t h. h
      by (Some part) = resumed part part.outcome

  pub back_begin : (work : Work) → Back work (begin_incarnation work)
  back_begin work = by work.node.is_first
    where
      begun : Work
      begun = with_node (λ node. record node { is_first = false }) work

      by : (b : Bool) → Back work (if b then fold resume_tid begun (known_tids work) else work)
      by true t h = back_each resume_tid back_resume (known_tids work) begun t h
      by false t h = h
