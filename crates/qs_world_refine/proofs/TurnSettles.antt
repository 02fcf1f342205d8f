-- What a node does of itself at the end of a step, and as another one or itself restarted, leaves the records of a transaction in turn.
use Rattle.qs_world_refine.proofs.Words.{◌≡◌, ℕ, Bool, true, false, List, [], ◌∷◌, fold, Option, Some, None, is_none, refl, sym, ap, subst, ◌∙◌, if◌then◌else◌, same_tid, NodeNo, ServerNo, Tid, release_of, listed, same_node, Nodes, after_vote, changes_in, vote_of, Cause, Note, Vote, Record, server_at, audit_no, files_no, is_undecided, is_forgotten, Participant, member_here, tid_of, decide, end_members, find_gone, inquire, notice_decided, notice_part, notice_tid, peer_restarted, resume_home}
use Rattle.qs_world_refine.proofs.Words.{resume_part, resume_tid, known_tids, begin_incarnation, is_pass_due, pass_rule, may_answer, is_quiet, say_yes, ready_rule, refusal_goes_to, send_refusal, refuse_rule, forget_rule, try, settle_tid, due_tids, settle, Work, here, part_of, doings_of, with_node, with_manager, with_queues, with_doings, change_server, record_learnt, end_record, owes_note, issue_note, note_text, change_count, served_count, enter_vote, vote_with, vote_frame, vote_next, due_votes}
use Rattle.qs_world_refine.proofs.Words.{vote_pass, is_sound, same_flag, none_is}
use Rattle.qs_base.specs.declared.identifiers.Outcome.{Outcome}
use Rattle.qs_base.specs.declared.identifiers.Outcome.TheVariants as outcomes
use Rattle.qs_ipc.specs.Ipc as ipc
use Rattle.qs_ops.specs.declared.answer.Cause.TheVariants as causes
use Rattle.qs_ops.specs.declared.vote.Vote.TheVariants as votes
use Rattle.qs_packet.specs.declared.message.Message.TheVariants as messages
use Rattle.qs_record.specs.declared.record.Record.TheVariants as records
use Rattle.qs_tm.specs.Manager as tm
use Rattle.qs_tm.specs.Participant as participant
use Rattle.qs_world_refine.proofs.TurnOn.{Case, became, open_apart, fate_at, TurnsOn, SameTurn, on_itself, on_then, same_on, same_then, fold_on, if_on, rest_on, enter_same, send_on, sends_on, queues_on, server_same, part_on, part_same, rest_same, open_loose}
use Rattle.qs_world_refine.proofs.TurnRecords.{MayEnter, log_on_turned, log_if_on, open_fate, fate_known}
use Rattle.qs_world_refine.proofs.TurnOutcomes.{end_members_same, notices_same, decide_on, decide_commit_on}
use Rattle.qs_world_refine.proofs.TurnTold.{forget_on}
use Rattle.qs_world_refine.proofs.TurnRules.{issue_on, block_on, undecided_on}
use Rattle.qs_world_refine.proofs.SoundHolds.{Holds, known_sound, is_open, open_held, told_part}
use Rattle.qs_world_refine.proofs.SoundKnown.{same_is}
use Rattle.qs_world_refine.proofs.SoundNotices.{end_members_hold}
use Rattle.qs_world_refine.proofs.SoundParts.{and_both}
use Rattle.qs_world_refine.proofs.SoundSettle.{ready_rule_sound, refuse_rule_sound, undecided_known, settle_tid_sound}
use Rattle.qs_world_refine.proofs.SoundViews.{PartSound, seen}
use Rattle.qs_world_refine.proofs.SoundVotes.{vote_next_holds, pass_open, pass_rule_sound}

-- ---- votes

enter_vote_same : {k : Case} (tid : Tid) (server : ServerNo) (ballot : Vote) (work : Work) → SameTurn k work (enter_vote tid server ballot work)
enter_vote_same {k} tid server ballot work =
    same_then (server_same server (λ value. after_vote value tid ballot) work)
    (same_then (part_same tid (participant.voted (member_here work server) ballot (served_count tid server work)) (λ part. refl) (change_server server (λ value. after_vote value tid ballot) work))
    (same_then (rest_same _ (with_doings tid (λ doings. record doings { voted = true }) _) refl refl refl refl) (enter_same _ _)))

-- what is held open is undecided
held_open : (k : Case) (tid : Tid) (work : Work) → Holds is_open tid work.node → same_tid k.tid tid ≡ true → (acks : Nodes) × (fate_at k.tid work.node ≡ became None acks)
held_open k tid work holds same = by (part_of tid work) refl
  where
    by : (o : Option Participant) → part_of tid work ≡ o → (acks : Nodes) × (fate_at k.tid work.node ≡ became None acks)
    by (Some part) known = (part.acknowledged, open_fate k tid work part known (none_is part.outcome (and_both (is_undecided part) _ (told_part is_open tid work.node.manager part known holds.1)).0) same)
    by None none = absurd (
        let never : tm.told_of tid false is_open work.node.manager ≡ false = ap (λ (o : Option Participant). elim o [ None ↦ false | Some p ↦ is_open p ]) none in
        let is : tm.told_of tid false is_open work.node.manager ≡ true = holds.1 in cc (never, is))

vote_with_on : {k : Case} (tid : Tid) (server : ServerNo) (ballot : Vote) (work : Work) → Holds is_open tid work.node → TurnsOn k work (vote_with tid server ballot work)
vote_with_on {k} tid server (votes.Abort reason) work holds = same_on (enter_vote_same tid server (votes.Abort reason) work)
vote_with_on {k} tid server votes.ReadOnly work holds = same_on (enter_vote_same tid server votes.ReadOnly work)
vote_with_on {k} tid server votes.Volatile work holds = same_on (enter_vote_same tid server votes.Volatile work)
vote_with_on {k} tid server votes.Recoverable work holds =
    on_then (same_on voted)
    (log_on_turned (records.Prepare tid server (served_count tid server entered) (changes_in (server_at entered.node.servers server) tid)) prepared
    (λ is same. open_loose k prepared.node.setting.node (fate_at k.tid prepared.node) prepared.out.records (held_open k tid work holds same).0 (voted.fate ∙ (held_open k tid work holds same).1) is))
  where
    entered : Work
    entered = enter_vote tid server votes.Recoverable work

    prepared : Work
    prepared = with_doings tid (λ doings. record doings { prepared = true }) entered

    voted : SameTurn k work prepared
    voted = same_then (enter_vote_same tid server votes.Recoverable work) (rest_same entered prepared refl refl refl refl)

vote_next_on : {k : Case} (tid : Tid) (work : Work) (server : ServerNo) → Holds is_open tid work.node → TurnsOn k work (vote_next tid work server)
vote_next_on {k} tid work server holds = if_on (owes_note tid server work) (note work.node.setting.audit)
    (vote_with_on tid server (vote_of (server_at work.node.servers server) tid work.room (vote_frame work)) work holds)
  where
    note : (audit : Option NodeNo) → TurnsOn k work (issue_note tid audit work)
    note None = on_itself work
    note (Some node) = issue_on tid files_no (record { node = node; server = audit_no }) (Note (note_text tid (here work) (change_count tid work.node))) (change_count tid work.node) work

vote_pass_on : {k : Case} (tid : Tid) (work : Work) → Holds is_open tid work.node → TurnsOn k work (vote_pass tid work)
vote_pass_on {k} tid work holds = on_then (same_on (end_members_same tid work)) (each (due_votes tid work) (end_members tid work) (end_members_hold is_open tid open_held (λ server part is. is) work holds))
  where
    each : (servers : List ServerNo) (w : Work) → Holds is_open tid w.node → TurnsOn k w (fold (vote_next tid) w servers)
    each [] w so = on_itself w
    each (server ∷ servers) w so = on_then (vote_next_on tid w server so) (each servers (vote_next tid w server) (vote_next_holds tid w server so))

-- ---- settling

module _ {k : Case} (tid : Tid) (part : Participant) (work : Work) (known : part_of tid work ≡ Some part) where
  pub pass_on : is_undecided part ≡ true → is_sound work.node ≡ true → TurnsOn k work (pass_rule tid part work)
  pass_on open_now sound = by (is_pass_due tid part work) refl
    where
      by : (b : Bool) → is_pass_due tid part work ≡ b → TurnsOn k work (if b then vote_pass tid work else work)
      by true is = vote_pass_on tid work (pass_open tid part work known open_now sound is)
      by false is = on_itself work

  pub ready_on : part.outcome ≡ None → is_sound work.node ≡ true → TurnsOn k work (ready_rule tid part work)
  ready_on open_now sound = if_on (may_answer tid part work) (at_home part.engage.home refl) (on_itself work)
    where
      s : PartSound work.node tid part
      s = known_sound tid work.node part known sound

      is_home : part.engage.home ≡ true → same_node tid.home (here work) ≡ true
      is_home home = flag part.engage.home (same_node tid.home (here work)) home s.homed
        where
          flag : (a b : Bool) → a ≡ true → same_flag a b ≡ true → b ≡ true
          flag true b is so = so
          flag false b is so = absurd (cc (is))

      only : (other : Participant) → part_of tid work ≡ Some other → other.outcome ≡ None
      only other its = let one : part ≡ other = (let both : Some part ≡ Some other = sym known ∙ its in cc (both)) in subst (λ (p : Participant). p.outcome ≡ None) one open_now

      answers : (o : Option (NodeNo × ℕ)) → TurnsOn k work (elim o [ None ↦ work | Some superior ↦ say_yes tid part superior work ])
      answers None = on_itself work
      answers (Some superior) = on_then (part_on tid participant.released (λ part. refl) work) (send_on _ _ (with_manager (tm.released tid) work))

      at_home : (b : Bool) → part.engage.home ≡ b → TurnsOn k work (if b then (if is_quiet (doings_of tid work) then Rattle.qs_node_step.specs.Deciding.decide_commit tid work else work) else Rattle.qs_node_step.specs.Settling.answer_superior tid part work)
      at_home true home = if_on (is_quiet (doings_of tid work)) (decide_commit_on tid work (part, known) (λ same. only) (λ same. subst (λ (u : Tid). same_node u.home (here work) ≡ true) (sym (same_is k.tid tid same)) (is_home home))) (on_itself work)
      at_home false away = answers (release_of part.engage)

  pub refuse_on : part.outcome ≡ None → TurnsOn k work (refuse_rule tid part work)
  refuse_on open_now = if_on part.engage.home (first part.causes) (on_then (part_on tid participant.take_causes (λ part. refl) work) (fold_on (send_refusal tid (refusal_goes_to tid part)) (λ w cause. send_on _ _ w) part.causes (with_manager (tm.take_causes tid) work)))
    where
      only : (other : Participant) → part_of tid work ≡ Some other → other.outcome ≡ None
      only other its = let one : part ≡ other = (let both : Some part ≡ Some other = sym known ∙ its in cc (both)) in subst (λ (p : Participant). p.outcome ≡ None) one open_now

      first : (list : List Cause) → TurnsOn k work (elim list [ [] ↦ work | cause ∷ more ↦ decide tid outcomes.Abort (Some cause) work ])
      first [] = on_itself work
      first (cause ∷ more) = decide_on tid outcomes.Abort (Some cause) work (λ same. only) (λ same away commit. absurd (cc (commit))) (λ commit. absurd (cc (commit)))

  -- what is forgotten is undecided
  pub forget_rule_on : part.outcome ≡ None → is_sound work.node ≡ true → TurnsOn k work (forget_rule tid part work)
  forget_rule_on open_now sound = if_on (is_forgotten part) (forget_on tid work (seen work.node sound).ordered (λ same acks aborted. open_apart outcomes.Abort acks part.acknowledged (sym aborted ∙ open_fate k tid work part known open_now same))
      (λ same acks its. absurd (open_apart outcomes.Commit acks part.acknowledged (sym its ∙ open_fate k tid work part known open_now same)))) (on_itself work)

known_on : {k : Case} (tid : Tid) (rule : Tid → Participant → Work → Work) (work : Work) → ((part : Participant) → part_of tid work ≡ Some part → part.outcome ≡ None → TurnsOn k work (rule tid part work)) → TurnsOn k work (try tid rule work)
known_on {k} tid rule work each = undecided_on tid (rule tid) work each

settle_tid_on : {k : Case} (work : Work) (tid : Tid) → is_sound work.node ≡ true → TurnsOn k work (settle_tid work tid)
settle_tid_on {k} work tid sound =
    on_then (known_on tid pass_rule work (λ part known open_now. pass_on tid part work known (is_open_now part open_now) sound))
    (on_then (known_on tid ready_rule passed (λ part known open_now. ready_on tid part passed known open_now passed_sound))
    (on_then (known_on tid refuse_rule readied (λ part known open_now. refuse_on tid part readied known open_now))
    (known_on tid forget_rule refused (λ part known open_now. forget_rule_on tid part refused known open_now refused_sound))))
  where
    passed : Work
    passed = try tid pass_rule work

    readied : Work
    readied = try tid ready_rule passed

    refused : Work
    refused = try tid refuse_rule readied

    is_open_now : (part : Participant) → part.outcome ≡ None → is_undecided part ≡ true
    is_open_now part open_now = ap (λ (o : Option Outcome). is_none o) open_now

    passed_sound : is_sound passed.node ≡ true
    passed_sound = undecided_known tid (pass_rule tid) work (λ part known open_now. pass_rule_sound tid part work known open_now) sound

    refused_sound : is_sound refused.node ≡ true
    refused_sound =
        undecided_known tid (refuse_rule tid) readied (λ part known open_now. refuse_rule_sound tid part readied known open_now)
        (undecided_known tid (ready_rule tid) passed (λ part known open_now. ready_rule_sound tid part passed known open_now) passed_sound)

pub settle_on : {k : Case} (work : Work) → is_sound work.node ≡ true → TurnsOn k work (settle work)
settle_on {k} work = each (due_tids work) work
  where
    each : (tids : List Tid) (w : Work) → is_sound w.node ≡ true → TurnsOn k w (fold settle_tid w tids)
    each [] w sound = on_itself w
    each (tid ∷ tids) w sound = on_then (settle_tid_on w tid sound) (each tids (settle_tid w tid) (settle_tid_sound w tid sound))

-- ---- another node restarted

notice_tid_on : {k : Case} (peer : NodeNo) (old new : ℕ) (work : Work) (tid : Tid) → TurnsOn k work (notice_tid peer old new work tid)
notice_tid_on {k} peer old new work tid = by (part_of tid work)
  where
    restarted : Work
    restarted = with_manager (tm.restarted tid peer) work

    gone : (part : Participant) → TurnsOn k restarted (find_gone peer old tid part restarted)
    gone part = if_on (participant.is_owed_by peer part) (block_on tid (causes.Gone peer old) restarted) (on_itself restarted)

    asks : (part : Participant) (w : Work) → TurnsOn k w (inquire peer new tid part w)
    asks part w = if_on _ (send_on tid.home (messages.Inquire tid) w) (on_itself w)

    decided : (part : Participant) (outcome : Outcome) → TurnsOn k restarted (notice_decided peer tid outcome part restarted)
    decided part outcome = if_on part.engage.home (if_on _ (send_on peer (messages.Tell tid outcome) restarted) (on_itself restarted)) (if_on _ (send_on peer _ restarted) (on_itself restarted))

    at : (part : Participant) (o : Option Outcome) → TurnsOn k restarted (elim o [ None ↦ inquire peer new tid part (find_gone peer old tid part restarted) | Some outcome ↦ notice_decided peer tid outcome part restarted ])
    at part None = on_then (gone part) (asks part (find_gone peer old tid part restarted))
    at part (Some outcome) = decided part outcome

    by : (o : Option Participant) → TurnsOn k work (elim o [ None ↦ work | Some part ↦ notice_part peer old new tid part restarted ])
    by None = on_itself work
    by (Some part) = on_then (part_on tid (participant.restarted peer) (λ part. refl) work) (at part part.outcome)

pub peer_restarted_on : {k : Case} (peer : NodeNo) (old new : ℕ) (work : Work) → TurnsOn k work (peer_restarted peer old new work)
peer_restarted_on {k} peer old new work = on_then (queues_on (ipc.mark_queues peer) work) (fold_on (notice_tid peer old new) (notice_tid_on peer old new) (tm.concerned peer work.node.manager) (with_queues (ipc.mark_queues peer) work))

-- ---- the first step of an incarnation

resume_home_on : {k : Case} (tid : Tid) (part : Participant) (outcome : Outcome) (work : Work) → part_of tid work ≡ Some part → part.outcome ≡ Some outcome → TurnsOn k work (resume_home tid part outcome work)
resume_home_on {k} tid part outcomes.Commit work known is = sends_on (listed part.tell) (messages.Tell tid outcomes.Commit) work
resume_home_on {k} tid part outcomes.Abort work known is = on_then (same_on noted) (log_if_on (record_learnt tid outcomes.Abort part) _ (λ turned rec its same. entered rec part.log.prepared its same))
  where
    noted : SameTurn k work (Rattle.qs_node_step.specs.Deciding.give_notices tid outcomes.Abort work)
    noted = notices_same tid outcomes.Abort work

    after : Work
    after = Rattle.qs_node_step.specs.Deciding.give_notices tid outcomes.Abort work

    fate : same_tid k.tid tid ≡ true → (acks : Nodes) × (fate_at k.tid after.node ≡ became (Some outcomes.Abort) acks)
    fate same = (part.acknowledged, noted.fate ∙ (fate_known k tid work part same known ∙ ap (λ (o : Option Outcome). became o part.acknowledged) is))

    entered : (rec : Record) (b : Bool) → (if b then Some (end_record tid outcomes.Abort) else None) ≡ Some rec → same_tid k.tid (tid_of rec) ≡ true → MayEnter k rec after
    entered rec true its = let one : end_record tid outcomes.Abort ≡ rec = cc (its) in subst (λ (r : Record). same_tid k.tid (tid_of r) ≡ true → MayEnter k r after) one fate
    entered rec false its = absurd (cc (its))

resume_tid_on : {k : Case} (work : Work) (tid : Tid) → TurnsOn k work (resume_tid work tid)
resume_tid_on {k} work tid = by (part_of tid work) refl
  where
    at : (part : Participant) → part_of tid work ≡ Some part → (o : Option Outcome) → part.outcome ≡ o → TurnsOn k work (elim o [ None ↦ Rattle.qs_node_step.specs.Bringing.send tid.home (messages.Inquire tid) work | Some outcome ↦ resume_home tid part outcome work ])
    at part known None is = send_on tid.home (messages.Inquire tid) work
    at part known (Some outcome) is = resume_home_on tid part outcome work known is

    by : (o : Option Participant) → part_of tid work ≡ o → TurnsOn k work (elim o [ None ↦ work | Some part ↦ resume_part tid part work ])
    by None none = on_itself work
    by (Some part) known = at part known part.outcome refl

pub begin_incarnation_on : {k : Case} (work : Work) → TurnsOn k work (begin_incarnation work)
begin_incarnation_on {k} work = if_on work.node.is_first (on_then (rest_on work begun refl refl refl refl) (fold_on resume_tid resume_tid_on (known_tids work) begun)) (on_itself work)
  where
    begun : Work
    begun = with_node (λ node. record node { is_first = false }) work
