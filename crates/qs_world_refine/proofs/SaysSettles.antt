-- What a node does of itself at the end of a step, and as another one or itself restarted, leaves it sound over its log.
use Rattle.qs_world_refine.proofs.Words.{◌≡◌, inr, ℕ, ◌==◌, ◌&&◌, ◌||◌, not, Bool, true, false, List, [], ◌∷◌, fold, Option, Some, None, is_none, refl, sym, ap, subst, ◌∙◌, if◌then◌else◌, list_all, NodeNo, ServerNo, Tid, release_of, listed, is_no_node, same_node, after_vote, changes_in, vote_of, Cause, Note, Vote, server_at, audit_no, files_no, is_abort, is_undecided, is_forgotten, InLog, Participant, member_here, decide, decide_commit, end_members, find_gone, inquire, notice_decided, notice_part}
use Rattle.qs_world_refine.proofs.Words.{notice_tid, peer_restarted, resume_home, resume_part, resume_tid, known_tids, begin_incarnation, is_pass_due, pass_rule, may_answer, is_quiet, say_yes, ready_rule, refusal_goes_to, send_refusal, refuse_rule, forget_rule, try, settle_tid, due_tids, settle, Work, here, part_of, doings_of, with_node, with_manager, with_queues, with_doings, change_server, record_learnt, end_record, owes_note, issue_note, note_text, change_count, served_count, enter_vote}
use Rattle.qs_world_refine.proofs.Words.{vote_with, vote_frame, vote_next, due_votes, vote_pass, is_in_run, no_flags, flags_at, SaysOn, is_sound, same_flag, where_so, same_Some, and_right, not-true}
use Rattle.qs_base.specs.declared.identifiers.Outcome.{Outcome}
use Rattle.qs_base.specs.declared.identifiers.Outcome.TheVariants as outcomes
use Rattle.qs_ipc.specs.Ipc as ipc
use Rattle.qs_ops.specs.declared.answer.Cause.TheVariants as causes
use Rattle.qs_ops.specs.declared.vote.Vote.TheVariants as votes
use Rattle.qs_packet.specs.declared.message.Message.TheVariants as messages
use Rattle.qs_record.specs.declared.record.Record.TheVariants as records
use Rattle.qs_tm.specs.Manager as tm
use Rattle.qs_tm.specs.Participant as participant
use Rattle.qs_world.specs.Openings as openings
use Rattle.qs_world_refine.proofs.SaysLogs.{CommitsOwn, ListsIt, log_on, log_if_on}
use Rattle.qs_world_refine.proofs.SaysOn.{on_itself, on_then, fold_on, if_on, rest_on, enter_on, send_on, sends_on, queues_on, doings_on, server_on, part_on}
use Rattle.qs_world_refine.proofs.SaysNotices.{IsKnown, part_known, end_members_on, notices_on, notices_known}
use Rattle.qs_world_refine.proofs.SaysOutcomes.{MayList, aborts_none, decide_on, decide_commit_on, forget_on}
use Rattle.qs_world_refine.proofs.SaysRules.{issue_on, block_on}
use Rattle.qs_world_refine.proofs.SoundHolds.{Holds, known_sound, is_open, open_held}
use Rattle.qs_world_refine.proofs.SoundNotices.{end_members_hold}
use Rattle.qs_world_refine.proofs.SoundParts.{and_both}
use Rattle.qs_world_refine.proofs.SoundSettle.{ready_rule_sound, refuse_rule_sound, undecided_known, settle_tid_sound}
use Rattle.qs_world_refine.proofs.SoundViews.{PartSound, seen}
use Rattle.qs_world_refine.proofs.SoundVotes.{vote_next_holds, pass_open, pass_rule_sound}
use Rattle.qs_world_refine.proofs.SaysTells.{open_of}
use Rattle.qs_world_refine.proofs.WholeKept.{names_others, told_nodes}

-- ---- votes

enter_vote_on : (tid : Tid) (server : ServerNo) (ballot : Vote) (work : Work) → SaysOn work (enter_vote tid server ballot work)
enter_vote_on tid server ballot work =
    on_then (server_on server (λ value. after_vote value tid ballot) work)
    (on_then (part_on tid (participant.voted (member_here work server) ballot (served_count tid server work)) (λ part. (refl, refl)) (change_server server (λ value. after_vote value tid ballot) work))
    (on_then (doings_on tid (λ doings. record doings { voted = true }) _) (enter_on _ _)))

held_known : (tid : Tid) (work : Work) → Holds is_open tid work.node → IsKnown tid work
held_known tid work holds = by (part_of tid work) refl
  where
    by : (o : Option Participant) → part_of tid work ≡ o → IsKnown tid work
    by (Some part) known = (part, known)
    by None none = absurd (
        let never : tm.told_of tid false is_open work.node.manager ≡ false = ap (λ (o : Option Participant). elim o [ None ↦ false | Some p ↦ is_open p ]) none in
        let is : tm.told_of tid false is_open work.node.manager ≡ true = holds.1 in cc (never, is))

vote_with_on : (tid : Tid) (server : ServerNo) (ballot : Vote) (work : Work) → IsKnown tid work → SaysOn work (vote_with tid server ballot work)
vote_with_on tid server (votes.Abort reason) work known = enter_vote_on tid server (votes.Abort reason) work
vote_with_on tid server votes.ReadOnly work known = enter_vote_on tid server votes.ReadOnly work
vote_with_on tid server votes.Volatile work known = enter_vote_on tid server votes.Volatile work
vote_with_on tid server votes.Recoverable work known =
    on_then (enter_vote_on tid server votes.Recoverable work)
    (on_then (doings_on tid (λ doings. record doings { prepared = true }) entered)
    (log_on (records.Prepare tid server (served_count tid server entered) (changes_in (server_at entered.node.servers server) tid)) (with_doings tid (λ doings. record doings { prepared = true }) entered)
    (inr (part_known tid (participant.voted (member_here work server) votes.Recoverable (served_count tid server work)) (change_server server (λ value. after_vote value tid votes.Recoverable) work) known)) tt tt))
  where
    entered : Work
    entered = enter_vote tid server votes.Recoverable work

vote_next_on : (tid : Tid) (work : Work) (server : ServerNo) → Holds is_open tid work.node → SaysOn work (vote_next tid work server)
vote_next_on tid work server holds = if_on (owes_note tid server work) (note work.node.setting.audit)
    (vote_with_on tid server (vote_of (server_at work.node.servers server) tid work.room (vote_frame work)) work (held_known tid work holds))
  where
    note : (audit : Option NodeNo) → SaysOn work (issue_note tid audit work)
    note None = on_itself work
    note (Some node) = issue_on tid files_no (record { node = node; server = audit_no }) (Note (note_text tid (here work) (change_count tid work.node))) (change_count tid work.node) work

vote_pass_on : (tid : Tid) (work : Work) → Holds is_open tid work.node → SaysOn work (vote_pass tid work)
vote_pass_on tid work holds = on_then (end_members_on tid work) (each (due_votes tid work) (end_members tid work) (end_members_hold is_open tid open_held (λ server part is. is) work holds))
  where
    each : (servers : List ServerNo) (w : Work) → Holds is_open tid w.node → SaysOn w (fold (vote_next tid) w servers)
    each [] w so = on_itself w
    each (server ∷ servers) w so = on_then (vote_next_on tid w server so) (each servers (vote_next tid w server) (vote_next_holds tid w server so))

-- ---- settling

module _ (tid : Tid) (part : Participant) (work : Work) (known : part_of tid work ≡ Some part) where
  pub pass_on : is_undecided part ≡ true → is_sound work.node ≡ true → SaysOn work (pass_rule tid part work)
  pass_on open_now sound = by (is_pass_due tid part work) refl
    where
      by : (b : Bool) → is_pass_due tid part work ≡ b → SaysOn work (if b then vote_pass tid work else work)
      by true is = vote_pass_on tid work (pass_open tid part work known open_now sound is)
      by false is = on_itself work

  pub ready_on : is_undecided part ≡ true → is_sound work.node ≡ true → SaysOn work (ready_rule tid part work)
  ready_on open_now sound = if_on (may_answer tid part work) (at part.engage.home refl) (on_itself work)
    where
      s : PartSound work.node tid part
      s = known_sound tid work.node part known sound

      unless : (c b : Bool) → b ≡ false → where_so c b ≡ true → c ≡ false
      unless true b none is = absurd (cc (none, is))
      unless false b none is = refl

      nowhere : (o : Option Outcome) → is_none o ≡ true → (Rattle.std.proofs.Common.is_some o && not (is_abort o)) ≡ false
      nowhere None is = refl
      nowhere (Some outcome) is = absurd (cc (is))

      unlisted_yet : part.log.listed ≡ false
      unlisted_yet =
          let rest = (and_both (where_so (part.log.prepared || part.log.listed) part.log.unended) _ s.logged).1 in
          let drawn : (where_so part.log.prepared part.involved ≡ true) × _ = and_both (where_so part.log.prepared part.involved) _ rest in
          let lists : (where_so part.log.listed (part.engage.home && (Rattle.std.proofs.Common.is_some part.outcome && not (is_abort part.outcome))) ≡ true) × _ = and_both (where_so part.log.listed (part.engage.home && (Rattle.std.proofs.Common.is_some part.outcome && not (is_abort part.outcome)))) _ drawn.1 in
          unless part.log.listed _ (and_right part.engage.home _ (nowhere part.outcome open_now)) lists.0

      may_list : part.engage.home ≡ true → MayList tid outcomes.Commit work
      may_list home _ other its = subst (λ (p : Participant). (p.log.listed ≡ false) × ((list_all (is_in_run 16) (listed p.told) ≡ true) × ((not (openings.has_node (listed p.told) tid.home) ≡ true) × (same_node tid.home (here work) ≡ true)))) (same_Some part other (sym known ∙ its)) (unlisted_yet, (told_nodes part, (names_others part.told tid.home s.outside, at_home)))
        where
          flagged : (a b : Bool) → same_flag a b ≡ true → a ≡ true → b ≡ true
          flagged true true same on = refl
          flagged true false same on = absurd (cc (same))
          flagged false b same on = absurd (cc (on))

          at_home : same_node tid.home (here work) ≡ true
          at_home = flagged part.engage.home (same_node tid.home (here work)) s.homed home

      answers : (o : Option (NodeNo × ℕ)) → SaysOn work (elim o [ None ↦ work | Some superior ↦ say_yes tid part superior work ])
      answers None = on_itself work
      answers (Some superior) = on_then (part_on tid participant.released (λ part. (refl, refl)) work) (send_on _ _ (with_manager (tm.released tid) work))

      at : (b : Bool) → part.engage.home ≡ b → SaysOn work (if b then (if is_quiet (doings_of tid work) then decide_commit tid work else work) else elim (release_of part.engage) [ None ↦ work | Some superior ↦ say_yes tid part superior work ])
      at true home = if_on (is_quiet (doings_of tid work)) (decide_commit_on tid work (open_of tid work part known open_now) (may_list home)) (on_itself work)
      at false away = answers (release_of part.engage)

  pub refuse_on : is_undecided part ≡ true → SaysOn work (refuse_rule tid part work)
  refuse_on open_now = if_on part.engage.home (first part.causes) (on_then (part_on tid participant.take_causes (λ part. (refl, refl)) work) (fold_on (send_refusal tid (refusal_goes_to tid part)) (λ w cause. send_on _ _ w) part.causes (with_manager (tm.take_causes tid) work)))
    where
      first : (list : List Cause) → SaysOn work (elim list [ [] ↦ work | cause ∷ more ↦ decide tid outcomes.Abort (Some cause) work ])
      first [] = on_itself work
      first (cause ∷ more) = decide_on tid outcomes.Abort (Some cause) work (open_of tid work part known open_now) (aborts_none tid work)

  -- what is forgotten has nothing in the log
  pub forget_rule_on : is_sound work.node ≡ true → SaysOn work (forget_rule tid part work)
  forget_rule_on sound = by (is_forgotten part) refl
    where
      s : PartSound work.node tid part
      s = known_sound tid work.node part known sound

      unless : (c b : Bool) → b ≡ false → where_so c b ≡ true → c ≡ false
      unless true b none is = absurd (cc (none, is))
      unless false b none is = refl

      clear : is_forgotten part ≡ true → (part.log.prepared ≡ false) × (part.log.listed ≡ false)
      clear is =
          let both : ((is_undecided part && not part.engage.home) ≡ true) × (((is_none part.engage.superior && not part.involved) && (is_no_node part.told && participant.only_read part)) ≡ true) = and_both (is_undecided part && not part.engage.home) _ is in
          let away : not part.engage.home ≡ true = (and_both (is_undecided part) (not part.engage.home) both.0).1 in
          let idle : not part.involved ≡ true = (and_both (is_none part.engage.superior) (not part.involved) (and_both (is_none part.engage.superior && not part.involved) (is_no_node part.told && participant.only_read part) both.1).0).1 in
          let rest = (and_both (where_so (part.log.prepared || part.log.listed) part.log.unended) _ s.logged).1 in
          let drawn : (where_so part.log.prepared part.involved ≡ true) × _ = and_both (where_so part.log.prepared part.involved) _ rest in
          let lists : (where_so part.log.listed (part.engage.home && (Rattle.std.proofs.Common.is_some part.outcome && not (is_abort part.outcome))) ≡ true) × _ = and_both (where_so part.log.listed (part.engage.home && (Rattle.std.proofs.Common.is_some part.outcome && not (is_abort part.outcome)))) _ drawn.1 in
          (unless part.log.prepared part.involved (not-true part.involved idle) drawn.0, unless part.log.listed _ (rw (not-true part.engage.home away) refl) lists.0)

      found : (flag : InLog → Bool) → flag (flags_at tid work.node) ≡ flag part.log
      found flag = ap (λ (o : Option Participant). flag (elim o [ None ↦ no_flags | Some p ↦ p.log ])) known

      by : (b : Bool) → is_forgotten part ≡ b → SaysOn work (if b then Rattle.qs_node_step.specs.Telling.forget tid work else work)
      by true is = forget_on tid work (seen work.node sound).ordered (found (λ (f : InLog). f.prepared) ∙ (clear is).0) (found (λ (f : InLog). f.listed) ∙ (clear is).1)
      by false is = on_itself work

known_on : (tid : Tid) (rule : Tid → Participant → Work → Work) (work : Work) → ((part : Participant) → part_of tid work ≡ Some part → is_undecided part ≡ true → SaysOn work (rule tid part work)) → SaysOn work (try tid rule work)
known_on tid rule work each = by (part_of tid work) refl
  where
    picked : (part : Participant) → part_of tid work ≡ Some part → (b : Bool) → is_undecided part ≡ b → SaysOn work (if b then rule tid part work else work)
    picked part known true open_now = each part known open_now
    picked part known false is = on_itself work

    by : (o : Option Participant) → part_of tid work ≡ o → SaysOn work (elim o [ None ↦ work | Some part ↦ if is_undecided part then rule tid part work else work ])
    by None none = on_itself work
    by (Some part) known = picked part known (is_undecided part) refl

settle_tid_on : (work : Work) (tid : Tid) → is_sound work.node ≡ true → SaysOn work (settle_tid work tid)
settle_tid_on work tid sound =
    on_then (known_on tid pass_rule work (λ part known open_now. pass_on tid part work known open_now sound))
    (on_then (known_on tid ready_rule passed (λ part known open_now. ready_on tid part passed known open_now passed_sound))
    (on_then (known_on tid refuse_rule readied (λ part known open_now. refuse_on tid part readied known open_now))
    (known_on tid forget_rule refused (λ part known open_now. forget_rule_on tid part refused known refused_sound))))
  where
    passed : Work
    passed = try tid pass_rule work

    readied : Work
    readied = try tid ready_rule passed

    refused : Work
    refused = try tid refuse_rule readied

    passed_sound : is_sound passed.node ≡ true
    passed_sound = undecided_known tid (pass_rule tid) work (λ part known open_now. pass_rule_sound tid part work known open_now) sound

    refused_sound : is_sound refused.node ≡ true
    refused_sound =
        undecided_known tid (refuse_rule tid) readied (λ part known open_now. refuse_rule_sound tid part readied known open_now)
        (undecided_known tid (ready_rule tid) passed (λ part known open_now. ready_rule_sound tid part passed known open_now)
        passed_sound)

pub settle_on : (work : Work) → is_sound work.node ≡ true → SaysOn work (settle work)
settle_on work = each (due_tids work) work
  where
    each : (tids : List Tid) (w : Work) → is_sound w.node ≡ true → SaysOn w (fold settle_tid w tids)
    each [] w sound = on_itself w
    each (tid ∷ tids) w sound = on_then (settle_tid_on w tid sound) (each tids (settle_tid w tid) (settle_tid_sound w tid sound))

-- ---- another node restarted

notice_tid_on : (peer : NodeNo) (old new : ℕ) (work : Work) (tid : Tid) → SaysOn work (notice_tid peer old new work tid)
notice_tid_on peer old new work tid = by (part_of tid work)
  where
    restarted : Work
    restarted = with_manager (tm.restarted tid peer) work

    gone : (part : Participant) → SaysOn restarted (find_gone peer old tid part restarted)
    gone part = if_on (participant.is_owed_by peer part) (block_on tid (causes.Gone peer old) restarted) (on_itself restarted)

    asks : (part : Participant) (w : Work) → SaysOn w (inquire peer new tid part w)
    asks part w = if_on _ (send_on tid.home (messages.Inquire tid) w) (on_itself w)

    decided : (part : Participant) (outcome : Outcome) → SaysOn restarted (notice_decided peer tid outcome part restarted)
    decided part outcome = if_on part.engage.home (if_on _ (send_on peer (messages.Tell tid outcome) restarted) (on_itself restarted)) (if_on _ (send_on peer _ restarted) (on_itself restarted))

    at : (part : Participant) (o : Option Outcome) → SaysOn restarted (elim o [ None ↦ inquire peer new tid part (find_gone peer old tid part restarted) | Some outcome ↦ notice_decided peer tid outcome part restarted ])
    at part None = on_then (gone part) (asks part (find_gone peer old tid part restarted))
    at part (Some outcome) = decided part outcome

    by : (o : Option Participant) → SaysOn work (elim o [ None ↦ work | Some part ↦ notice_part peer old new tid part restarted ])
    by None = on_itself work
    by (Some part) = on_then (part_on tid (participant.restarted peer) (λ part. (refl, refl)) work) (at part part.outcome)

pub peer_restarted_on : (peer : NodeNo) (old new : ℕ) (work : Work) → SaysOn work (peer_restarted peer old new work)
peer_restarted_on peer old new work = on_then (queues_on (ipc.mark_queues peer) work) (fold_on (notice_tid peer old new) (notice_tid_on peer old new) (tm.concerned peer work.node.manager) (with_queues (ipc.mark_queues peer) work))

-- ---- the first step of an incarnation

resume_home_on : (tid : Tid) (part : Participant) (outcome : Outcome) (work : Work) → part_of tid work ≡ Some part → SaysOn work (resume_home tid part outcome work)
resume_home_on tid part outcomes.Commit work known = sends_on (listed part.tell) (messages.Tell tid outcomes.Commit) work
resume_home_on tid part outcomes.Abort work known = on_then (notices_on tid outcomes.Abort work) (log_if_on (record_learnt tid outcomes.Abort part) _ (λ rec is. (inr (subst (λ (t : Tid). IsKnown t (Rattle.qs_node_step.specs.Deciding.give_notices tid outcomes.Abort work)) (sym (of_it rec part.log.prepared is)) (notices_known tid outcomes.Abort work (part, known))), (unlisted rec part.log.prepared is (Rattle.qs_node_step.specs.Deciding.give_notices tid outcomes.Abort work), owns_none rec part.log.prepared is (Rattle.qs_node_step.specs.Deciding.give_notices tid outcomes.Abort work).node))))
  where
    owns_none : (rec : Rattle.qs_record.specs.declared.record.Record.Record) (b : Bool) → (if b then Some (end_record tid outcomes.Abort) else None) ≡ Some rec → (node : Rattle.qs_node_step.specs.State.NodeValue) → CommitsOwn rec node
    owns_none rec true is node = let same : end_record tid outcomes.Abort ≡ rec = cc (is) in subst (λ (r : Rattle.qs_record.specs.declared.record.Record.Record). CommitsOwn r node) same tt
    owns_none rec false is node = absurd (cc (is))

    unlisted : (rec : Rattle.qs_record.specs.declared.record.Record.Record) (b : Bool) → (if b then Some (end_record tid outcomes.Abort) else None) ≡ Some rec → (w : Work) → ListsIt rec w
    unlisted rec true is w = let same : end_record tid outcomes.Abort ≡ rec = cc (is) in subst (λ (r : Rattle.qs_record.specs.declared.record.Record.Record). ListsIt r w) same tt
    unlisted rec false is w = absurd (cc (is))

    of_it : (rec : Rattle.qs_record.specs.declared.record.Record.Record) (b : Bool) → (if b then Some (end_record tid outcomes.Abort) else None) ≡ Some rec → Rattle.qs_node_step.specs.Bringing.tid_of rec ≡ tid
    of_it rec true is = let same : end_record tid outcomes.Abort ≡ rec = cc (is) in subst (λ (r : Rattle.qs_record.specs.declared.record.Record.Record). Rattle.qs_node_step.specs.Bringing.tid_of r ≡ tid) same refl
    of_it rec false is = absurd (cc (is))

resume_tid_on : (work : Work) (tid : Tid) → SaysOn work (resume_tid work tid)
resume_tid_on work tid = by (part_of tid work) refl
  where
    at : (part : Participant) → part_of tid work ≡ Some part → (o : Option Outcome) → SaysOn work (elim o [ None ↦ Rattle.qs_node_step.specs.Bringing.send tid.home (messages.Inquire tid) work | Some outcome ↦ resume_home tid part outcome work ])
    at part known None = send_on tid.home (messages.Inquire tid) work
    at part known (Some outcome) = resume_home_on tid part outcome work known

    by : (o : Option Participant) → part_of tid work ≡ o → SaysOn work (elim o [ None ↦ work | Some part ↦ resume_part tid part work ])
    by None none = on_itself work
    by (Some part) known = at part known part.outcome

pub begin_incarnation_on : (work : Work) → SaysOn work (begin_incarnation work)
begin_incarnation_on work = if_on work.node.is_first (on_then (rest_on work begun refl refl refl refl refl) (fold_on resume_tid resume_tid_on (known_tids work) begun)) (on_itself work)
  where
    begun : Work
    begun = with_node (λ node. record node { is_first = false }) work
