-- What each thing of a step keeps, the rules at the end of a step, a restart of another node and the first step of an incarnation keep.
use Rattle.qs_world_refine.proofs.Words.{◌≡◌, inl, inr, ℕ, ◌<◌, ◌==◌, ◌&&◌, ◌||◌, not, Bool, true, false, List, [], ◌∷◌, fold, Option, Some, None, is_none, is_some, unwrap_or, refl, sym, ap, subst, ◌∙◌, arith, nat_lt, if◌then◌else◌, nat_tests, list_all, filter, tid_cmp, NodeNo, ServerNo, Tid, release_of, listed, same_node, after_vote, changes_in, vote_of, Cause, Note, Vote, is_recoverable, server_at, audit_no, files_no, named_by, is_undecided, is_forgotten, servers_due, is_due_at, Manager}
use Rattle.qs_world_refine.proofs.Words.{Participant, send, member_here, decide, end_members, find_gone, inquire, notice_decided, notice_part, notice_tid, peer_restarted, resume_home, resume_part, resume_tid, is_pass_due, pass_rule, may_answer, is_quiet, say_yes, ready_rule, refusal_goes_to, send_refusal, refuse_rule, forget_rule, try, settle_tid, due_tids, settle, Doings, Work, here, part_of, doings_of, with_manager, with_queues, with_doings, record_learnt, owes_note, issue_note, note_text}
use Rattle.qs_world_refine.proofs.Words.{change_count, served_count, enter_vote, vote_with, vote_frame, vote_next, due_votes, fits, Reads, Keeps, IsPlain, MayLog, is_homed, is_sound, is_engaged, not-true}
use Rattle.qs_base.specs.declared.identifiers.Outcome.{Outcome}
use Rattle.qs_base.specs.declared.identifiers.Outcome.TheVariants as outcomes
use Rattle.qs_ipc.specs.Ipc as ipc
use Rattle.qs_ops.specs.declared.answer.Cause.TheVariants as causes
use Rattle.qs_ops.specs.declared.vote.Vote.TheVariants as votes
use Rattle.qs_packet.specs.declared.message.Message.TheVariants as messages
use Rattle.qs_record.specs.declared.record.Record.TheVariants as records
use Rattle.qs_tm.specs.Manager as tm
use Rattle.qs_tm.specs.Members.{all_servers}
use Rattle.qs_tm.specs.Participant as participant
use Rattle.qs_tm.specs.declared.participant.Due.TheVariants as dues
use Rattle.qs_node_step.specs.State.{no_doings}
use Rattle.qs_world_refine.proofs.Maps.{lookup_put}
use Rattle.qs_world_refine.proofs.ServerKinds.{vote_kind}
use Rattle.qs_world_refine.proofs.SoundSettle.{undecided_known, settle_tid_sound}
use Rattle.qs_world_refine.proofs.SoundVotes.{pass_open, pass_rule_sound, vote_next_holds}
use Rattle.qs_world_refine.proofs.SoundHolds.{Holds, is_open, open_held, told_with}
use Rattle.qs_world_refine.proofs.SoundNotices.{end_members_hold}
use Rattle.qs_world_refine.proofs.SoundParts.{and_both, both_and}
use Rattle.qs_world_refine.proofs.WalkRules.{fold_walk, if_walk, sends_walk, issue_walk, block_walk, undecided_walk}
use Rattle.qs_world_refine.proofs.WalkOutcomes.{log_if_walk, end_members_walk, notices_walk, decide_walk, decide_commit_walk, forget_walk, learnt_fits, learnt_may}

-- whom it answers, with the number of its last request
abbrev released_as : Participant → Option NodeNo → Option (NodeNo × ℕ)
released_as part o = elim o [ None ↦ None | Some superior ↦ Some (superior, (Rattle.qs_engage.specs.Engage.peer_of part.engage superior).last) ]

-- ---- servers by number

abbrev is_server : ServerNo → Bool
is_server server = nat_lt server.0 7

picked_servers : (p : ServerNo → Bool) (servers : List ServerNo) → list_all is_server servers ≡ true → list_all is_server (filter p servers) ≡ true
picked_servers p [] all = refl
picked_servers p (server ∷ servers) all = by (p server) refl (picked_servers p servers (and_both (is_server server) _ all).1)
  where
    both : (is_server server ≡ true) × (list_all is_server servers ≡ true)
    both = and_both (is_server server) _ all

    by : (b : Bool) → p server ≡ b → list_all is_server (filter p servers) ≡ true → list_all is_server (filter p (server ∷ servers)) ≡ true
    by true is more = rw is (both_and (is_server server) _ both.0 more)
    by false is more = rw is more

low_servers : list_all is_server all_servers ≡ true
unfolding all_servers
low_servers = refl

due_servers : (tid : Tid) (work : Work) → list_all is_server (due_votes tid work) ≡ true
due_servers tid work = by (part_of tid work)
  where
    by : (o : Option Participant) → list_all is_server (elim o [ None ↦ [] | Some part ↦ servers_due dues.Vote part ]) ≡ true
    by None = refl
    by (Some part) = picked_servers (is_due_at dues.Vote part) all_servers low_servers

-- what is open is engaged
open_engaged : (part : Participant) → is_open part ≡ true → is_engaged part ≡ true
open_engaged part is = by part.engage.home (is_undecided part) (is_some part.engage.superior) (and_both (is_undecided part) _ is).0 (open_held part is)
  where
    by : (h u s : Bool) → u ≡ true → (not h && (u && not (if h then u else s))) ≡ false → (if h then u else s) ≡ true
    by true u s now so = now
    by false true true now so = refl
    by false true false now so = absurd (cc (so))
    by false false s now so = absurd (cc (now))

-- what is noted of a transaction in a step
pub doings_put : (tid : Tid) (f : Doings → Doings) (work : Work) → doings_of tid (with_doings tid f work) ≡ f (doings_of tid work)
doings_put tid f work = ap (λ (o : Option Doings). unwrap_or o no_doings) (lookup_put tid_cmp tid (f (doings_of tid work)) (grind (arith, nat_tests)) work.doings)

module _ (P Q : Tid → Bool) (R : NodeNo → Bool) (me : NodeNo) (nodes : ℕ) (I : Work → Type 0) (reads : Reads P Q R me nodes I) (keeps : Keeps P Q R me nodes I) where
  -- ---- votes

  vote_with_walk : (tid : Tid) (server : ServerNo) (ballot : Vote) (work : Work) → P tid ≡ true → (ballot ≡ votes.Recoverable → is_recoverable server.0 ≡ true) → Holds is_open tid work.node → I work → I (vote_with tid server ballot work)
  vote_with_walk tid server ballot work its kind holds i = by ballot kind
    where
      on : (m : Manager) → tm.told_of tid false is_open m ≡ true → tm.told_of tid false is_engaged m ≡ true
      on m is = at (tm.part_of tid m) is
        where
          at : (o : Option Participant) → ◌≡◌ {A = Bool} (elim o [ None ↦ false | Some p ↦ is_open p ]) true → ◌≡◌ {A = Bool} (elim o [ None ↦ false | Some p ↦ is_engaged p ]) true
          at None is = is
          at (Some part) is = open_engaged part is

      prepared : Work
      prepared = with_doings tid (λ doings. record doings { prepared = true }) (enter_vote tid server votes.Recoverable work)

      may : MayLog (records.Prepare tid server (served_count tid server (enter_vote tid server votes.Recoverable work)) (changes_in (server_at (enter_vote tid server votes.Recoverable work).node.servers server) tid)) prepared
      may = (
        ap (λ (d : Doings). d.prepared) (doings_put tid (λ doings. record doings { prepared = true }) (enter_vote tid server votes.Recoverable work)),
        told_with tid false is_engaged (participant.voted (member_here work server) votes.Recoverable (served_count tid server work)) work.node.manager ∙ on work.node.manager holds.1,
      )

      entered : (ballot : Vote) → I (enter_vote tid server ballot work)
      entered ballot = keeps.enter _ _ (keeps.doing tid (λ doings. record doings { voted = true }) _ (λ doings is. is)
          (keeps.part tid (participant.voted (member_here work server) ballot (served_count tid server work)) _ (λ part. record { home = refl; superior = refl; asked = refl; outcome = refl; log = refl; begun = refl })
          (keeps.serve server (λ value. after_vote value tid ballot) work (λ value. vote_kind value tid ballot) i)))

      by : (ballot : Vote) → (ballot ≡ votes.Recoverable → is_recoverable server.0 ≡ true) → I (vote_with tid server ballot work)
      by (votes.Abort reason) kind = entered (votes.Abort reason)
      by votes.ReadOnly kind = entered votes.ReadOnly
      by votes.Volatile kind = entered votes.Volatile
      by votes.Recoverable kind = keeps.log (records.Prepare tid server (served_count tid server (enter_vote tid server votes.Recoverable work)) (changes_in (server_at (enter_vote tid server votes.Recoverable work).node.servers server) tid)) _
          (both_and (P tid) _ its (kind refl)) may (keeps.doing tid (λ doings. record doings { prepared = true }) _ (λ doings is. refl) (entered votes.Recoverable))

  vote_next_walk : (tid : Tid) (work : Work) (server : ServerNo) → P tid ≡ true → Q tid ≡ true → is_server server ≡ true → Holds is_open tid work.node → I work → I (vote_next tid work server)
  vote_next_walk tid work server known begun low holds i = if_walk P Q R me nodes I reads keeps (owes_note tid server work) (λ is. note work.node.setting.audit)
      (λ is. vote_with_walk tid server (vote_of (server_at work.node.servers server) tid work.room (vote_frame work)) work known (λ votes. reads.vote tid server work.room (vote_frame work) work i (grind (arith, nat_tests, low)) votes) holds i)
    where
      note : (audit : Option NodeNo) → I (issue_note tid audit work)
      note None = i
      note (Some node) = issue_walk P Q R me nodes I reads keeps tid files_no (record { node = node; server = audit_no }) (Note (note_text tid (here work) (change_count tid work.node))) (change_count tid work.node) work begun refl i

  pass_walk : (tid : Tid) (part : Participant) (work : Work) → part_of tid work ≡ Some part → is_undecided part ≡ true → is_sound work.node ≡ true → I work → I (pass_rule tid part work)
  pass_walk tid part work known open_now sound i = if_walk P Q R me nodes I reads keeps (is_pass_due tid part work)
      (λ is. each (reads.asked tid part work i known (and_both part.asked _ (and_both _ _ is).0).0) (due_votes tid work) (due_servers tid work) (end_members tid work) (end_members_hold is_open tid open_held (λ server part is. is) work (pass_open tid part work known open_now sound is)) (end_members_walk P Q R me nodes I reads keeps tid work i)) (λ is. i)
    where
      each : Q tid ≡ true → (servers : List ServerNo) → list_all is_server servers ≡ true → (w : Work) → Holds is_open tid w.node → I w → I (fold (vote_next tid) w servers)
      each begun [] low w so j = j
      each begun (server ∷ servers) low w so j =
          let both : (is_server server ≡ true) × (list_all is_server servers ≡ true) = and_both (is_server server) _ low in
          each begun servers both.1 (vote_next tid w server) (vote_next_holds tid w server so) (vote_next_walk tid w server (reads.known tid part work i known) begun both.0 so j)

  -- ---- settling

  ready_walk : (tid : Tid) (part : Participant) (work : Work) → part_of tid work ≡ Some part → is_undecided part ≡ true → is_sound work.node ≡ true → I work → I (ready_rule tid part work)
  ready_walk tid part work known open_now sound i = if_walk P Q R me nodes I reads keeps (may_answer tid part work)
      (λ may. if_walk P Q R me nodes I reads keeps part.engage.home
      (λ home. if_walk P Q R me nodes I reads keeps (is_quiet (doings_of tid work)) (λ is. decide_commit_walk P Q R me nodes I reads keeps tid work (homed home) still i) (λ is. i))
      (λ away. answers part.engage.superior refl away (unprepared may)))
      (λ is. i)
    where
      its : P tid ≡ true
      its = reads.known tid part work i known

      homed : part.engage.home ≡ true → is_homed P me tid ≡ true
      homed home = both_and (P tid) _ its (sym (reads.home tid part work i known) ∙ home)

      still : tm.told_of tid false is_undecided work.node.manager ≡ true
      still = ap (λ (o : Option Participant). elim o [ None ↦ false | Some p ↦ is_undecided p ]) known ∙ open_now

      -- a Prepare of this step does not count yet
      unprepared : may_answer tid part work ≡ true → (doings_of tid work).prepared ≡ false
      unprepared may = not-true (doings_of tid work).prepared (and_both (not (participant.needs_pass part)) _ (and_both (participant.is_ready (Rattle.qs_node_step.specs.Settling.is_busy tid work.node part) part) _ may).1).1

      answers : (o : Option NodeNo) → part.engage.superior ≡ o → part.engage.home ≡ false → (doings_of tid work).prepared ≡ false
          → I (elim (released_as part o) [ None ↦ work | Some superior ↦ say_yes tid part superior work ])
      answers None none away unvoted = i
      answers (Some superior) is away unvoted = keeps.send superior (messages.VotedYes tid (Rattle.qs_engage.specs.Engage.peer_of part.engage superior).last (listed (Rattle.qs_tm.specs.Outcomes.told_with_own (here work) part))) (with_manager (tm.released tid) work)
          (λ low. subst (λ (n : NodeNo). fits P Q nodes me superior (messages.VotedYes tid (Rattle.qs_engage.specs.Engage.peer_of part.engage superior).last (listed (Rattle.qs_tm.specs.Outcomes.told_with_own n part))) ≡ true) (sym (reads.here work i)) (reads.told tid part superior (Rattle.qs_engage.specs.Engage.peer_of part.engage superior).last work i sound known is away))
          (keeps.release tid work unvoted i)

  refuse_walk : (tid : Tid) (part : Participant) (work : Work) → part_of tid work ≡ Some part → I work → I (refuse_rule tid part work)
  refuse_walk tid part work known i = if_walk P Q R me nodes I reads keeps part.engage.home (λ home. first part.causes home)
      (λ away. fold_walk P Q R me nodes I reads keeps (send_refusal tid (refusal_goes_to tid part)) (λ w cause j. keeps.send _ (messages.VotedAbort tid cause) w (λ low. refused part.engage.superior refl low) j) part.causes _
      (keeps.part tid participant.take_causes work (λ part. record { home = refl; superior = refl; asked = refl; outcome = refl; log = refl; begun = refl }) i))
    where
      refused : (o : Option NodeNo) → part.engage.superior ≡ o → nat_lt (Rattle.std.proofs.Common.unwrap_or o tid.home).0 nodes ≡ true → (P tid && nat_lt tid.home.0 nodes) ≡ true
      refused None none low = both_and (P tid) _ (reads.known tid part work i known) low
      refused (Some superior) is low = both_and (P tid) _ (reads.known tid part work i known) (reads.inside tid (reads.engaged tid part superior work i known is)).1

      first : (list : List Cause) → part.engage.home ≡ true → I (elim list [ [] ↦ work | cause ∷ more ↦ decide tid outcomes.Abort (Some cause) work ])
      first [] home = i
      first (cause ∷ more) home = decide_walk P Q R me nodes I reads keeps tid outcomes.Abort (Some cause) work (both_and (P tid) _ (reads.known tid part work i known) (sym (reads.home tid part work i known) ∙ home)) (λ is. absurd (cc (is))) i

  forget_rule_walk : (tid : Tid) (part : Participant) (work : Work) → part_of tid work ≡ Some part → I work → I (forget_rule tid part work)
  forget_rule_walk tid part work known i = if_walk P Q R me nodes I reads keeps (is_forgotten part)
      (λ is. forget_walk P Q R me nodes I reads keeps tid part work known (inl (sym (reads.home tid part work i known) ∙ not-true part.engage.home (and_both (is_undecided part) _ (and_both (is_undecided part && not part.engage.home) _ is).0).1, is)) i)
      (λ is. i)

  pub settle_tid_walk : (work : Work) (tid : Tid) → is_sound work.node ≡ true → I work → I (settle_tid work tid)
  settle_tid_walk work tid sound i =
      undecided_walk P Q R me nodes I reads keeps tid (forget_rule tid) _ (λ part known open_now. forget_rule_walk tid part _ known refused)
      refused
    where
      passed_sound : is_sound (try tid pass_rule work).node ≡ true
      passed_sound = undecided_known tid (pass_rule tid) work (λ part known open_now. pass_rule_sound tid part work known open_now) sound

      passed : I (try tid pass_rule work)
      passed = undecided_walk P Q R me nodes I reads keeps tid (pass_rule tid) work (λ part known open_now. pass_walk tid part work known open_now sound i) i

      readied : I (try tid ready_rule (try tid pass_rule work))
      readied = undecided_walk P Q R me nodes I reads keeps tid (ready_rule tid) _ (λ part known open_now. ready_walk tid part _ known open_now passed_sound passed) passed

      refused : I (try tid refuse_rule (try tid ready_rule (try tid pass_rule work)))
      refused = undecided_walk P Q R me nodes I reads keeps tid (refuse_rule tid) _ (λ part known open_now. refuse_walk tid part _ known readied) readied

  pub settle_walk : (work : Work) → is_sound work.node ≡ true → I work → I (settle work)
  settle_walk work = each (due_tids work) work
    where
      each : (tids : List Tid) (w : Work) → is_sound w.node ≡ true → I w → I (fold settle_tid w tids)
      each [] w sound i = i
      each (tid ∷ tids) w sound i = each tids (settle_tid w tid) (settle_tid_sound w tid sound) (settle_tid_walk w tid sound i)

  -- ---- another node restarted

  restarted_plain : (peer : NodeNo) (part : Participant) → IsPlain part (participant.restarted peer part)
  restarted_plain peer part = record { home = refl; superior = refl; asked = refl; outcome = refl; log = refl; begun = refl }

  notice_tid_walk : (peer : NodeNo) (old new : ℕ) (work : Work) (tid : Tid) → I work → I (notice_tid peer old new work tid)
  notice_tid_walk peer old new work tid i = by (part_of tid work) refl
    where
      restarted : Work
      restarted = with_manager (tm.restarted tid peer) work

      begun : I restarted
      begun = keeps.part tid (participant.restarted peer) work (restarted_plain peer) i

      node_itself : (node : NodeNo) → same_node node node ≡ true
      node_itself node = grind (arith, nat_tests)

      asks : (part : Participant) (w : Work) → P tid ≡ true → I w → I (inquire peer new tid part w)
      asks part w its j = if_walk P Q R me nodes I reads keeps _ (λ is. keeps.send tid.home (messages.Inquire tid) w (λ low. both_and (P tid) _ its (node_itself tid.home)) j) (λ is. j)

      decided : (part : Participant) (outcome : Outcome) → part_of tid work ≡ Some part → I (notice_decided peer tid outcome part restarted)
      decided part outcome known = if_walk P Q R me nodes I reads keeps part.engage.home
          (λ home. if_walk P Q R me nodes I reads keeps _ (λ is. keeps.send peer (messages.Tell tid outcome) restarted (λ low. both_and (P tid) _ its (sym (reads.home tid part work i known) ∙ home)) begun) (λ is. begun))
          (λ away. if_walk P Q R me nodes I reads keeps (Rattle.qs_tm.specs.Outcomes.is_abort part.outcome && same_node tid.home peer) (λ is. keeps.send peer (messages.Told tid (listed (named_by tid.home part))) restarted (λ low. both_and (P tid) _ its (and_both _ (same_node tid.home peer) is).1) begun) (λ is. begun))
        where
          its : P tid ≡ true
          its = reads.known tid part work i known

      at : (part : Participant) → part_of tid work ≡ Some part → (o : Option Outcome) → I (elim o [ None ↦ inquire peer new tid part (find_gone peer old tid part restarted) | Some outcome ↦ notice_decided peer tid outcome part restarted ])
      at part known None = asks part _ (reads.known tid part work i known) (if_walk P Q R me nodes I reads keeps (participant.is_owed_by peer part) (λ is. block_walk P Q R me nodes I reads keeps tid (causes.Gone peer old) restarted begun) (λ is. begun))
      at part known (Some outcome) = decided part outcome known

      by : (o : Option Participant) → part_of tid work ≡ o → I (elim o [ None ↦ work | Some part ↦ notice_part peer old new tid part restarted ])
      by None none = i
      by (Some part) known = at part known part.outcome

  pub peer_restarted_walk : (peer : NodeNo) (old new : ℕ) (work : Work) → I work → I (peer_restarted peer old new work)
  peer_restarted_walk peer old new work i = fold_walk P Q R me nodes I reads keeps (notice_tid peer old new) (notice_tid_walk peer old new) (tm.concerned peer work.node.manager) (with_queues (ipc.mark_queues peer) work) (keeps.mark peer work i)

  -- ---- the first step of an incarnation: who is committed then is at home

  resume_home_walk : (tid : Tid) (part : Participant) (outcome : Outcome) (work : Work) → part_of tid work ≡ Some part → (outcome ≡ outcomes.Commit → part.engage.home ≡ true) → I work → I (resume_home tid part outcome work)
  resume_home_walk tid part outcomes.Commit work known home i = sends_walk P Q R me nodes I reads keeps (listed part.tell) (messages.Tell tid outcomes.Commit) work
      (λ node. both_and (P tid) _ (reads.known tid part work i known) (sym (reads.home tid part work i known) ∙ home refl)) i
  resume_home_walk tid part outcomes.Abort work known home i = log_if_walk P Q R me nodes I reads keeps (record_learnt tid outcomes.Abort part) _
      (λ rec logged. learnt_fits P Q R me nodes I reads keeps tid outcomes.Abort part rec (reads.known tid part work i known) logged) (λ rec logged. learnt_may P Q R me nodes I reads keeps tid outcomes.Abort part rec _ (λ never. absurd (cc never)) logged) (notices_walk P Q R me nodes I reads keeps tid outcomes.Abort work i)

  pub resume_tid_walk : (work : Work) (tid : Tid) → ((part : Participant) → part_of tid work ≡ Some part → part.outcome ≡ Some outcomes.Commit → part.engage.home ≡ true) → I work → I (resume_tid work tid)
  resume_tid_walk work tid committed i = by (part_of tid work) refl
    where
      node_itself : (node : NodeNo) → same_node node node ≡ true
      node_itself node = grind (arith, nat_tests)

      at : (part : Participant) → part_of tid work ≡ Some part → (o : Option Outcome) → part.outcome ≡ o → I (elim o [ None ↦ send tid.home (messages.Inquire tid) work | Some outcome ↦ resume_home tid part outcome work ])
      at part known None is = keeps.send tid.home (messages.Inquire tid) work (λ low. both_and (P tid) _ (reads.known tid part work i known) (node_itself tid.home)) i
      at part known (Some outcome) is = resume_home_walk tid part outcome work known (λ so. committed part known (is ∙ ap (λ (o : Outcome). Some o) so)) i

      by : (o : Option Participant) → part_of tid work ≡ o → I (elim o [ None ↦ work | Some part ↦ resume_part tid part work ])
      by None none = i
      by (Some part) known = at part known part.outcome refl
