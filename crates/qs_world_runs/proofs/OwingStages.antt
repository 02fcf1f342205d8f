-- What a node waits for stands on through votes, settling and whatever comes, and so through a whole step.
use Rattle.qs_world_runs.proofs.Words.{◌≡◌, ℕ, true, List, [], ◌∷◌, Option, Some, None, refl, sym, subst, if◌then◌else◌, insert_entry, is_at, lookup, tied_itself, nat_cmp_total, NodeNo, ServerNo, Tid, release_of, listed, Entry, ScriptLine, BookValue, after_vote, changes_in, vote_of, Cause, Note, Vote, Message, server_at, enter, member_here, end_members, issue_as, begin_incarnation, answer_superior, due_tids, forget_rule, is_pass_due, is_quiet, may_answer, pass_rule, ready, ready_rule}
use Rattle.qs_world_runs.proofs.Words.{refusal_goes_to, refuse_elsewhere, refuse_home, refuse_rule, say_yes, send_refusal, settle, settle_tid, try, Work, change_server, client_cmp, doings_of, here, with_doings, with_manager, work_on, abort_old, age_rule, command_came, happen, message_came, step_work, wait_on, waiting_clients, with_command, forget, change_count, due_votes, enter_vote, issue_note, log_vote, owes_note, served_count, vote_frame, vote_next, vote_pass, vote_with, Event}
use Rattle.qs_world_runs.proofs.Words.{told_with_own, is_forgotten, coming_first, Amid, around, fresh_command}
use Rattle.qs_world_lawful.specs.GivenStep.{tick_work}
use Rattle.qs_base.specs.declared.identifiers.Outcome.TheVariants as outcomes
use Rattle.qs_book_journal.specs.declared.entry.Act.TheVariants as acts
use Rattle.qs_book_laws.proofs.Maps.{lookup_put}
use Rattle.qs_ops.specs.declared.answer.Cause.TheVariants as causes
use Rattle.qs_ops.specs.declared.vote.Vote.TheVariants as votes
use Rattle.qs_packet.specs.declared.message.Message.TheVariants as messages
use Rattle.qs_record.specs.declared.record.Record.TheVariants as records
use Rattle.qs_node_servers.specs.Servers.{audit_no}
use Rattle.qs_node_step.specs.Deciding.{decide, decide_commit}
use Rattle.qs_node_step.specs.Requests.{next_number}
use Rattle.qs_node_step.specs.State.{NodeValue}
use Rattle.qs_node_step.specs.Voting.{note_text}
use Rattle.qs_node_step.specs.declared.event.Event.TheVariants as events
use Rattle.qs_tm.specs.Manager as tm
use Rattle.qs_tm.specs.Members as members
use Rattle.qs_tm.specs.Participant as participant
use Rattle.qs_world_runs.specs.Answering.{IsFree}
use Rattle.qs_world_runs.proofs.OwingCommands as commanded
use Rattle.qs_world_runs.proofs.OwingEnters.{entered_amid, opened_amid}
use Rattle.qs_world_runs.proofs.OwingLeaves.{causes_left, released_left, voted_left}
use Rattle.qs_world_runs.proofs.OwingParts.{waits_forgot, waits_left}
use Rattle.qs_world_runs.proofs.OwingRules as rules
use Rattle.qs_world_runs.proofs.OwingTold as told

module _ (before : List Entry) (stamp : ℕ) where
  abbrev Keeps : Work → Work → Type 0
  Keeps work new = rules.Keeps before stamp work new

  -- ---- the vote pass, and settling

  vote_next_keeps : (tid : Tid) (work : Work) (server : ServerNo) → Keeps work (vote_next tid work server)
  vote_next_keeps tid work server = rules.if_keeps before stamp (owes_note tid server work) (issue_note tid work.node.setting.audit work) (vote_with tid server ballot work) work (λ is. note work.node.setting.audit) (λ is h. logged ballot (voted h))
    where
      ballot : Vote
      ballot = vote_of (server_at work.node.servers server) tid work.room (vote_frame work)

      note : (o : Option NodeNo) → Keeps work (issue_note tid o work)
      note None = λ h. h
      note (Some node) = rules.elim_keeps before stamp (next_number tid node work) work
          (λ number. issue_as tid (record { issuer = members.files_no; member = record { node = node; server = audit_no }; number = number; count = change_count tid work.node }) (Note (note_text tid (here work) (change_count tid work.node))) work) work (λ h. h)
          (λ number next. rules.issue_as_keeps before stamp tid (record { issuer = members.files_no; member = record { node = node; server = audit_no }; number = number; count = change_count tid work.node }) (Note (note_text tid (here work) (change_count tid work.node))) work next (λ other. absurd (cc other)))

      voted : Keeps work (enter_vote tid server ballot work)
      voted h = entered_amid before stamp (acts.Vote tid (member_here work server) ballot (served_count tid server work))
          (with_doings tid (λ doings. record doings { voted = true }) (with_manager (tm.voted tid (member_here work server) ballot (served_count tid server work)) (change_server server (λ value. after_vote value tid ballot) work))) (record { counts = λ t peer number. refl; answers = λ s. refl })
          (waits_left (around before stamp work) tid (participant.voted (member_here work server) ballot (served_count tid server work)) work.node.manager (voted_left (member_here work server) ballot (served_count tid server work)) h)

      logged : (b : Vote) → Keeps (enter_vote tid server ballot work) (log_vote b tid server (enter_vote tid server ballot work))
      logged (votes.Abort reason) h = h
      logged votes.ReadOnly h = h
      logged votes.Volatile h = h
      logged votes.Recoverable h = rules.log_if_keeps before stamp (Some (records.Prepare tid server (served_count tid server (enter_vote tid server ballot work)) (changes_in (server_at (enter_vote tid server ballot work).node.servers server) tid))) (with_doings tid (λ doings. record doings { prepared = true }) (enter_vote tid server ballot work)) h

  pass_keeps : (tid : Tid) (work : Work) → Keeps work (vote_pass tid work)
  pass_keeps tid work h = rules.fold_keeps before stamp (vote_next tid) (vote_next_keeps tid) (due_votes tid work) (end_members tid work) (told.ended_keeps before stamp tid work h)

  passes_keep : (work : Work) (tid : Tid) → Keeps work (try tid pass_rule work)
  passes_keep work tid = rules.undecided_keeps before stamp tid (pass_rule tid) work (λ part. rules.if_keeps before stamp (is_pass_due tid part work) (vote_pass tid work) work work (λ is. pass_keeps tid work) (λ is h. h))

  readies_keep : (work : Work) (tid : Tid) → Keeps work (try tid ready_rule work)
  readies_keep work tid = rules.undecided_keeps before stamp tid (ready_rule tid) work (λ part. rules.if_keeps before stamp (may_answer tid part work) (ready tid part work) work work
      (λ is. rules.if_keeps before stamp part.engage.home (if is_quiet (doings_of tid work) then decide_commit tid work else work) (answer_superior tid part work) work
      (λ home. rules.if_keeps before stamp (is_quiet (doings_of tid work)) (decide_commit tid work) work work (λ quiet. told.commit_keeps before stamp tid work) (λ quiet h. h))
      (λ home. rules.elim_keeps before stamp (release_of part.engage) work (λ superior. say_yes tid part superior work) work (λ h. h)
      (λ superior to h. rules.send_keeps before stamp superior.0 (messages.VotedYes tid superior.1 (listed (told_with_own (here work) part))) (with_manager (tm.released tid) work) (rules.part_keeps before stamp tid participant.released released_left work h)))) (λ is h. h))

  refuses_keep : (work : Work) (tid : Tid) → Keeps work (try tid refuse_rule work)
  refuses_keep work tid = rules.undecided_keeps before stamp tid (refuse_rule tid) work (λ part. rules.if_keeps before stamp part.engage.home (refuse_home tid part work) (refuse_elsewhere tid part work) work (λ home. first part.causes)
      (λ home h. rules.fold_keeps before stamp (send_refusal tid (refusal_goes_to tid part)) (λ w cause. rules.send_keeps before stamp (refusal_goes_to tid part) (messages.VotedAbort tid cause) w) part.causes (with_manager (tm.take_causes tid) work) (rules.part_keeps before stamp tid participant.take_causes causes_left work h)))
    where
      first : (cs : List Cause) → Keeps work (elim cs [ [] ↦ work | cause ∷ more ↦ decide tid outcomes.Abort (Some cause) work ])
      first [] h = h
      first (cause ∷ more) h = told.decided_keeps before stamp tid outcomes.Abort (Some cause) work h

  forgets_keep : (work : Work) (tid : Tid) → Keeps work (try tid forget_rule work)
  forgets_keep work tid = rules.undecided_keeps before stamp tid (forget_rule tid) work (λ part. rules.if_keeps before stamp (is_forgotten part) (forget tid work) work work (λ is. waits_forgot (around before stamp work) tid work.node.manager) (λ is h. h))

  settle_tid_keeps : (work : Work) (tid : Tid) → Keeps work (settle_tid work tid)
  settle_tid_keeps work tid h = forgets_keep (try tid refuse_rule (try tid ready_rule (try tid pass_rule work))) tid (refuses_keep (try tid ready_rule (try tid pass_rule work)) tid (readies_keep (try tid pass_rule work) tid (passes_keep work tid h)))

  settle_keeps : (work : Work) → Keeps work (settle work)
  settle_keeps work = rules.fold_keeps before stamp settle_tid settle_tid_keeps (due_tids work) work

  -- ---- time

  age_keeps : (age : Option ℕ) (work : Work) → Keeps work (age_rule age work)
  age_keeps None work = λ h. h
  age_keeps (Some age) work = rules.fold_keeps before stamp (abort_old age) (λ w tid. told.decided_keeps before stamp tid outcomes.Abort (Some (causes.Old age)) w) (tm.aged age work.node.manager) work

  ticks_keep : (work : Work) → Keeps work (tick_work work)
  ticks_keep work h = of (entered_amid before stamp acts.Tick work (record { counts = λ t peer number. refl; answers = λ server. refl }) h)
    where
      of : Amid before stamp (enter acts.Tick work) → Amid before stamp (tick_work work)
      of k = record { rising = k.rising; each = k.each }

  -- ---- what comes

  message_keeps : (peer : NodeNo) (message : Message) (work : Work) → Keeps work (message_came peer message work)
  message_keeps peer messages.Hello work = λ h. h
  message_keeps peer (messages.Request tid label member number issuer op) work = rules.request_keeps before stamp peer tid label member number op work
  message_keeps peer (messages.Answered tid member number reply) work = rules.reply_keeps before stamp tid member number reply work
  message_keeps peer (messages.AskVote tid) work = told.ask_came_keeps before stamp peer tid work
  message_keeps peer (messages.Covered tid up_to) work = told.closer_keeps before stamp peer tid up_to [] work
  message_keeps peer (messages.VotedYes tid up_to names) work = told.closer_keeps before stamp peer tid up_to names work
  message_keeps peer (messages.VotedAbort tid cause) work = told.refusal_keeps before stamp tid cause work
  message_keeps peer (messages.Tell tid outcome) work = told.tell_keeps before stamp peer tid outcome work
  message_keeps peer (messages.Told tid further) work = told.told_keeps before stamp peer tid further work
  message_keeps peer (messages.Inquire tid) work = told.inquiry_keeps before stamp peer tid work

  command_keeps : (line : ScriptLine) (work : Work) → lookup (is_at (client_cmp line.client)) work.node.commands ≡ None → Keeps work (command_came line work)
  command_keeps line work free h = commanded.obey_keeps before stamp line (with_command line work) in_hand (opened_amid before stamp line work free h)
    where
      in_hand : lookup (is_at (client_cmp line.client)) (insert_entry client_cmp work.node.commands line.client (fresh_command line)) ≡ Some (fresh_command line)
      in_hand = lookup_put client_cmp line.client (fresh_command line) (tied_itself nat_cmp_total line.client.0) work.node.commands

  -- a command of a client that has none in hand, or whatever else
  happens_keep : (event : Event) (work : Work) → IsFree event work.node.commands → Keeps work (happen event work)
  happens_keep (events.Command client line label command) work free = command_keeps (record { client = client; line = line; label = label; command = command }) work free
  happens_keep (events.Received peer message) work free = message_keeps peer message work
  happens_keep events.ServeAll work free = rules.serve_all_keeps before stamp work
  happens_keep (events.PeerRestarted peer old new) work free = told.peer_restarted_keeps before stamp peer old new work
  happens_keep events.Tick work free = λ h. age_keeps work.node.setting.age (tick_work work) (ticks_keep work h)

  -- ---- the whole step

  pub step_keeps : (book : BookValue) (node : NodeValue) (event : Event) (free : ℕ) → IsFree event node.commands → Amid before stamp (work_on node free) → Amid before stamp (step_work node event free)
  step_keeps book node event free comes h =
      rules.fold_keeps before stamp wait_on (commanded.waits_keep before stamp) (waiting_clients (settle (happen event first))) (settle (happen event first))
      (settle_keeps (happen event first) (happens_keep event first (subst (IsFree event) (sym (coming_first stamp book (work_on node free)).commands) comes) (told.begin_incarnation_keeps before stamp (work_on node free) h)))
    where
      first : Work
      first = begin_incarnation (work_on node free)
