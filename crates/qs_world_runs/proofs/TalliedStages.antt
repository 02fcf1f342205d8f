-- Each stage of a step to which nothing comes from another node leaves what was served and what waits within the numbers that were given.
use Rattle.qs_world_runs.proofs.Words.{◌≡◌, ℕ, ◌&&◌, not, Bool, true, false, List, [], ◌∷◌, fold, Option, Some, None, refl, subst, is_at, lookup, if◌then◌else◌, ClientNo, NodeNo, ServerNo, Tid, release_of, listed, Command, after_vote, changes_in, vote_of, Cause, Note, Vote, server_at, kept_outcome, is_aborted, answer, member_here, send, decided_answer, end_members, give_notices, begin_incarnation, known_tids, resume_home, resume_part, resume_tid, label_at, answer_superior, due_tids}
use Rattle.qs_world_runs.proofs.Words.{forget_rule, is_busy, is_pass_due, is_put_off, is_quiet, may_answer, pass_rule, ready, ready_rule, refusal_goes_to, refuse_elsewhere, refuse_home, refuse_rule, say_yes, send_refusal, settle, settle_tid, try, Work, change_server, client_cmp, doings_of, here, with_doings, with_manager, with_node, work_on, abort_old, age_rule, answer_waiting, borrower_waits, happen, is_owner, owner_waits, step_work, wait_command, wait_on, waiting_clients, waits_at, forget}
use Rattle.qs_world_runs.proofs.Words.{record_learnt, change_count, due_votes, enter_vote, issue_note, log_vote, owes_note, served_count, vote_frame, vote_next, vote_pass, vote_with, Event, Issued, told_with_own, is_forgotten, is_undecided, needs_pass, Participant, HasNodeFacts, AreTallied, IsTallied, NoneBesides, tally_of, waits_in, and_parts}
use Rattle.qs_world_lawful.specs.GivenStep.{tick_work}
use Rattle.qs_base.specs.declared.identifiers.Outcome.{Outcome}
use Rattle.qs_base.specs.declared.identifiers.Outcome.TheVariants as outcomes
use Rattle.qs_ipc.specs.Ipc as ipc
use Rattle.qs_ops.specs.declared.answer.Answer.TheVariants as answers
use Rattle.qs_ops.specs.declared.answer.Cause.TheVariants as causes
use Rattle.qs_ops.specs.declared.vote.Vote.TheVariants as votes
use Rattle.qs_packet.specs.declared.message.Message.TheVariants as messages
use Rattle.qs_record.specs.declared.record.Record.TheVariants as records
use Rattle.qs_node_servers.specs.Servers.{audit_no}
use Rattle.qs_node_step.specs.Deciding.{decide, decide_commit}
use Rattle.qs_node_step.specs.State.{NodeValue, part_of}
use Rattle.qs_node_step.specs.Voting.{note_text}
use Rattle.qs_node_step.specs.declared.event.Event.TheVariants as events
use Rattle.qs_tm.specs.Manager as tm
use Rattle.qs_tm.specs.Members as members
use Rattle.qs_tm.specs.Participant as participant
use Rattle.qs_world_refine.proofs.Others.{forget_queues_leave}
use Rattle.qs_world_lawful.proofs.FactsStages as facts_stages
use Rattle.qs_world_runs.proofs.TalliedCommands.{borrower_keeps, command_keeps}
use Rattle.qs_world_runs.proofs.TalliedParts.{forget_tallied, tick_tallied}
use Rattle.qs_world_runs.proofs.TalliedRules as rules
use Rattle.qs_world_runs.proofs.TalliedRules.{plain_still, voted_still}
use Rattle.qs_base_lemmas.proofs.Tests.{none_is}

-- ---- the vote pass, of a transaction of which numbers were given

module _ (W : Tid → Type 0) (tid : Tid) (its : W tid) where
  vote_next_keeps : (work : Work) (server : ServerNo) → rules.Keeps W work (vote_next tid work server)
  vote_next_keeps work server = rules.if_keeps W (owes_note tid server work) (issue_note tid work.node.setting.audit work) (vote_with tid server ballot work) work (λ is. note work.node.setting.audit) (λ is. voted ballot)
    where
      ballot : Vote
      ballot = vote_of (server_at work.node.servers server) tid work.room (vote_frame work)

      note : (o : Option NodeNo) → rules.Keeps W work (issue_note tid o work)
      note None h = h
      note (Some node) h = rules.issue_keeps W tid members.files_no (record { node = node; server = audit_no }) (Note (note_text tid (here work) (change_count tid work.node))) (change_count tid work.node) work (h.besides tid its) h

      entered : (b : Vote) → rules.Keeps W work (enter_vote tid server b work)
      entered b h = rules.part_keeps W tid (participant.voted (member_here work server) b (served_count tid server work)) (change_server server (λ value. after_vote value tid b) work) (voted_still (member_here work server) b (served_count tid server work)) h

      voted : (b : Vote) → rules.Keeps W work (log_vote b tid server (enter_vote tid server b work))
      voted (votes.Abort reason) h = entered (votes.Abort reason) h
      voted votes.ReadOnly h = entered votes.ReadOnly h
      voted votes.Volatile h = entered votes.Volatile h
      voted votes.Recoverable h = rules.log_keeps W (records.Prepare tid server (served_count tid server (enter_vote tid server votes.Recoverable work)) (changes_in (server_at (enter_vote tid server votes.Recoverable work).node.servers server) tid))
          (with_doings tid (λ doings. record doings { prepared = true }) (enter_vote tid server votes.Recoverable work)) (entered votes.Recoverable h)

  pass_keeps : (work : Work) → rules.Keeps W work (vote_pass tid work)
  pass_keeps work h = rules.fold_keeps W (vote_next tid) vote_next_keeps (due_votes tid work) (end_members tid work) (rules.ended_keeps W tid work h)

-- ---- the whole step

abbrev Keeps : Work → Work → Type 0
Keeps work new = rules.Keeps NoneBesides work new

abbrev N : Tid → Type 0
N = NoneBesides

none_of : (part : Participant) → is_undecided part ≡ true → part.outcome ≡ None
none_of part is = none_is part.outcome is

-- a pass is due of what is asked, at its home
passes_keep : (work : Work) (tid : Tid) → Keeps work (try tid pass_rule work)
passes_keep work tid = rules.undecided_keeps N tid (pass_rule tid) work (λ part known open_now. rules.if_keeps N (is_pass_due tid part work) (vote_pass tid work) work work (λ is h. due part known open_now is h) (λ is h. h))
  where
    due : (part : Participant) → part_of tid work ≡ Some part → is_undecided part ≡ true → is_pass_due tid part work ≡ true → Keeps work (vote_pass tid work)
    due part known open_now is h = back (pass_keeps (λ k. tid ≡ k) tid refl work (record { in_inc = h.in_inc; rising = h.rising; each = h.each; runs = h.runs; asked = h.asked; given = h.given; besides = λ k e. subst (λ (x : Tid). IsTallied x (tally_of work.node)) e it }))
      where
        asked : part.asked ≡ true
        asked = (and_parts part.asked (not (is_busy tid work.node part)) (and_parts (part.asked && not (is_busy tid work.node part)) (needs_pass part && not (is_put_off (doings_of tid work))) is).0).0

        it : IsTallied tid (tally_of work.node)
        it = h.runs tid part known (h.asked tid part known asked) (none_of part open_now)

        back : AreTallied (λ (k : Tid). tid ≡ k) (tally_of (vote_pass tid work).node) → AreTallied N (tally_of (vote_pass tid work).node)
        back g = record { in_inc = g.in_inc; rising = g.rising; each = g.each; runs = g.runs; asked = g.asked; given = g.given; besides = λ k w. absurd w }

readies_keep : (work : Work) (tid : Tid) → Keeps work (try tid ready_rule work)
readies_keep work tid = rules.undecided_keeps N tid (ready_rule tid) work (λ part known open_now. rules.if_keeps N (may_answer tid part work) (ready tid part work) work work
    (λ is. rules.if_keeps N part.engage.home (if is_quiet (doings_of tid work) then decide_commit tid work else work) (answer_superior tid part work) work
    (λ home. rules.if_keeps N (is_quiet (doings_of tid work)) (decide_commit tid work) work work (λ quiet. rules.commit_keeps N tid work) (λ quiet h. h))
    (λ home. rules.elim_keeps N (release_of part.engage) work (λ superior. say_yes tid part superior work) work (λ h. h)
    (λ superior to h. rules.send_keeps N superior.0 (messages.VotedYes tid superior.1 (listed (told_with_own (here work) part))) (with_manager (tm.released tid) work)
    (rules.part_keeps N tid participant.released work (plain_still participant.released (λ p. refl) (λ p. refl) (λ p. refl) (λ p. refl)) h)))) (λ is h. h))

refuses_keep : (work : Work) (tid : Tid) → Keeps work (try tid refuse_rule work)
refuses_keep work tid = rules.undecided_keeps N tid (refuse_rule tid) work (λ part known open_now. rules.if_keeps N part.engage.home (refuse_home tid part work) (refuse_elsewhere tid part work) work (λ home. first part.causes)
    (λ home h. rules.fold_keeps N (send_refusal tid (refusal_goes_to tid part)) (λ w cause. rules.send_keeps N (refusal_goes_to tid part) (messages.VotedAbort tid cause) w) part.causes (with_manager (tm.take_causes tid) work)
    (rules.part_keeps N tid participant.take_causes work (plain_still participant.take_causes (λ p. refl) (λ p. refl) (λ p. refl) (λ p. refl)) h)))
  where
    first : (cs : List Cause) → Keeps work (elim cs [ [] ↦ work | cause ∷ more ↦ decide tid outcomes.Abort (Some cause) work ])
    first [] h = h
    first (cause ∷ more) h = rules.decided_keeps N tid outcomes.Abort (Some cause) work h

forget_keeps : (tid : Tid) (work : Work) → Keeps work (forget tid work)
forget_keeps tid work = forget_tallied N tid (tally_of work.node) (λ k s. same k s (ipc.waits tid work.node.queues))
  where
    same : (k : Tid) (s : ℕ) (b : Bool) → waits_in k (if b then work.node.queues else ipc.forget tid work.node.queues) s ≡ waits_in k work.node.queues s
    same k s true = refl
    same k s false = (forget_queues_leave k tid work).node.around.waits s

forgets_keep : (work : Work) (tid : Tid) → Keeps work (try tid forget_rule work)
forgets_keep work tid = rules.undecided_keeps N tid (forget_rule tid) work (λ part known open_now. rules.if_keeps N (is_forgotten part) (forget tid work) work work (λ is. forget_keeps tid work) (λ is h. h))

settle_tid_keeps : (work : Work) (tid : Tid) → Keeps work (settle_tid work tid)
settle_tid_keeps work tid h = forgets_keep (try tid refuse_rule (try tid ready_rule (try tid pass_rule work))) tid (refuses_keep (try tid ready_rule (try tid pass_rule work)) tid (readies_keep (try tid pass_rule work) tid (passes_keep work tid h)))

settle_keeps : (work : Work) → Keeps work (settle work)
settle_keeps work = rules.fold_keeps N settle_tid settle_tid_keeps (due_tids work) work

-- ---- commands that stayed open

waits_keep : (work : Work) (client : ClientNo) → Keeps work (wait_on work client)
waits_keep work client = rules.elim_keeps N (lookup (is_at (client_cmp client)) work.node.commands) work (λ command. wait_command client command work) work (λ h. h)
    (λ command is. rules.elim_keeps N (label_at command.line.label work.node) work (λ begun. waits_at client command begun work) work (λ h. h)
    (λ begun of. rules.if_keeps N (is_owner client begun.owner) (owner_waits client begun.tid command.line.command work) (borrower_waits client command.issued begun.tid command.line.command work) work
    (λ own. owners command.line.command begun.tid) (λ own. borrowers command.line.command command.issued begun.tid)))
  where
    owners : (c : Command) (o : Option Tid) → Keeps work (owner_waits client o c work)
    owners c None = λ h. h
    owners c (Some tid) = rules.elim_keeps N (kept_outcome tid work.node) work (λ decided. answer client (decided_answer decided c) work) work (λ h. h) (λ decided is. rules.answer_keeps N client (decided_answer decided c) work)

    borrowers : (c : Command) (i : Option Issued) (o : Option Tid) → Keeps work (borrower_waits client i o c work)
    borrowers c (Some issued) o = rules.if_keeps N (is_aborted issued.tid work.node) (answer client answers.Ended work) work work (λ is. rules.answer_keeps N client answers.Ended work) (λ is h. h)
    borrowers c None None = λ h. h
    borrowers c None (Some tid) = borrower_keeps N client tid c work

answers_keep : (work : Work) → Keeps work (answer_waiting work)
answers_keep work = rules.fold_keeps N wait_on waits_keep (waiting_clients work) work

-- ---- the first step of an incarnation

resume_keeps : (work : Work) (tid : Tid) → Keeps work (resume_tid work tid)
resume_keeps work tid = rules.elim_keeps N (part_of tid work) work (λ part. resume_part tid part work) work (λ h. h) (λ part known. of part part.outcome)
  where
    home : (part : Participant) (o : Outcome) → Keeps work (resume_home tid part o work)
    home part outcomes.Commit = rules.send_each_keeps N (listed part.tell) (messages.Tell tid outcomes.Commit) work
    home part outcomes.Abort = λ h. rules.log_if_keeps N (record_learnt tid outcomes.Abort part) (give_notices tid outcomes.Abort work) (rules.noticed_keeps N tid outcomes.Abort work h)

    of : (part : Participant) (o : Option Outcome) → Keeps work (elim o [ None ↦ send tid.home (messages.Inquire tid) work | Some outcome ↦ resume_home tid part outcome work ])
    of part None = rules.send_keeps N tid.home (messages.Inquire tid) work
    of part (Some outcome) = home part outcome

begin_incarnation_keeps : (work : Work) → Keeps work (begin_incarnation work)
begin_incarnation_keeps work = rules.if_keeps N work.node.is_first (fold resume_tid (with_node (λ node. record node { is_first = false }) work) (known_tids work)) work work
    (λ is h. rules.fold_keeps N resume_tid resume_keeps (known_tids work) (with_node (λ node. record node { is_first = false }) work) h) (λ is h. h)

-- ---- what comes, where nothing comes from another node

pub data IsOwnEvent : Event → Type 0 where
  commanded : (client : ClientNo) (line : ℕ) (label : List ℕ) (command : Command) → IsOwnEvent (events.Command client line label command)
  serves : IsOwnEvent events.ServeAll
  ticks : IsOwnEvent events.Tick

age_keeps : (age : Option ℕ) (work : Work) → Keeps work (age_rule age work)
age_keeps None work = λ h. h
age_keeps (Some age) work = rules.fold_keeps N (abort_old age) (λ w tid. rules.decided_keeps N tid outcomes.Abort (Some (causes.Old age)) w) (tm.aged age work.node.manager) work

happens_keep : (event : Event) (work : Work) → IsOwnEvent event → HasNodeFacts work.node → Keeps work (happen event work)
happens_keep _ work (commanded client line label command) facts = command_keeps N (record { client = client; line = line; label = label; command = command }) work facts
happens_keep _ work serves facts = rules.serve_all_keeps N work
happens_keep _ work ticks facts = λ h. age_keeps work.node.setting.age (tick_work work) (tick_tallied N (tally_of work.node) h)

pub step_tallied : (node : NodeValue) (event : Event) (free : ℕ) → IsOwnEvent event → HasNodeFacts node → AreTallied N (tally_of node) → AreTallied N (tally_of (step_work node event free).node)
step_tallied node event free own facts h =
    let first : Work = begin_incarnation (work_on node free) in
    answers_keep (settle (happen event first)) (settle_keeps (happen event first) (happens_keep event first own (facts_stages.begin_incarnation_keeps (work_on node free) facts) (begin_incarnation_keeps (work_on node free) h)))
