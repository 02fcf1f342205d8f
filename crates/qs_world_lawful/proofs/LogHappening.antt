-- What comes in a step keeps what is held of the log: commands, messages, restarts of other nodes and time.
use Rattle.qs_world_lawful.proofs.Words.{◌≡◌, ℕ, Bool, true, false, List, [], Option, Some, None, refl, sym, ap, ◌∙◌, if◌then◌else◌, not, ◌&&◌, ClientNo, NodeNo, Outcome, Tid, listed, same_node, Command, ScriptLine, KeptLabel, Decided, Inv, BookValue, ticked, Message, Record, is_told_again, named_by, is_undecided, is_owed_by, BeginFault, Participant, kept_outcome, borrower_command, enter, send, log, begin_or_refuse, ask, open_command, owner_command, decided_answer, find_gone, is_orphaned_by, inquire}
use Rattle.qs_world_lawful.proofs.Words.{notice_decided, notice_part, notice_tid, peer_restarted, label_at, Work, here, with_manager, with_queues, change_server, is_owner, labelled, obey, with_command, command_came, message_came, abort_old, age_rule, tick, happen, forget, end_told, take_told, take_names, told_unknown, told_known, told_at_home, told_came, take_outcome, learn_unknown, names_at, tell_came, Event, HasOutcome, IsTrueEvent, KeepsLogs, none_is, and_first, some_same, false≢true}
use Rattle.qs_base.specs.declared.identifiers.Outcome.TheVariants as outcomes
use Rattle.qs_ipc.specs.Ipc as ipc
use Rattle.qs_book_journal.specs.declared.entry.Act.TheVariants as acts
use Rattle.qs_book_journal.specs.declared.script_line.Command.TheVariants as commands
use Rattle.qs_ops.specs.declared.answer.Answer.TheVariants as answers
use Rattle.qs_ops.specs.declared.answer.Cause.TheVariants as causes
use Rattle.qs_packet.specs.declared.message.Message.TheVariants as messages
use Rattle.qs_record.specs.declared.record.Record.TheVariants as records
use Rattle.qs_node_servers.specs.Servers.{timers_no}
use Rattle.qs_tm.specs.Manager as tm
use Rattle.qs_tm.specs.Outcomes as outcome_rules
use Rattle.qs_tm.specs.Outcomes.{is_abort}
use Rattle.qs_tm.specs.Participant as participant
use Rattle.qs_tm.specs.declared.manager.BeginFault.TheVariants as faults
use Rattle.qs_node_step.specs.Bringing.{answer}
use Rattle.qs_node_step.specs.Deciding.{decide}
use Rattle.qs_node_step.specs.State.{part_of}
use Rattle.qs_node_step.specs.Telling.{learn}
use Rattle.qs_node_step.specs.declared.event.Event.TheVariants as events
use Rattle.qs_world_lawful.specs.Logged.{IsTrue}
use Rattle.qs_world_lawful.proofs.LogBeginning.{by_begin_as}
use Rattle.qs_world_lawful.proofs.LogDecisions.{by_decide}
use Rattle.qs_world_lawful.proofs.LogEndings.{by_learn_rule}
use Rattle.qs_world_lawful.proofs.LogForgetting.{by_forget, by_end_record, changed}
use Rattle.qs_world_lawful.proofs.LogKeeps.{keeps_self, keeps_then, by_quiet}
use Rattle.qs_world_lawful.proofs.LogMarks.{changes_part}
use Rattle.qs_world_lawful.proofs.LogSettling.{keeps_if, keeps_fold, keeps_where}
use Rattle.qs_world_lawful.proofs.Marks.{knows_self}
use Rattle.qs_world_lawful.proofs.QuietCommands.{quiet_ask_came, quiet_closer, quiet_block, quiet_refusal, quiet_inquiry, quiet_names, quiet_told_unknown, quiet_learn_unknown, quiet_request_command, quiet_refuse, quiet_ask, quiet_borrower}
use Rattle.qs_world_lawful.proofs.QuietRequests.{quiet_node, quiet_reply, quiet_request, quiet_serve_all}
use Rattle.qs_world_lawful.proofs.Recordless.{Quiet, quiet_self, quiet_then, quiet_if, quiet_elim, quiet_fold, quiet_enter, quiet_manager, quiet_part, quiet_send, quiet_answer}

-- ---- another node restarts

quiet_inquire : (peer : NodeNo) (new : ℕ) (tid : Tid) (part : Participant) (work : Work) → Quiet work (inquire peer new tid part work)
quiet_inquire peer new tid part work = quiet_if (not part.engage.home && is_orphaned_by peer new tid part) work _ work (quiet_send tid.home (messages.Inquire tid) work) (quiet_self work)

quiet_decided : (peer : NodeNo) (tid : Tid) (outcome : Outcome) (part : Participant) (work : Work) → Quiet work (notice_decided peer tid outcome part work)
quiet_decided peer tid outcome part work = quiet_if part.engage.home work _ _
    (quiet_if (is_told_again peer part) work _ work (quiet_send peer (messages.Tell tid outcome) work) (quiet_self work))
    (quiet_if (is_abort part.outcome && same_node tid.home peer) work _ work (quiet_send peer (messages.Told tid (listed (named_by tid.home part))) work) (quiet_self work))

quiet_noticed : (peer : NodeNo) (old new : ℕ) (tid : Tid) (part : Participant) (work : Work) → Quiet work (notice_part peer old new tid part work)
quiet_noticed peer old new tid part work = by part.outcome
  where
    by : (o : Option Outcome) → Quiet work (elim o [ None ↦ inquire peer new tid part (find_gone peer old tid part work) | Some outcome ↦ notice_decided peer tid outcome part work ])
    by None = quiet_then work (find_gone peer old tid part work) (inquire peer new tid part (find_gone peer old tid part work))
        (quiet_if (is_owed_by peer part) work _ work (quiet_block tid (causes.Gone peer old) work) (quiet_self work)) (quiet_inquire peer new tid part (find_gone peer old tid part work))
    by (Some outcome) = quiet_decided peer tid outcome part work

quiet_notice : (peer : NodeNo) (old new : ℕ) (work : Work) (tid : Tid) → Quiet work (notice_tid peer old new work tid)
quiet_notice peer old new work tid =
    let anew : Work = with_manager (tm.restarted tid peer) work in
    quiet_elim (part_of tid work) work work _ (quiet_self work)
    (λ part. quiet_then work anew (notice_part peer old new tid part anew) (quiet_part tid (participant.restarted peer) work (λ p. record { log = refl; outcome = refl; involved = λ is. is })) (quiet_noticed peer old new tid part anew))

pub quiet_restarted : (peer : NodeNo) (old new : ℕ) (work : Work) → Quiet work (peer_restarted peer old new work)
quiet_restarted peer old new work =
    let marked : Work = with_queues (ipc.mark_queues peer) work in
    quiet_then work marked (peer_restarted peer old new work) (quiet_node work marked refl refl refl) (quiet_fold (notice_tid peer old new) (quiet_notice peer old new) (tm.concerned peer work.node.manager) marked)

module _ (stamp : ℕ) (before : BookValue) (i : Inv before) (disk waiting : List Record) where
  abbrev Keeps : Work → Work → Type 0
  Keeps work new = KeepsLogs stamp before disk waiting work new

  -- ---- commands

  by_begin : (line : ScriptLine) (o : Option BeginFault) (work : Work) → Keeps work (begin_or_refuse line o work)
  by_begin line None work = by_begin_as stamp before i disk waiting line work
  by_begin line (Some (faults.LogFull need room)) work = by_quiet stamp before i disk waiting work (begin_or_refuse line (Some (faults.LogFull need room)) work) (quiet_refuse line need room work)
  by_begin line (Some (faults.Last number)) work = keeps_self stamp before i disk waiting work
  by_begin line (Some faults.NoMemory) work = keeps_self stamp before i disk waiting work

  by_open : (client : ClientNo) (tid : Tid) (command : Command) (work : Work) → Keeps work (open_command client tid command work)
  by_open client tid commands.Begin work = keeps_self stamp before i disk waiting work
  by_open client tid commands.Commit work = keeps_where stamp before i disk waiting tid (ask tid) work (λ part known undecided. by_quiet stamp before i disk waiting work (ask tid part work) (quiet_ask tid part work))
  by_open client tid commands.Abort work = keeps_where stamp before i disk waiting tid (λ part. decide tid outcomes.Abort (Some causes.Asked)) work (λ part known undecided. by_decide stamp before i disk waiting tid (Some causes.Asked) work outcomes.Abort)
  by_open client tid commands.Take work = keeps_self stamp before i disk waiting work
  by_open client tid commands.Yield work = keeps_self stamp before i disk waiting work
  by_open client tid (commands.Request member op) work = by_quiet stamp before i disk waiting work (open_command client tid (commands.Request member op) work) (quiet_request_command client tid member op work)

  by_owner : (client : ClientNo) (o : Option Tid) (command : Command) (work : Work) → Keeps work (owner_command client o command work)
  by_owner client None command work = by_quiet stamp before i disk waiting work (owner_command client None command work) (quiet_answer client answers.NotBegun work)
  by_owner client (Some tid) command work = by (kept_outcome tid work.node)
    where
      by : (o : Option Decided) → Keeps work (elim o [ None ↦ open_command client tid command work | Some decided ↦ answer client (decided_answer decided command) work ])
      by None = by_open client tid command work
      by (Some decided) = by_quiet stamp before i disk waiting work (answer client (decided_answer decided command) work) (quiet_answer client (decided_answer decided command) work)

  by_labelled : (client : ClientNo) (begun : KeptLabel) (command : Command) (work : Work) → Keeps work (labelled client begun command work)
  by_labelled client begun command work = keeps_if stamp before i disk waiting (is_owner client begun.owner) work _ _ (by_owner client begun.tid command work) (by begun.tid)
    where
      by : (o : Option Tid) → Keeps work (elim o [ None ↦ work | Some tid ↦ borrower_command client tid command work ])
      by None = keeps_self stamp before i disk waiting work
      by (Some tid) = by_quiet stamp before i disk waiting work (borrower_command client tid command work) (quiet_borrower client tid command work)

  by_met : (line : ScriptLine) (command : Command) (work : Work) → Keeps work (elim (label_at line.label work.node) [ None ↦ work | Some begun ↦ labelled line.client begun command work ])
  by_met line command work = by (label_at line.label work.node)
    where
      by : (o : Option KeptLabel) → Keeps work (elim o [ None ↦ work | Some begun ↦ labelled line.client begun command work ])
      by None = keeps_self stamp before i disk waiting work
      by (Some begun) = by_labelled line.client begun command work

  by_obey : (line : ScriptLine) (command : Command) (work : Work) → Keeps work (obey line command work)
  by_obey line commands.Begin work = by_begin line (tm.begin_fault work.room work.node.manager) work
  by_obey line commands.Commit work = by_met line commands.Commit work
  by_obey line commands.Abort work = by_met line commands.Abort work
  by_obey line commands.Take work = by_met line commands.Take work
  by_obey line commands.Yield work = by_met line commands.Yield work
  by_obey line (commands.Request member op) work = by_met line (commands.Request member op) work

  by_command : (line : ScriptLine) (work : Work) → Keeps work (command_came line work)
  by_command line work = keeps_then stamp before i disk waiting work (with_command line work) (command_came line work)
      (by_quiet stamp before i disk waiting work (with_command line work) (quiet_node work (with_command line work) refl refl refl)) (by_obey line line.command (with_command line work))

  -- ---- outcomes that are told

  by_take_outcome : (tid : Tid) (outcome : Outcome) (work : Work) → HasOutcome before tid outcome → Keeps work (take_outcome tid outcome work)
  by_take_outcome tid outcome work told = by (part_of tid work) refl
    where
      undecided : (part : Participant) → is_undecided part ≡ true → part.outcome ≡ None
      undecided part is = none_is part.outcome is

      of : (part : Participant) → part_of tid work ≡ Some part → (b : Bool) → is_undecided part ≡ b → Keeps work (if b then learn tid outcome part work else work)
      of part known true is = by_learn_rule stamp before i disk waiting tid work part known (undecided part is) outcome told
      of part known false is = keeps_self stamp before i disk waiting work

      by : (o : Option Participant) → part_of tid work ≡ o → Keeps work (elim o [ None ↦ learn_unknown tid outcome work | Some part ↦ if is_undecided part then learn tid outcome part work else work ])
      by None is = by_quiet stamp before i disk waiting work (learn_unknown tid outcome work) (quiet_learn_unknown tid outcome work)
      by (Some part) is = of part is (is_undecided part) refl

  by_tell : (peer : NodeNo) (tid : Tid) (outcome : Outcome) (work : Work) → HasOutcome before tid outcome → Keeps work (tell_came peer tid outcome work)
  by_tell peer tid outcome work told =
      let taken : Work = take_outcome tid outcome work in
      keeps_if stamp before i disk waiting (same_node tid.home (here work)) work work _ (keeps_self stamp before i disk waiting work)
      (keeps_then stamp before i disk waiting work taken (send peer (messages.Told tid (names_at tid outcome work)) taken) (by_take_outcome tid outcome work told)
      (by_quiet stamp before i disk waiting taken (send peer (messages.Told tid (names_at tid outcome work)) taken) (quiet_send peer (messages.Told tid (names_at tid outcome work)) taken)))

  -- the home ends what all took in
  by_take_told : (peer : NodeNo) (tid : Tid) (work : Work) → Keeps work (take_told peer tid work)
  by_take_told peer tid work = keeps_then stamp before i disk waiting work acked (take_told peer tid work) (by_quiet stamp before i disk waiting work acked quiet_acked) (by (part_of tid work) refl (tm.all_acknowledged tid peer work.node.manager) refl)
    where
      acked : Work
      acked = with_manager (tm.acknowledged tid peer) work

      quiet_acked : Quiet work (with_manager (tm.acknowledged tid peer) work)
      quiet_acked = quiet_part tid (outcome_rules.acknowledged peer) work (λ p. record { log = refl; outcome = refl; involved = λ is. is })

      told_is : (o : Option Participant) → (elim o [ None ↦ false | Some part ↦ outcome_rules.is_all_told (outcome_rules.acknowledged peer part) ]) ≡ true → (part : Participant) × (o ≡ Some part) × (part.log.listed ≡ true)
      told_is None e = absurd (cc e)
      told_is (Some part) e = (part, refl, and_first part.log.listed _ e)

      by : (o : Option Participant) → part_of tid work ≡ o → (b : Bool) → tm.all_acknowledged tid peer work.node.manager ≡ b → Keeps (with_manager (tm.acknowledged tid peer) work) (end_told b tid (with_manager (tm.acknowledged tid peer) work))
      by o at false is = keeps_self stamp before i disk waiting (with_manager (tm.acknowledged tid peer) work)
      by o at true is =
          let w : Work = with_manager (tm.acknowledged tid peer) work in
          let t : (part : Participant) × (part_of tid work ≡ Some part) × (part.log.listed ≡ true) = told_is (part_of tid work) is in
          let known : part_of tid w ≡ Some (outcome_rules.acknowledged peer t.0) = (changes_part tid (outcome_rules.acknowledged peer) work.node.manager t.0 t.1).now in
          let ended : Work = log (records.End tid) w in
          keeps_then stamp before i disk waiting w ended (forget tid ended) (by_end_record stamp before i disk waiting tid w (outcome_rules.acknowledged peer t.0) known t.2)
          (by_forget stamp before i disk waiting tid ended (λ h q there prepared.
          false≢true (ap (λ (p : Participant). p.log.prepared) (some_same (sym (changed stamp before i disk waiting tid w (outcome_rules.acknowledged peer t.0) known t.2).now ∙ there)) ∙ prepared)))

  by_told : (peer : NodeNo) (tid : Tid) (further : List NodeNo) (work : Work) → Keeps work (told_came peer tid further work)
  by_told peer tid further work = keeps_if stamp before i disk waiting (same_node tid.home (here work)) work (told_at_home peer tid further work) work (by (part_of tid work)) (keeps_self stamp before i disk waiting work)
    where
      of : (o : Option Outcome) → Keeps work (told_known peer tid further o work)
      of None = keeps_self stamp before i disk waiting work
      of (Some outcomes.Commit) = by_take_told peer tid work
      of (Some outcomes.Abort) = by_quiet stamp before i disk waiting work (take_names tid further work) (quiet_names tid further work)

      by : (o : Option Participant) → Keeps work (elim o [ None ↦ told_unknown peer tid further work | Some part ↦ told_known peer tid further part.outcome work ])
      by None = by_quiet stamp before i disk waiting work (told_unknown peer tid further work) (quiet_told_unknown peer tid further work)
      by (Some part) = of part.outcome

  by_message : (peer : NodeNo) (message : Message) (work : Work) → IsTrue before message → Keeps work (message_came peer message work)
  by_message peer messages.Hello work is = keeps_self stamp before i disk waiting work
  by_message peer (messages.Request tid label member number issuer op) work is = by_quiet stamp before i disk waiting work (message_came peer (messages.Request tid label member number issuer op) work) (quiet_request peer tid label member number op work)
  by_message peer (messages.Answered tid member number reply) work is = by_quiet stamp before i disk waiting work (message_came peer (messages.Answered tid member number reply) work) (quiet_reply tid member number reply work)
  by_message peer (messages.AskVote tid) work is = by_quiet stamp before i disk waiting work (message_came peer (messages.AskVote tid) work) (quiet_ask_came peer tid work)
  by_message peer (messages.Covered tid up_to) work is = by_quiet stamp before i disk waiting work (message_came peer (messages.Covered tid up_to) work) (quiet_closer peer tid up_to [] work)
  by_message peer (messages.VotedYes tid up_to told) work is = by_quiet stamp before i disk waiting work (message_came peer (messages.VotedYes tid up_to told) work) (quiet_closer peer tid up_to told work)
  by_message peer (messages.VotedAbort tid cause) work is = by_quiet stamp before i disk waiting work (message_came peer (messages.VotedAbort tid cause) work) (quiet_refusal tid cause work)
  by_message peer (messages.Tell tid outcome) work is = by_tell peer tid outcome work is
  by_message peer (messages.Told tid further) work is = by_told peer tid further work
  by_message peer (messages.Inquire tid) work is = by_quiet stamp before i disk waiting work (message_came peer (messages.Inquire tid) work) (quiet_inquiry peer tid work)

  -- ---- time

  by_age : (o : Option ℕ) (work : Work) → Keeps work (age_rule o work)
  by_age None work = keeps_self stamp before i disk waiting work
  by_age (Some age) work = keeps_fold stamp before i disk waiting (abort_old age) (λ w tid. by_decide stamp before i disk waiting tid (Some (causes.Old age)) w outcomes.Abort) (tm.aged age work.node.manager) work

  by_tick : (work : Work) → Keeps work (tick work)
  by_tick work =
      let entered : Work = enter acts.Tick work in
      let changed : Work = change_server timers_no (λ value. record value { timers = ticked value.timers }) entered in
      let older : Work = with_manager tm.tick changed in
      keeps_then stamp before i disk waiting work older (tick work)
      (by_quiet stamp before i disk waiting work older (quiet_then work entered older (quiet_enter acts.Tick work refl)
      (quiet_then entered changed older (quiet_node entered changed refl refl refl) (quiet_manager tm.tick changed (record { rises = λ is. is; marks = (knows_self changed.node.manager).marks })))))
      (by_age work.node.setting.age older)

  -- ---- what comes

  pub by_happen : (event : Event) (work : Work) → IsTrueEvent before event → Keeps work (happen event work)
  by_happen (events.Command client line label command) work is = by_command (record { client = client; line = line; label = label; command = command }) work
  by_happen (events.Received peer message) work is = by_message peer message work is
  by_happen events.ServeAll work is = by_quiet stamp before i disk waiting work (happen events.ServeAll work) (quiet_serve_all work)
  by_happen (events.PeerRestarted peer old new) work is = by_quiet stamp before i disk waiting work (happen (events.PeerRestarted peer old new) work) (quiet_restarted peer old new work)
  by_happen events.Tick work is = by_tick work
