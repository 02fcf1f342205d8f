-- What comes in a step writes at most the end of a transaction's records, but where a commit is told: commands, messages, restarts of other nodes
-- and time. So do refusal, forgetting, and commands that stayed open.
use Rattle.qs_world_lawful.proofs.Words.{ℕ, Bool, true, false, List, [], ◌∷◌, Option, Some, None, refl, if◌then◌else◌, ⊤, ClientNo, NodeNo, Outcome, Tid, same_node, Command, ScriptLine, KeptLabel, Decided, ticked, Cause, Message, kept_outcome, borrower_command, enter, log, send, ask, begin_as, begin_or_refuse, decided_answer, open_command, owner_command, label_at, put_label, forget_rule, refusal_goes_to, refuse_elsewhere, refuse_home, refuse_rule, send_refusal, Work, change_server, here, with_manager}
use Rattle.qs_world_lawful.proofs.Words.{abort_old, age_rule, command_came, happen, is_owner, labelled, message_came, obey, tick, with_command, end_told, forget, learn_unknown, names_at, take_names, take_outcome, take_told, tell_came, told_at_home, told_came, told_known, told_unknown, Event, is_forgotten, is_undecided, BeginFault, Participant}
use Rattle.qs_base.specs.declared.identifiers.Outcome.TheVariants as outcomes
use Rattle.qs_book_journal.specs.declared.entry.Act.TheVariants as acts
use Rattle.qs_book_journal.specs.declared.script_line.Command.TheVariants as commands
use Rattle.qs_ops.specs.declared.answer.Answer.TheVariants as answers
use Rattle.qs_ops.specs.declared.answer.Cause.TheVariants as causes
use Rattle.qs_packet.specs.declared.message.Message.TheVariants as messages
use Rattle.qs_record.specs.declared.record.Record.TheVariants as records
use Rattle.qs_node_servers.specs.Servers.{timers_no}
use Rattle.qs_node_step.specs.Bringing.{answer}
use Rattle.qs_node_step.specs.Deciding.{decide}
use Rattle.qs_node_step.specs.State.{part_of}
use Rattle.qs_node_step.specs.Telling.{learn}
use Rattle.qs_node_step.specs.declared.event.Event.TheVariants as events
use Rattle.qs_tm.specs.Manager as tm
use Rattle.qs_tm.specs.declared.manager.BeginFault.TheVariants as faults
use Rattle.qs_world_lawful.proofs.LogHappening.{quiet_restarted}
use Rattle.qs_world_lawful.proofs.QuietCommands.{quiet_ask, quiet_ask_came, quiet_borrower, quiet_closer, quiet_inquiry, quiet_learn_unknown, quiet_names, quiet_refusal, quiet_refuse, quiet_request_command, quiet_told_unknown}
use Rattle.qs_world_lawful.proofs.QuietRequests.{quiet_reply, quiet_request, quiet_serve_all}
use Rattle.qs_world_lawful.proofs.Recordless.{quiet_answer, quiet_enter, quiet_fold, quiet_send}
use Rattle.qs_world_lawful.proofs.SaidEnds.{EndsOnly, ends_decide, ends_ended, ends_fold, ends_forget, ends_if, ends_learn, ends_quiet, ends_self, ends_still, ends_then, ends_where}

-- ---- commands

ends_begun : (line : ScriptLine) (tid : Tid) (work : Work) → EndsOnly work (begin_as line tid work)
ends_begun line tid work =
    let begun : Work = with_manager (tm.begin line.client) work in
    let labelled_so : Work = put_label (record { label = line.label; tid = Some tid; owner = Some line.client }) begun in
    let entered : Work = enter (acts.Begin tid line.label line.client) labelled_so in
    ends_then work labelled_so (begin_as line tid work) (ends_still work labelled_so refl refl)
    (ends_then labelled_so entered (begin_as line tid work) (ends_quiet labelled_so entered (quiet_enter (acts.Begin tid line.label line.client) labelled_so refl)) (ends_quiet entered (begin_as line tid work) (quiet_answer line.client answers.Done entered)))

ends_or_refuse : (line : ScriptLine) (o : Option BeginFault) (work : Work) → EndsOnly work (begin_or_refuse line o work)
ends_or_refuse line None work = ends_begun line (tm.next_tid work.node.manager) work
ends_or_refuse line (Some (faults.LogFull need room)) work = ends_quiet work (begin_or_refuse line (Some (faults.LogFull need room)) work) (quiet_refuse line need room work)
ends_or_refuse line (Some (faults.Last number)) work = ends_self work
ends_or_refuse line (Some faults.NoMemory) work = ends_self work

ends_open : (client : ClientNo) (tid : Tid) (command : Command) (work : Work) → EndsOnly work (open_command client tid command work)
ends_open client tid commands.Begin work = ends_self work
ends_open client tid commands.Commit work = ends_where tid (ask tid) work (λ part. ends_quiet work (ask tid part work) (quiet_ask tid part work))
ends_open client tid commands.Abort work = ends_where tid (λ part. decide tid outcomes.Abort (Some causes.Asked)) work (λ part. ends_decide tid (Some causes.Asked) work)
ends_open client tid commands.Take work = ends_self work
ends_open client tid commands.Yield work = ends_self work
ends_open client tid (commands.Request member op) work = ends_quiet work (open_command client tid (commands.Request member op) work) (quiet_request_command client tid member op work)

ends_owner : (client : ClientNo) (o : Option Tid) (command : Command) (work : Work) → EndsOnly work (owner_command client o command work)
ends_owner client None command work = ends_quiet work (owner_command client None command work) (quiet_answer client answers.NotBegun work)
ends_owner client (Some tid) command work = by (kept_outcome tid work.node)
  where
    by : (o : Option Decided) → EndsOnly work (elim o [ None ↦ open_command client tid command work | Some decided ↦ answer client (decided_answer decided command) work ])
    by None = ends_open client tid command work
    by (Some decided) = ends_quiet work (answer client (decided_answer decided command) work) (quiet_answer client (decided_answer decided command) work)

ends_labelled : (client : ClientNo) (begun : KeptLabel) (command : Command) (work : Work) → EndsOnly work (labelled client begun command work)
ends_labelled client begun command work = ends_if (is_owner client begun.owner) work _ _ (ends_owner client begun.tid command work) (by begun.tid)
  where
    by : (o : Option Tid) → EndsOnly work (elim o [ None ↦ work | Some tid ↦ borrower_command client tid command work ])
    by None = ends_self work
    by (Some tid) = ends_quiet work (borrower_command client tid command work) (quiet_borrower client tid command work)

ends_met : (line : ScriptLine) (command : Command) (work : Work) → EndsOnly work (elim (label_at line.label work.node) [ None ↦ work | Some begun ↦ labelled line.client begun command work ])
ends_met line command work = by (label_at line.label work.node)
  where
    by : (o : Option KeptLabel) → EndsOnly work (elim o [ None ↦ work | Some begun ↦ labelled line.client begun command work ])
    by None = ends_self work
    by (Some begun) = ends_labelled line.client begun command work

ends_obey : (line : ScriptLine) (command : Command) (work : Work) → EndsOnly work (obey line command work)
ends_obey line commands.Begin work = ends_or_refuse line (tm.begin_fault work.room work.node.manager) work
ends_obey line commands.Commit work = ends_met line commands.Commit work
ends_obey line commands.Abort work = ends_met line commands.Abort work
ends_obey line commands.Take work = ends_met line commands.Take work
ends_obey line commands.Yield work = ends_met line commands.Yield work
ends_obey line (commands.Request member op) work = ends_met line (commands.Request member op) work

ends_command : (line : ScriptLine) (work : Work) → EndsOnly work (command_came line work)
ends_command line work = ends_then work (with_command line work) (command_came line work) (ends_still work (with_command line work) refl refl) (ends_obey line line.command (with_command line work))

-- ---- an abort that is told

ends_take : (tid : Tid) (work : Work) → EndsOnly work (take_outcome tid outcomes.Abort work)
ends_take tid work = by (part_of tid work)
  where
    by : (o : Option Participant) → EndsOnly work (elim o [ None ↦ learn_unknown tid outcomes.Abort work | Some part ↦ if is_undecided part then learn tid outcomes.Abort part work else work ])
    by None = ends_quiet work (learn_unknown tid outcomes.Abort work) (quiet_learn_unknown tid outcomes.Abort work)
    by (Some part) = ends_if (is_undecided part) work (learn tid outcomes.Abort part work) work (ends_learn tid part work) (ends_self work)

ends_tell : (peer : NodeNo) (tid : Tid) (work : Work) → EndsOnly work (tell_came peer tid outcomes.Abort work)
ends_tell peer tid work =
    let taken : Work = take_outcome tid outcomes.Abort work in
    ends_if (same_node tid.home (here work)) work work _ (ends_self work)
    (ends_then work taken (send peer (messages.Told tid (names_at tid outcomes.Abort work)) taken) (ends_take tid work) (ends_quiet taken (send peer (messages.Told tid (names_at tid outcomes.Abort work)) taken) (quiet_send peer (messages.Told tid (names_at tid outcomes.Abort work)) taken)))

-- ---- what was told is taken in

ends_take_told : (peer : NodeNo) (tid : Tid) (work : Work) → EndsOnly work (take_told peer tid work)
ends_take_told peer tid work =
    let acked : Work = with_manager (tm.acknowledged tid peer) work in
    ends_then work acked (take_told peer tid work) (ends_still work acked refl refl) (by acked (tm.all_acknowledged tid peer work.node.manager))
  where
    by : (acked : Work) (b : Bool) → EndsOnly acked (end_told b tid acked)
    by acked false = ends_self acked
    by acked true =
        let ended : Work = log (records.End tid) acked in
        ends_then acked ended (forget tid ended) (ends_ended tid acked) (ends_forget tid ended)

ends_told : (peer : NodeNo) (tid : Tid) (further : List NodeNo) (work : Work) → EndsOnly work (told_came peer tid further work)
ends_told peer tid further work = ends_if (same_node tid.home (here work)) work (told_at_home peer tid further work) work (by (part_of tid work)) (ends_self work)
  where
    of : (o : Option Outcome) → EndsOnly work (told_known peer tid further o work)
    of None = ends_self work
    of (Some outcomes.Commit) = ends_take_told peer tid work
    of (Some outcomes.Abort) = ends_quiet work (take_names tid further work) (quiet_names tid further work)

    by : (o : Option Participant) → EndsOnly work (elim o [ None ↦ told_unknown peer tid further work | Some part ↦ told_known peer tid further part.outcome work ])
    by None = ends_quiet work (told_unknown peer tid further work) (quiet_told_unknown peer tid further work)
    by (Some part) = of part.outcome

-- ---- what comes, where it is no commit that is told

abbrev pub TellsNone : Event → Type 0
TellsNone (events.Received peer (messages.Tell tid outcomes.Commit)) = ⊥
TellsNone event = ⊤

ends_message : (peer : NodeNo) (message : Message) → TellsNone (events.Received peer message) → (work : Work) → EndsOnly work (message_came peer message work)
ends_message peer messages.Hello none work = ends_self work
ends_message peer (messages.Request tid label member number issuer op) none work = ends_quiet work (message_came peer (messages.Request tid label member number issuer op) work) (quiet_request peer tid label member number op work)
ends_message peer (messages.Answered tid member number reply) none work = ends_quiet work (message_came peer (messages.Answered tid member number reply) work) (quiet_reply tid member number reply work)
ends_message peer (messages.AskVote tid) none work = ends_quiet work (message_came peer (messages.AskVote tid) work) (quiet_ask_came peer tid work)
ends_message peer (messages.Covered tid up_to) none work = ends_quiet work (message_came peer (messages.Covered tid up_to) work) (quiet_closer peer tid up_to [] work)
ends_message peer (messages.VotedYes tid up_to told) none work = ends_quiet work (message_came peer (messages.VotedYes tid up_to told) work) (quiet_closer peer tid up_to told work)
ends_message peer (messages.VotedAbort tid cause) none work = ends_quiet work (message_came peer (messages.VotedAbort tid cause) work) (quiet_refusal tid cause work)
ends_message peer (messages.Tell tid outcomes.Abort) none work = ends_tell peer tid work
ends_message peer (messages.Tell tid outcomes.Commit) none work = absurd none
ends_message peer (messages.Told tid further) none work = ends_told peer tid further work
ends_message peer (messages.Inquire tid) none work = ends_quiet work (message_came peer (messages.Inquire tid) work) (quiet_inquiry peer tid work)

ends_tick : (work : Work) → EndsOnly work (tick work)
ends_tick work =
    let entered : Work = enter acts.Tick work in
    let older : Work = with_manager tm.tick (change_server timers_no (λ value. record value { timers = ticked value.timers }) entered) in
    ends_then work entered (tick work) (ends_quiet work entered (quiet_enter acts.Tick work refl))
    (ends_then entered older (tick work) (ends_still entered older refl refl) (by work.node.setting.age older))
  where
    by : (o : Option ℕ) (w : Work) → EndsOnly w (age_rule o w)
    by None w = ends_self w
    by (Some age) w = ends_fold (abort_old age) (λ v tid. ends_decide tid (Some (causes.Old age)) v) (tm.aged age w.node.manager) w

pub ends_happen : (event : Event) → TellsNone event → (work : Work) → EndsOnly work (happen event work)
ends_happen (events.Command client line label command) none work = ends_command (record { client = client; line = line; label = label; command = command }) work
ends_happen (events.Received peer message) none work = ends_message peer message none work
ends_happen events.ServeAll none work = ends_quiet work (happen events.ServeAll work) (quiet_serve_all work)
ends_happen (events.PeerRestarted peer old new) none work = ends_quiet work (happen (events.PeerRestarted peer old new) work) (quiet_restarted peer old new work)
ends_happen events.Tick none work = ends_tick work

-- ---- refusal and forgetting

pub ends_refuse : (tid : Tid) (part : Participant) (work : Work) → EndsOnly work (refuse_rule tid part work)
ends_refuse tid part work = ends_if part.engage.home work (refuse_home tid part work) (refuse_elsewhere tid part work) (home part.causes) elsewhere
  where
    taken : Work
    taken = with_manager (tm.take_causes tid) work

    elsewhere : EndsOnly work (refuse_elsewhere tid part work)
    elsewhere = ends_then work taken (refuse_elsewhere tid part work) (ends_still work taken refl refl)
        (ends_quiet taken (refuse_elsewhere tid part work) (quiet_fold (send_refusal tid (refusal_goes_to tid part)) (λ w cause. quiet_send (refusal_goes_to tid part) (messages.VotedAbort tid cause) w) part.causes taken))

    home : (causes : List Cause) → EndsOnly work (elim causes [ [] ↦ work | cause ∷ more ↦ decide tid outcomes.Abort (Some cause) work ])
    home [] = ends_self work
    home (cause ∷ more) = ends_decide tid (Some cause) work

pub ends_forgets : (tid : Tid) (part : Participant) (work : Work) → EndsOnly work (forget_rule tid part work)
ends_forgets tid part work = ends_if (is_forgotten part) work (forget tid work) work (ends_forget tid work) (ends_self work)
