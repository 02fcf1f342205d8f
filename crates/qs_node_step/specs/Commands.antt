-- What clients command: they begin transactions, and as their owners issue requests, ask for commit, and abort.
use Rattle.std.specs.Prelude.{ℕ, Option, Some, None, if◌then◌else◌, true}
use Rattle.std.specs.BTreeMap.{is_at}
use Rattle.qs_base.specs.declared.identifiers.ClientNo.{ClientNo}
use Rattle.qs_base.specs.declared.identifiers.Member.{Member}
use Rattle.qs_base.specs.declared.identifiers.Outcome.TheVariants as outcomes
use Rattle.qs_base.specs.declared.identifiers.Tid.{Tid}
use Rattle.qs_ops.specs.declared.answer.Answer.{Answer}
use Rattle.qs_ops.specs.declared.answer.Answer.TheVariants as answers
use Rattle.qs_ops.specs.declared.answer.Cause.{Cause}
use Rattle.qs_ops.specs.declared.answer.Cause.TheVariants as causes
use Rattle.qs_ops.specs.declared.operation.Op.{Op}
use Rattle.qs_book_journal.specs.declared.entry.Act.TheVariants as acts
use Rattle.qs_book_journal.specs.declared.script_line.Command.{Command}
use Rattle.qs_book_journal.specs.declared.script_line.Command.TheVariants as commands
use Rattle.qs_book_journal.specs.declared.script_line.ScriptLine.{ScriptLine}
use Rattle.qs_tm.specs.Manager as tm
use Rattle.qs_tm.specs.declared.manager.BeginFault.{BeginFault}
use Rattle.qs_tm.specs.declared.manager.BeginFault.TheVariants as faults
use Rattle.qs_tm.specs.declared.participant.Participant.{Participant}
use Rattle.qs_node_kept.specs.declared.kept.Decided.{Decided}
use Rattle.qs_node_step.specs.declared.state.Issued.{Issued}
use Rattle.qs_node_servers.specs.Servers.{client_server}
use Rattle.qs_node_step.specs.State.{Work, with_node, with_manager, with_doings, client_cmp}
use Rattle.qs_node_step.specs.Bringing.{enter, answer}
use Rattle.qs_node_step.specs.Requests.{issue_as, next_number}
use Rattle.qs_node_step.specs.Serving.{put_label}
use Rattle.qs_node_step.specs.Asking.{where_undecided, become_asked}
use Rattle.qs_node_step.specs.Answering.{kept_outcome}
use Rattle.qs_node_step.specs.Deciding.{decide}

-- ---- beginning

-- Event: the machine of this transaction begins.
abbrev pub begin_as : ScriptLine → Tid → Work → Work
begin_as line tid work =
    answer line.client answers.Done
    (enter (acts.Begin tid line.label line.client)
    (put_label (record { label = line.label; tid = Some tid; owner = Some line.client })
    (with_manager (tm.begin line.client) work)))

-- the log has no room for another transaction
-- No event.
abbrev pub refuse_begin : ScriptLine → ℕ → ℕ → Work → Work
refuse_begin line need room work =
    answer line.client (answers.LogFull need room) (put_label (record { label = line.label; tid = None; owner = Some line.client }) work)

abbrev pub begin_or_refuse : ScriptLine → Option BeginFault → Work → Work
begin_or_refuse line None work = begin_as line (tm.next_tid work.node.manager) work
begin_or_refuse line (Some (faults.LogFull need room)) work = refuse_begin line need room work
begin_or_refuse line (Some fault) work = work

abbrev pub begin_command : ScriptLine → Work → Work
begin_command line work = begin_or_refuse line (tm.begin_fault work.room work.node.manager) work

-- ---- requests

-- the command was issued as that request
abbrev pub with_issued : ClientNo → Issued → Work → Work
with_issued client issued work =
    with_node (λ node. record node {
      commands = tm.changed_value (is_at (client_cmp client)) (λ command. record command { issued = Some issued }) node.commands;
    }) work

-- Event: see issue_as.
abbrev pub request_as : ClientNo → Tid → Member → Op → ℕ → Work → Work
request_as client tid member op number work =
    issue_as tid (record { issuer = client_server client; member = member; number = number; count = 0 }) op
    (with_issued client (record { tid = tid; member = member; number = number }) work)

abbrev pub request_command : ClientNo → Tid → Member → Op → Work → Work
request_command client tid member op work = elim (next_number tid member.node work) [
  | None ↦ work
  | Some number ↦ request_as client tid member op number work
]

-- ---- the owner

-- the entry stands, and the step asked for the commit
abbrev pub enter_ask : Tid → Work → Work
enter_ask tid work = with_doings tid (λ doings. record doings { asked = true }) (enter (acts.Ask tid) work)

-- the owner asks for commit, once
-- Event: Ask.
abbrev pub ask : Tid → Participant → Work → Work
ask tid part work = if part.asked then work else become_asked tid part (enter_ask tid work)

abbrev pub open_command : ClientNo → Tid → Command → Work → Work
open_command client tid commands.Commit work = where_undecided tid (ask tid) work
open_command client tid commands.Abort work = where_undecided tid (λ part. decide tid outcomes.Abort (Some causes.Asked)) work
open_command client tid (commands.Request member op) work = request_command client tid member op work
open_command client tid command work = work

-- ---- once the transaction is decided

abbrev pub aborted_answer : Option Cause → Answer
aborted_answer None = answers.Ended
aborted_answer (Some cause) = answers.Aborted cause

abbrev pub outcome_answer : Decided → Answer
outcome_answer decided = elim decided.outcome [ outcomes.Commit ↦ answers.Committed | outcomes.Abort ↦ aborted_answer decided.cause ]

abbrev pub decided_answer : Decided → Command → Answer
decided_answer decided commands.Commit = outcome_answer decided
decided_answer decided commands.Abort = outcome_answer decided
decided_answer decided command = answers.Ended

abbrev pub owner_command : ClientNo → Option Tid → Command → Work → Work
owner_command client None command work = answer client answers.NotBegun work
owner_command client (Some tid) command work = elim (kept_outcome tid work.node) [
  | None ↦ open_command client tid command work
  | Some decided ↦ answer client (decided_answer decided command) work
]
