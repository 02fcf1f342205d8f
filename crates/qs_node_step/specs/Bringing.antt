-- What a rule brings about: entries, messages, answers and records.
use Rattle.std.specs.Prelude.{ℕ, ◌+◌, ◌-◌, Bool, true, false, not, ◌&&◌, ◌||◌, List, [], ◌∷◌, ◌++◌, fold, Option, Some, None, nat_lt, if◌then◌else◌}
use Rattle.std.specs.Map.{lookup, remove_entry}
use Rattle.std.specs.BTreeMap.{is_at}
use Rattle.qs_base.specs.declared.identifiers.ClientNo.{ClientNo}
use Rattle.qs_base.specs.declared.identifiers.Member.{Member}
use Rattle.qs_base.specs.declared.identifiers.NodeNo.{NodeNo}
use Rattle.qs_base.specs.declared.identifiers.ServerNo.{ServerNo}
use Rattle.qs_base.specs.declared.identifiers.Tid.{Tid}
use Rattle.qs_engage.specs.Nodes.{same_node}
use Rattle.qs_ops.specs.declared.answer.Answer.{Answer}
use Rattle.qs_book_journal.specs.declared.entry.Act.{Act}
use Rattle.qs_book_journal.specs.declared.entry.Act.TheVariants as acts
use Rattle.qs_packet.specs.declared.message.Message.{Message}
use Rattle.qs_record.specs.Grammar.{record_length}
use Rattle.qs_record.specs.declared.record.Record.{Record}
use Rattle.qs_record.specs.declared.record.Record.TheVariants as records
use Rattle.qs_tm.specs.Manager as tm
use Rattle.qs_tm.specs.Manager.{batch_frame}
use Rattle.qs_tm.specs.declared.participant.Participant.{Participant}
use Rattle.qs_node_step.specs.declared.setting.Setting.{Setting}
use Rattle.qs_node_step.specs.State.{Work, here, part_of, with_manager, client_cmp}

-- a member of this node
abbrev pub member_here : Work → ServerNo → Member
member_here work server = record { node = here work; server = server }

abbrev pub enter : Act → Work → Work
enter act work = record work { out = record work.out { entries = work.out.entries ++ act ∷ [] } }

-- ---- messages: to no other node of the run nothing goes

abbrev pub is_other : Setting → NodeNo → Bool
is_other setting node = not (same_node setting.node node) && nat_lt node.0 setting.nodes

abbrev pub send : NodeNo → Message → Work → Work
send to message work =
    if is_other work.node.setting to
    then record work { out = record work.out { messages = work.out.messages ++ record { to = to; message = message } ∷ [] } }
    else work

abbrev pub send_next : Message → Work → NodeNo → Work
send_next message work to = send to message work

abbrev pub send_each : List NodeNo → Message → Work → Work
send_each nodes message work = fold (send_next message) work nodes

-- ---- answers: the open command of that client is answered; nothing where it has none

abbrev pub answer : ClientNo → Answer → Work → Work
answer client said work = elim (lookup (is_at (client_cmp client)) work.node.commands) [
  | None ↦ work
  | Some command ↦ record work {
    node = record work.node { commands = remove_entry (is_at (client_cmp client)) work.node.commands };
    out = record work.out {
      answers = work.out.answers ++ record { client = client; answer = record { line = command.line.line; answer = said } } ∷ [];
      entries = work.out.entries ++ acts.Answer client command.line.line said ∷ [];
    };
  }
]

-- ---- records

abbrev pub tid_of : Record → Tid
tid_of (records.Prepare tid server covers changes) = tid
tid_of (records.Commit tid told) = tid
tid_of (records.Aborted tid) = tid
tid_of (records.End tid) = tid

-- the log is forced in the step of a vote and of a commit
abbrev pub is_forced : Record → Bool
is_forced (records.Prepare tid server covers changes) = true
is_forced (records.Commit tid told) = true
is_forced (records.Aborted tid) = false
is_forced (records.End tid) = false

-- the bytes that it takes in a batch of its own
abbrev pub record_need : Setting → Record → ℕ
record_need setting rec = batch_frame + setting.extra + record_length rec

-- the bytes that are kept from a transaction's first record on
abbrev pub kept_for : Setting → Option Participant → ℕ
kept_for setting None = 0
kept_for setting (Some part) = if part.log.unended then 0 else setting.keep

-- the record is appended
abbrev pub log : Record → Work → Work
log rec work =
    with_manager (tm.logged (tid_of rec) rec) (record work {
      room = work.room - record_need work.node.setting rec - kept_for work.node.setting (part_of (tid_of rec) work);
      out = record work.out { records = work.out.records ++ rec ∷ []; force = work.out.force || is_forced rec };
    })

abbrev pub log_if : Option Record → Work → Work
log_if None work = work
log_if (Some rec) work = log rec work
