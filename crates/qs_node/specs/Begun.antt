-- Commands in two parts: what is looked up, and what is then done.
use Rattle.std.specs.Prelude.{List, Option, Some, None, if◌then◌else◌}
use Rattle.qs_base.specs.declared.identifiers.NodeNo.{NodeNo}
use Rattle.qs_base.specs.declared.identifiers.Tid.{Tid}
use Rattle.qs_engage.specs.Engage.{uncovered}
use Rattle.qs_engage.specs.Nodes.{listed}
use Rattle.qs_ops.specs.declared.answer.Answer.{Answer}
use Rattle.qs_ops.specs.declared.answer.Answer.TheVariants as answers
use Rattle.qs_book_journal.specs.declared.entry.Act.TheVariants as acts
use Rattle.qs_book_journal.specs.declared.script_line.Command.{Command}
use Rattle.qs_book_journal.specs.declared.script_line.ScriptLine.{ScriptLine}
use Rattle.qs_tm.specs.Participant.{is_undecided}
use Rattle.qs_tm.specs.declared.participant.Participant.{Participant}
use Rattle.qs_node_step.specs.State.{NodeValue, Work, part_of}
use Rattle.qs_node_step.specs.Bringing.{enter, answer}
use Rattle.qs_node_step.specs.Serving.{put_label}
use Rattle.qs_node_step.specs.Answering.{kept_outcome}
use Rattle.qs_node_step.specs.Commands.{decided_answer}

-- the manager has begun the transaction: its label is met, its entry stands, and its client is answered
abbrev pub has_begun : ScriptLine → Tid → Work → Work
has_begun line tid work =
    answer line.client answers.Done
    (enter (acts.Begin tid line.label line.client)
    (put_label (record { label = line.label; tid = Some tid; owner = Some line.client }) work))

-- the peers that are to be asked for their votes; none where the transaction is not open here, or was asked for before
abbrev pub peers_of : Participant → Option (List NodeNo)
peers_of part = if part.asked then None else Some (listed (uncovered part.engage))

abbrev pub peers_to_ask : Tid → Work → Option (List NodeNo)
peers_to_ask tid work = elim (part_of tid work) [
  | None ↦ None
  | Some part ↦ if is_undecided part then peers_of part else None
]

-- the answer to a command of the owner, where the outcome is kept
abbrev pub kept_answer : Tid → Command → NodeValue → Option Answer
kept_answer tid command node = elim (kept_outcome tid node) [ None ↦ None | Some decided ↦ Some (decided_answer decided command) ]
