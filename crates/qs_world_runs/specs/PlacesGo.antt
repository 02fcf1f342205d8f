-- From a stage of a step to the next: what all places hold goes on, or the transaction is doomed, where each request that is issued for it and each vote that
-- is cast finds what it needs.
use Rattle.std.specs.Prelude.{◌≡◌, ◌⊎◌, ℕ, ◌<◌, Bool, true, false, List, ◌++◌, Some, None}
use Rattle.std.specs.List.{list_any}
use Rattle.std.specs.Map.{lookup}
use Rattle.std.specs.BTreeMap.{is_at}
use Rattle.qs_base.specs.declared.identifiers.ClientNo.{ClientNo}
use Rattle.qs_base.specs.declared.identifiers.Member.{Member}
use Rattle.qs_base.specs.declared.identifiers.NodeNo.{NodeNo}
use Rattle.qs_base.specs.declared.identifiers.ServerNo.{ServerNo}
use Rattle.qs_base.specs.declared.identifiers.Tid.{Tid}
use Rattle.qs_engage.specs.Nodes.{same_node}
use Rattle.qs_ipc.specs.Queue.{is_for}
use Rattle.qs_book_journal.specs.declared.entry.Act.{Act}
use Rattle.qs_book_journal.specs.declared.entry.Act.TheVariants as acts
use Rattle.qs_book_journal.specs.declared.script_line.Command.{Command}
use Rattle.qs_book_journal.specs.declared.script_line.Command.TheVariants as commands
use Rattle.qs_book_journal.specs.declared.script_line.ScriptLine.{ScriptLine}
use Rattle.qs_node_kept.specs.Loans.{last_taken}
use Rattle.qs_node_kept.specs.declared.kept.KeptLabel.{KeptLabel}
use Rattle.qs_node_kept.specs.declared.kept.Lent.{Lent}
use Rattle.qs_book_machine.specs.Book.{BookValue}
use Rattle.qs_ops.specs.Server.{vote_of}
use Rattle.qs_ops.specs.declared.operation.Op.{Op}
use Rattle.qs_ops.specs.declared.operation.Op.TheVariants.{Note}
use Rattle.qs_node_servers.specs.Servers.{audit_no, client_server, server_at}
use Rattle.qs_node_step.specs.Answering.{kept_outcome}
use Rattle.qs_node_step.specs.Borrowing.{is_void}
use Rattle.qs_node_step.specs.Bringing.{is_other}
use Rattle.qs_node_step.specs.Commands.{with_issued}
use Rattle.qs_node_step.specs.Deciding.{end_members}
use Rattle.qs_node_step.specs.Requests.{issue_as, next_number}
use Rattle.qs_node_step.specs.Settling.{is_pass_due, settle_tid}
use Rattle.qs_node_step.specs.Serving.{label_at}
use Rattle.qs_node_step.specs.State.{Work, client_cmp, here, part_of}
use Rattle.qs_node_step.specs.Step.{command_came, is_owner, wait_on, with_command}
use Rattle.qs_node_step.specs.declared.state.OpenCommand.{OpenCommand}
use Rattle.qs_node_step.specs.Voting.{change_count, due_votes, note_text, owes_note, vote_frame, vote_next}
use Rattle.qs_tm.specs.Members.{files_no}
use Rattle.qs_tm.specs.declared.participant.Outstanding.{Outstanding}
use Rattle.qs_tm.specs.declared.participant.Participant.{Participant}
use Rattle.qs_world_agree.specs.World as machine
use Rattle.qs_world_agree.specs.Doomed.{IsDoomed}
use Rattle.qs_world_walk.specs.Walked.{AtEach}
use Rattle.qs_world_runs.specs.Placed.{Field}
use Rattle.qs_world_runs.specs.PlacedActs.{is_against}
use Rattle.qs_world_runs.specs.PlacesAmid.{PlacedAmid}
use Rattle.qs_world_runs.specs.PlacesRules.{AreLawful, IsAmid, Reaches}

-- no node restarts in a step
abbrev pub is_restart : Act → Bool
is_restart (acts.Restart inc pend done) = true
is_restart act = false

-- a rule adds entries
pub record Extends (work new : Work) : Type 0 where
  pub more : List Act
  pub entries : new.out.entries ≡ work.out.entries ++ more
  pub still : list_any is_restart more ≡ false
  pub setting : new.node.setting ≡ work.node.setting

-- D says that the transaction is doomed
abbrev pub HoldsOr : Type 0 → Tid → Field → (ℕ → ℕ) → ℕ → ℕ → BookValue → Work → Type 0
HoldsOr D t base knows n stamp before work = D ⊎ PlacedAmid t base knows n stamp before work

pub record Goes (D : Type 0) (t : Tid) (base : Field) (knows : ℕ → ℕ) (n stamp : ℕ) (before : BookValue) (work new : Work) : Type 0 where
  pub extends : Extends work new
  pub on : AreLawful n stamp before new → IsAmid base n stamp before work → HoldsOr D t base knows n stamp before work → HoldsOr D t base knows n stamp before new

-- ---- what is issued and voted

-- a request that is issued goes to a node that it reaches
pub record IssuesWell (t : Tid) (base : Field) (knows : ℕ → ℕ) (n stamp : ℕ) (before : BookValue) (request : Outstanding) (op : Op) (work : Work) : Type 0 where
  pub fits : is_for request.member.server op ≡ true
  pub in_run : request.member.node.0 < base.size
  pub reaches : same_node request.member.node (here work) ≡ false → (is_other work.node.setting request.member.node ≡ true) × Reaches base knows request.member.node.0

-- the note that files issue in place of a vote
abbrev pub note_request : Tid → NodeNo → ℕ → Work → Outstanding
note_request t node number work = record { issuer = files_no; member = record { node = node; server = audit_no }; number = number; count = change_count t work.node }

abbrev pub note_op : Tid → Work → Op
note_op t work = Note (note_text t (here work) (change_count t work.node))

-- at the turn of a server: a note that it owes is issued well, and a vote is for commit; or it is doomed
pub record VotesWell (D : Type 0) (t : Tid) (base : Field) (knows : ℕ → ℕ) (n stamp : ℕ) (before : BookValue) (work : Work) (server : ServerNo) : Type 0 where
  pub notes : owes_note t server work ≡ true → (node : NodeNo) (number : ℕ) → work.node.setting.audit ≡ Some node → next_number t node work ≡ Some number → D ⊎ IssuesWell t base knows n stamp before (note_request t node number work) (note_op t work) work
  pub votes : owes_note t server work ≡ false → D ⊎ (is_against (vote_of (server_at work.node.servers server) t work.room (vote_frame work)) ≡ false)

-- where its own pass is due
abbrev pub PassesWell : Type 0 → Tid → Field → (ℕ → ℕ) → ℕ → ℕ → BookValue → Work → Type 0
PassesWell D t base knows n stamp before work = (part : Participant) → part_of t work ≡ Some part → part.outcome ≡ None → is_pass_due t part work ≡ true → AtEach (VotesWell D t base knows n stamp before) (vote_next t) (end_members t work) (due_votes t work)

-- ---- what clients command

-- the command is obeyed for it: its owner's while its home keeps no outcome, or a borrower's whose present loan stands
abbrev pub IsObeyed : Tid → ClientNo → KeptLabel → Work → Type 0
IsObeyed t client begun work = ((is_owner client begun.owner ≡ true) × (kept_outcome t work.node ≡ None))
    ⊎ ((is_owner client begun.owner ≡ false) × ((loan : Lent) × (last_taken client t work.node.kept.now.loans ≡ Some loan) × (loan.yielded ≡ false) × (is_void t loan work.node ≡ false)))

-- so a request that it commands is issued well, once the command is noted as issued
abbrev pub CommandsWell : Type 0 → Tid → Field → (ℕ → ℕ) → ℕ → ℕ → BookValue → ClientNo → List ℕ → Command → Work → Type 0
CommandsWell D t base knows n stamp before client label command work = (begun : KeptLabel) (member : Member) (op : Op) (number : ℕ) → label_at label work.node ≡ Some begun → begun.tid ≡ Some t → IsObeyed t client begun work → command ≡ commands.Request member op
    → next_number t member.node work ≡ Some number
    → D ⊎ IssuesWell t base knows n stamp before (record { issuer = client_server client; member = member; number = number; count = 0 }) op (with_issued client (record { tid = t; member = member; number = number }) work)

-- a command that stayed open may be issued yet: a borrower's that was not
pub record MayGoYet (client : ClientNo) (command : OpenCommand) (work : Work) : Type 0 where
  pub unissued : command.issued ≡ None
  pub lent : (begun : KeptLabel) → label_at command.line.label work.node ≡ Some begun → is_owner client begun.owner ≡ false

abbrev pub WaitsWell : Type 0 → Tid → Field → (ℕ → ℕ) → ℕ → ℕ → BookValue → Work → ClientNo → Type 0
WaitsWell D t base knows n stamp before work client = (command : OpenCommand) → lookup (is_at (client_cmp client)) work.node.commands ≡ Some command → MayGoYet client command work → CommandsWell D t base knows n stamp before client command.line.label command.line.command work

-- ---- the laws

abbrev pub IssueGoes : Type 0
IssueGoes = (w : machine.World) (t : Tid) (base : Field) (knows : ℕ → ℕ) (n stamp : ℕ) (before : BookValue) (work : Work) (request : Outstanding) (op : Op) → IsDoomed w ⊎ IssuesWell t base knows n stamp before request op work
    → Goes (IsDoomed w) t base knows n stamp before work (issue_as t request op work)

-- whichever transaction a node settles
abbrev pub SettleGoes : Type 0
SettleGoes = (w : machine.World) (t tid : Tid) (base : Field) (knows : ℕ → ℕ) (n stamp : ℕ) (before : BookValue) (work : Work) → (tid ≡ t → PassesWell (IsDoomed w) t base knows n stamp before work) → Goes (IsDoomed w) t base knows n stamp before work (settle_tid work tid)

abbrev pub CommandGoes : Type 0
CommandGoes = (w : machine.World) (t : Tid) (base : Field) (knows : ℕ → ℕ) (n stamp : ℕ) (before : BookValue) (work : Work) (line : ScriptLine) → CommandsWell (IsDoomed w) t base knows n stamp before line.client line.label line.command (with_command line work)
    → Goes (IsDoomed w) t base knows n stamp before work (command_came line work)

abbrev pub WaitGoes : Type 0
WaitGoes = (w : machine.World) (t : Tid) (base : Field) (knows : ℕ → ℕ) (n stamp : ℕ) (before : BookValue) (work : Work) (client : ClientNo) → WaitsWell (IsDoomed w) t base knows n stamp before work client → Goes (IsDoomed w) t base knows n stamp before work (wait_on work client)
