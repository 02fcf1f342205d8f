-- What a step does for clients, deed by deed, each with the reason for which it is done; all else no client sees. What is kept by all of these, a whole step keeps: they give the
-- table of its deeds, beside another fact that has a table of its own.
use Rattle.std.specs.Prelude.{◌≡◌, ⊤, ℕ, ◌==◌, true, List, [], ◌∷◌, ◌++◌, Option, None, Some}
use Rattle.std.specs.List.{find}
use Rattle.qs_base.specs.declared.identifiers.ClientNo.{ClientNo}
use Rattle.qs_base.specs.declared.identifiers.Member.{Member}
use Rattle.qs_base.specs.declared.identifiers.Outcome.{Outcome}
use Rattle.qs_base.specs.declared.identifiers.Outcome.TheVariants as outcomes
use Rattle.qs_base.specs.declared.identifiers.ServerNo.{ServerNo}
use Rattle.qs_base.specs.declared.identifiers.Tid.{Tid}
use Rattle.qs_ops.specs.Servers.{files_no}
use Rattle.qs_ops.specs.declared.answer.Cause.{Cause}
use Rattle.qs_ops.specs.declared.answer.Cause.TheVariants as causes
use Rattle.qs_ops.specs.declared.operation.Op.{Op}
use Rattle.qs_ops.specs.declared.reply.Reply.{Reply}
use Rattle.qs_book_journal.specs.declared.entry.Act.{Act}
use Rattle.qs_book_journal.specs.declared.entry.Act.TheVariants as acts
use Rattle.qs_book_journal.specs.declared.script_line.Command.TheVariants as commands
use Rattle.qs_book_journal.specs.declared.script_line.ScriptLine.{ScriptLine}
use Rattle.qs_ipc.specs.declared.delivery.Delivery.{Delivery}
use Rattle.qs_tm.specs.declared.participant.Outstanding.{Outstanding}
use Rattle.qs_tm.specs.declared.participant.Participant.{Participant}
use Rattle.qs_node_kept.specs.Keeping.{is_outcome_of}
use Rattle.qs_node_kept.specs.declared.kept.Decided.{Decided}
use Rattle.qs_node_kept.specs.declared.kept.Lent.{Lent}
use Rattle.qs_node_step.specs.Answering.{kept_outcome}
use Rattle.qs_node_step.specs.State.{NodeValue, Work, work_on}
use Rattle.qs_node_step.specs.declared.event.Event.{Event}
use Rattle.qs_node_step.specs.declared.event.Event.TheVariants as events
use Rattle.qs_node_step.specs.declared.state.Issued.{Issued}
use Rattle.qs_node_step.specs.declared.state.OpenCommand.{OpenCommand}
use Rattle.qs_world_walk.specs.Deed.{Deed, did, fresh_command}
use Rattle.qs_world_walk.specs.Deed as d
use Rattle.qs_world_walk.specs.May.{InHand, IsMet, IsOpen, May, command_of}
use Rattle.qs_world_walk.specs.Stage.{Stage, before}
use Rattle.qs_world_walk.specs.Walked.{AtTurns, Table}
use Rattle.qs_world_walk.specs.When.{When, stage_of}

-- ---- what no client sees

-- a commit, and an abort for a log without room
abbrev pub IsUnasked : Outcome → Option Cause → Type 0
IsUnasked outcomes.Commit None = ⊤
IsUnasked outcomes.Abort (Some (causes.Room need room)) = ⊤
IsUnasked outcome cause = ⊥

-- an entry that is no client's: a note of files, and what the machine's clauses say all of
abbrev pub IsQuietAct : Act → Type 0
IsQuietAct (acts.Begin tid label client) = ⊥
IsQuietAct (acts.Issue tid issuer member number op) = (issuer.server.0 == files_no) ≡ true
IsQuietAct (acts.Serve tid member from number reply) = ⊥
IsQuietAct (acts.Ask tid) = ⊥
IsQuietAct (acts.Decide tid outcome cause) = IsUnasked outcome cause
IsQuietAct (acts.Answer client line said) = ⊥
IsQuietAct (acts.Loan tid client) = ⊥
IsQuietAct (acts.Yield tid client) = ⊥
IsQuietAct act = ⊤

-- nothing is entered, or one such entry
pub data Enters (old new : List Act) : Type 0 where
  Nothing : new ≡ old → Enters old new
  Quiet : (act : Act) → IsQuietAct act → new ≡ old ++ act ∷ [] → Enters old new

-- commands in hand, labels, loans and answers are left, and outcomes are only added
pub record IsUnseen (work new : Work) : Type 0 where
  pub setting : new.node.setting ≡ work.node.setting
  pub commands : new.node.commands ≡ work.node.commands
  pub labels : new.node.kept.now.labels ≡ work.node.kept.now.labels
  pub loans : new.node.kept.now.loans ≡ work.node.kept.now.loans
  pub outcomes : (tid : Tid) (decided : Decided) → find (is_outcome_of tid) work.node.kept.now.outcomes ≡ Some decided
      → find (is_outcome_of tid) new.node.kept.now.outcomes ≡ Some decided
  pub answers : new.out.answers ≡ work.out.answers
  pub enters : Enters work.out.entries new.out.entries

-- ---- why a home aborts

-- its owner commands it, as a line that comes
pub record IsCommanded (event : Event) (line : ScriptLine) (tid : Tid) (part : Participant) (work : Work) : Type 0 where
  pub came : event ≡ command_of line
  pub there : InHand line.client (fresh_command line) work
  pub aborts : line.command ≡ commands.Abort
  pub met : IsMet line.client (fresh_command line) true (Some tid) work
  pub undecided : kept_outcome tid work.node ≡ None
  pub running : IsOpen tid part work

-- it has a cause, and takes the first
pub record HasCause (tid : Tid) (part : Participant) (cause : Cause) (more : List Cause) (work : Work) : Type 0 where
  pub running : IsOpen tid part work
  pub home : part.engage.home ≡ true
  pub causes : part.causes ≡ cause ∷ more

-- the transaction is as old as the node's age limit
pub record IsAged (event : Event) (age : ℕ) (work : Work) : Type 0 where
  pub ticks : event ≡ events.Tick
  pub limit : work.node.setting.age ≡ Some age

abbrev pub aborted : Tid → Cause → Work → Work
aborted tid cause work = did (d.Decides tid outcomes.Abort (Some cause)) work

-- ---- what all of it keeps; `K` is what stands beside it at each deed

module _ (event : Event) (K : Stage → Work → Type 0) (P : Work → Type 0) where
  -- a deed keeps it, with the reason that its guard has
  abbrev pub Row : Deed → Type 0
  Row deed = (when : When deed) (work : Work) → May event deed work → K (stage_of deed when) work → P work → P (did deed work)

  -- an abort of a home keeps it
  abbrev pub AbortRow : Tid → Cause → (Work → Type 0) → Type 0
  AbortRow tid cause Why = (stage : Stage) (work : Work) → Why work → K stage work → P work → P (aborted tid cause work)

  pub record IsKeptBy : Type 0 where
    pub unseen : (work new : Work) → IsUnseen work new → P work → P new
    -- a command comes, and the label of a request
    pub comes : (line : ScriptLine) → Row (d.Opens line)
    pub learns : (label : List ℕ) (tid : Tid) → Row (d.Labels label tid)
    -- beginning
    pub begins : (line : ScriptLine) → Row (d.Begins line)
    pub refuses : (line : ScriptLine) (need room : ℕ) → Row (d.Refuses line need room)
    -- answers that are no replies
    pub not_begun : (client : ClientNo) (command : OpenCommand) → Row (d.Answers client command d.Unbegun)
    pub decided : (client : ClientNo) (command : OpenCommand) (outcome : Decided) → Row (d.Answers client command (d.Over outcome))
    pub not_yours : (client : ClientNo) (command : OpenCommand) (loan : Lent) → Row (d.Answers client command (d.NotIts loan))
    pub voids : (client : ClientNo) (command : OpenCommand) (loan : Lent) → Row (d.Answers client command (d.Void loan))
    pub ends : (client : ClientNo) (command : OpenCommand) (issued : Issued) → Row (d.Answers client command (d.Ended issued))
    pub takes : (client : ClientNo) (command : OpenCommand) (tid : Tid) (loan : Lent) → Row (d.Takes client command tid loan)
    pub yields : (client : ClientNo) (command : OpenCommand) (tid : Tid) (loan : Lent) → Row (d.Yields client command tid loan)
    -- the owner asks, and aborts
    pub asks : (line : ScriptLine) (tid : Tid) → Row (d.Asks line tid)
    pub aborts : (line : ScriptLine) (tid : Tid) (part : Participant) → AbortRow tid causes.Asked (IsCommanded event line tid part)
    -- a home aborts by a cause that it has, or for the age
    pub home_aborts : (tid : Tid) (part : Participant) (cause : Cause) (more : List Cause) → AbortRow tid cause (HasCause tid part cause more)
    pub ages : (tid : Tid) (age : ℕ) → AbortRow tid (causes.Old age) (IsAged event age)
    -- requests of clients, serves, and replies
    pub requests_here : (client : ClientNo) (command : OpenCommand) (tid : Tid) (request : Outstanding) (op : Op) → Row (d.IssuesHere (d.Client client command) tid request op)
    pub requests_away : (client : ClientNo) (command : OpenCommand) (tid : Tid) (request : Outstanding) (op : Op) → Row (d.IssuesAway (d.Client client command) tid request op)
    pub serves : (server : ServerNo) (delivery : Delivery) (reply : Reply) → Row (d.Serves server delivery reply)
    pub serves_away : (server : ServerNo) (delivery : Delivery) (reply : Reply) → Row (d.ServesAway server delivery reply)
    pub replies : (tid : Tid) (member : Member) (number : ℕ) (request : Outstanding) (command : OpenCommand) (reply : Reply) → Row (d.GivesReply tid member number request command reply)

  -- a step keeps it, at each turn and whole
  abbrev pub StepKeeps : Type 0
  StepKeeps = (node : NodeValue) (free : ℕ) → Table event K → IsKeptBy → K before (work_on node free) → P (work_on node free)
      → AtTurns (λ stage work. K stage work × P work) node event free
