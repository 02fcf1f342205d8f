-- What a node waits for of others in the middle of its step: it stands in the history with what the step entered so far, and a client's request has its command in hand.
use Rattle.std.specs.Prelude.{◌≡◌, ℕ, ◌==◌, true, false, List, ◌++◌, Option, Some, None}
use Rattle.std.specs.BTreeMap.{is_at}
use Rattle.std.specs.List.{find}
use Rattle.std.specs.Map.{lookup}
use Rattle.qs_base.specs.Order.{tid_cmp}
use Rattle.qs_base.specs.declared.identifiers.ClientNo.{ClientNo}
use Rattle.qs_base.specs.declared.identifiers.NodeNo.{NodeNo}
use Rattle.qs_base.specs.declared.identifiers.Tid.{Tid}
use Rattle.qs_engage.specs.Engage.{is_open_to, peer_of}
use Rattle.qs_book_journal.specs.declared.entry.Entry.{Entry}
use Rattle.qs_node_kept.specs.Keeping.{has_label, is_label_of, is_outcome_of}
use Rattle.qs_node_kept.specs.declared.kept.KeptLabel.{KeptLabel}
use Rattle.qs_node_kept.specs.declared.kept.Decided.{Decided}
use Rattle.qs_book_laws.proofs.Rising.{IsRising}
use Rattle.qs_ops.specs.Servers.{files_no}
use Rattle.qs_node_servers.specs.Servers.{client_of}
use Rattle.qs_node_step.specs.Requests.{is_issued_as}
use Rattle.qs_node_step.specs.State.{Work, client_cmp}
use Rattle.qs_node_step.specs.Step.{is_owner}
use Rattle.qs_node_step.specs.declared.state.Issued.{Issued}
use Rattle.qs_node_step.specs.declared.state.OpenCommand.{OpenCommand}
use Rattle.qs_tm.specs.Manager as tm
use Rattle.qs_tm.specs.declared.manager.Manager.{Manager}
use Rattle.qs_tm.specs.declared.participant.Outstanding.{Outstanding}
use Rattle.qs_tm.specs.declared.participant.Participant.{Participant}
use Rattle.qs_world.specs.Posting.{entries_of}
use Rattle.qs_world_lawful.specs.Logs.{Every}
use Rattle.qs_world_runs.specs.Owing.{stands_awaited, stands_uncounted}

-- what bears on it beside the transactions that are known
pub record Around : Type 0 where
  pub me : NodeNo
  pub commands : List (ClientNo × OpenCommand)
  pub labels : List KeptLabel
  pub outcomes : List Decided
  pub history : List Entry

-- the history before the step, and what it entered so far
abbrev pub around : List Entry → ℕ → Work → Around
around before stamp work = record {
  me = work.node.setting.node;
  commands = work.node.commands;
  labels = work.node.kept.now.labels;
  outcomes = work.node.kept.now.outcomes;
  history = before ++ entries_of work.node.setting.node.0 stamp work.out.entries;
}

abbrev pub command_at : ClientNo → Around → Option OpenCommand
command_at client a = lookup (is_at (client_cmp client)) a.commands

-- the client's command waits for just this one; while its owner waits, no outcome is kept
pub record IsCommanded (a : Around) (tid : Tid) (request : Outstanding) : Type 0 where
  pub command : OpenCommand
  pub there : command_at (client_of request.issuer) a ≡ Some command
  pub issued : Issued
  pub as_issued : command.issued ≡ Some issued
  pub for_it : is_issued_as tid request.member request.number issued ≡ true
  pub begun : KeptLabel
  pub found : find (has_label command.line.label) a.labels ≡ Some begun
  pub of : is_label_of tid begun ≡ true
  pub unended : is_owner (client_of request.issuer) begun.owner ≡ true → find (is_outcome_of tid) a.outcomes ≡ None

pub record IsHeld (a : Around) (tid : Tid) (request : Outstanding) : Type 0 where
  pub stands : stands_awaited tid request.member.node request.issuer.0 a.history ≡ true
  pub commanded : (request.issuer.0 == files_no) ≡ false → IsCommanded a tid request

pub record StandsSo (a : Around) (tid : Tid) (part : Participant) : Type 0 where
  pub uncounted : (peer : NodeNo) → is_open_to peer part.engage ≡ true → stands_uncounted tid peer a.me (peer_of part.engage peer).sent a.history ≡ true
  pub awaited : part.outcome ≡ None → Every (IsHeld a tid) part.waiting

pub record Waits (a : Around) (m : Manager) : Type 0 where
  pub rising : IsRising tid_cmp m.known
  pub each : (tid : Tid) (part : Participant) → tm.part_of tid m ≡ Some part → StandsSo a tid part

abbrev pub Amid : List Entry → ℕ → Work → Type 0
Amid before stamp work = Waits (around before stamp work) work.node.manager

-- no request of what is not decided waits for the command of that client
abbrev pub NotAwaited : Around → Manager → ClientNo → Type 0
NotAwaited a m client = (tid : Tid) (part : Participant) → tm.part_of tid m ≡ Some part → part.outcome ≡ None
    → Every (λ (request : Outstanding). IsCommanded a tid request → client_of request.issuer ≡ client → ⊥) part.waiting

-- ---- a change of one transaction that leaves it: what is open still was open, as much was sent, the same waits, and what is undecided was

pub record LeavesWaits (f : Participant → Participant) : Type 0 where
  pub opens : (p : Participant) (peer : NodeNo) → is_open_to peer (f p).engage ≡ true → is_open_to peer p.engage ≡ true
  pub sent : (p : Participant) (peer : NodeNo) → (peer_of (f p).engage peer).sent ≡ (peer_of p.engage peer).sent
  pub waiting : (p : Participant) → (f p).waiting ≡ p.waiting
  pub outcome : (p : Participant) → (f p).outcome ≡ None → p.outcome ≡ None
