-- The node of an incarnation: what it takes up from its log, and what it keeps for its clients.
use Rattle.std.specs.Prelude.{ℕ, Bool, true, ◌&&◌, List, [], ◌∷◌, ◌++◌, fold, Some, None, is_none, Option, if◌then◌else◌}
use Rattle.std.specs.Global.{Global}
use Rattle.std.specs.List.{find, list_any}
use Rattle.qs_base.specs.Order.{same_tid}
use Rattle.qs_base.specs.declared.identifiers.NodeNo.{NodeNo}
use Rattle.qs_base.specs.declared.identifiers.Outcome.TheVariants as outcomes
use Rattle.qs_base.specs.declared.identifiers.Tid.{Tid}
use Rattle.qs_engage.specs.Nodes.{same_node}
use Rattle.qs_ops.specs.Server.{ServerValue, after_keeping}
use Rattle.qs_ops.specs.Table.{no_table, applied}
use Rattle.qs_ops.specs.Timers.{no_timers}
use Rattle.qs_ops.specs.declared.answer.Cause.TheVariants as causes
use Rattle.qs_ops.specs.declared.operation.Op.{Op}
use Rattle.qs_ops.specs.declared.server.ServerKind.{ServerKind}
use Rattle.qs_ops.specs.declared.server.ServerKind.TheVariants as kinds
use Rattle.qs_record.specs.declared.record.Record.{Record}
use Rattle.qs_record.specs.declared.record.Record.TheVariants as records
use Rattle.qs_restart.specs.Recovery.{Recovery, recovery, open_votes, in_doubt, untold}
use Rattle.qs_restart.specs.declared.recovered.Recovered.{Recovered}
use Rattle.qs_tm.specs.Manager as tm
use Rattle.qs_tm.specs.declared.manager.Manager.{Manager}
use Rattle.qs_node_kept.specs.Keeping.{kept_as, is_outcome_of}
use Rattle.qs_node_kept.specs.declared.kept.KeptLabel.{KeptLabel}
use Rattle.qs_node_kept.specs.declared.kept.Decided.{Decided}
use Rattle.qs_node_kept.specs.declared.kept.Kept.{Kept}
use Rattle.qs_node_step.specs.declared.setting.Setting.{Setting}
use Rattle.qs_node_servers.specs.Servers.{ServersValue, with_server}
use Rattle.qs_node_step.specs.State.{NodeValue}

-- ---- what a log says, as it is handed to a node

abbrev pub recovered_as : Recovery → Recovered
recovered_as said = record {
  files = said.files;
  audit = said.audit;
  extra = said.extra;
  votes = open_votes said;
  in_doubt = in_doubt said;
  untold = untold said;
  committed = said.committed;
}

abbrev pub recovered_of : List Record → Recovered
recovered_of log = recovered_as (recovery log)

-- ---- transactions: a Prepare in doubt as its vote, which at the home means abort, and a Commit that is still to be told

abbrev pub take_up : Manager → Record → Manager
take_up manager rec = tm.take_up rec manager

abbrev pub new_manager : Global → Setting → Manager
new_manager alloc setting = record {
  node = setting.node;
  inc = setting.inc;
  extra = setting.extra;
  keep = setting.keep;
  begun = 0;
  ticks = 0;
  known = [];
  alloc = alloc;
}

abbrev pub opened_manager : Global → Setting → Recovered → Manager
opened_manager alloc setting found = fold take_up (new_manager alloc setting) (found.in_doubt ++ found.untold)

-- ---- servers: the contents that the log keeps of files and audit, and the changes of a Prepare in doubt pending again,
-- under their locks

abbrev pub opened_server : ServerKind → List Op → ServerValue
opened_server kind changes = record { kind = kind; table = applied no_table changes; timers = no_timers }

abbrev pub opened_servers : ℕ → Recovered → ServersValue
opened_servers quota found = record {
  files = opened_server (kinds.Files quota) found.files;
  audit = opened_server kinds.Audit found.audit;
  names = opened_server kinds.Names [];
  timers = opened_server kinds.Timers [];
  windows = opened_server kinds.Windows [];
  scratch = opened_server kinds.Scratch [];
  extra = opened_server kinds.Nothing [];
}

abbrev pub keep_changes : ServersValue → Record → ServersValue
keep_changes servers (records.Prepare tid server covers changes) = with_server server (λ value. after_keeping value tid changes) servers
keep_changes servers rec = servers

-- ---- outcomes: the log decides what began here and was not decided as the node stopped

abbrev pub outcome_in_log : List Tid → Tid → Decided
outcome_in_log committed tid =
    if list_any (same_tid tid) committed then record { tid = tid; outcome = outcomes.Commit; cause = None }
    else record { tid = tid; outcome = outcomes.Abort; cause = Some (causes.Home tid.inc) }

abbrev pub is_left_open : NodeNo → List Decided → Tid → Bool
is_left_open node outcomes tid = same_node tid.home node && is_none (find (is_outcome_of tid) outcomes)

-- of a transaction that a label has
abbrev pub close_tid : NodeNo → List Tid → List Decided → Option Tid → List Decided
close_tid node committed outcomes None = outcomes
close_tid node committed outcomes (Some tid) = if is_left_open node outcomes tid then outcomes ++ outcome_in_log committed tid ∷ [] else outcomes

abbrev pub close_outcome : NodeNo → List Tid → List Decided → KeptLabel → List Decided
close_outcome node committed outcomes begun = close_tid node committed outcomes begun.tid

abbrev pub closed_kept : NodeNo → Recovered → Kept → Kept
closed_kept node found kept = record kept { outcomes = fold (close_outcome node found.committed) kept.outcomes kept.labels }

-- ---- the node as its incarnation begins

abbrev pub opened_node : Global → Setting → Recovered → Kept → NodeValue
opened_node alloc setting found kept = record {
  setting = setting;
  manager = opened_manager alloc setting found;
  queues = [];
  servers = fold keep_changes (opened_servers setting.quota found) found.in_doubt;
  kept = kept_as (closed_kept setting.node found kept);
  commands = [];
  locals = [];
  is_first = true;
  committed = found.committed;
}
