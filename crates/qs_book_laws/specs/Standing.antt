-- A server of a node stands for what the reference machine keeps of it.
use Rattle.std.specs.Prelude.{◌≡◌, List, [], fold, Some, ⊤}
use Rattle.qs_base.specs.declared.identifiers.Outcome.{Outcome}
use Rattle.qs_base.specs.declared.identifiers.Outcome.TheVariants as outcomes
use Rattle.qs_ops.specs.declared.vote.Notice.{Notice}
use Rattle.qs_ops.specs.declared.vote.Notice.TheVariants as notices
use Rattle.qs_book_machine.specs.Nodes.{NodeValue, table_of}
use Rattle.qs_ops.specs.Server.{ServerValue, number_of, after_keeping}
use Rattle.qs_ops.specs.declared.server.ServerKind.{ServerKind}
use Rattle.qs_ops.specs.declared.server.ServerKind.TheVariants.{Files, Audit, Timers, Nothing}
use Rattle.qs_ops.specs.Table.{applied}
use Rattle.qs_ops.specs.declared.operation.Op.{Op}
use Rattle.qs_ops.specs.declared.share.KeptChanges.{KeptChanges}
use Rattle.qs_book_machine.specs.declared.state.Reopened.{Reopened}

abbrev pub StandsAs : ServerKind → NodeValue → ServerValue → Type 0
StandsAs Timers node server = node.timers ≡ server.timers
StandsAs Nothing node server = ⊤
StandsAs kind node server = table_of node (number_of kind) ≡ Some server.table

-- it holds what the machine has in that server's table; the further server has nothing
abbrev pub StandsFor : NodeValue → ServerValue → Type 0
StandsFor node server = StandsAs server.kind node server

-- how a member is told an outcome
abbrev pub notice_of : Outcome → Notice
notice_of outcomes.Commit = notices.Commit
notice_of outcomes.Abort = notices.Abort

-- ---- a restart

-- the changes that a restart commits at a server whose votes a log keeps
abbrev pub commits_of : ServerKind → Reopened → List Op
commits_of (Files quota) left = left.files
commits_of Audit left = left.audit
commits_of kind left = []

-- and those that it has pending again
abbrev pub kept_of : ServerKind → Reopened → List KeptChanges
kept_of (Files quota) left = left.files_kept
kept_of Audit left = left.audit_kept
kept_of kind left = []

-- the server with its contents after these commits, and nothing pending
abbrev pub with_commits : ServerValue → List Op → ServerValue
with_commits server changes = record server { table = record (applied server.table changes) { shares = [] } }

-- it is told to keep what is pending again, one after the other
abbrev pub keep_each : ServerValue → List KeptChanges → ServerValue
keep_each server keeps = fold (λ (s : ServerValue) (k : KeptChanges). after_keeping s k.tid k.changes) server keeps
