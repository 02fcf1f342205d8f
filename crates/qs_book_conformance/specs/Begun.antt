-- The course as a run begins: what its script says, and the machine at its opening.
use Rattle.std.specs.Prelude.{ℕ, ◌+◌, false, List, [], ◌∷◌, ◌++◌, fold, replicate, None, Some, if◌then◌else◌}
use Rattle.std.specs.BTreeMap.{insert_entry}
use Rattle.qs_base.specs.declared.identifiers.NodeNo.{NodeNo}
use Rattle.qs_book_journal.specs.declared.script_line.PointKind.{PointKind}
use Rattle.qs_book_journal.specs.declared.script_line.PointKind.TheVariants as kinds
use Rattle.qs_book_journal.specs.declared.script_line.Point.{Point}
use Rattle.qs_book_journal.specs.declared.script_line.ScriptLine.{ScriptLine}
use Rattle.qs_book_machine.specs.Book.{BookValue, changed_at}
use Rattle.qs_book_script.specs.declared.script.FaultLine.{FaultLine}
use Rattle.qs_book_script.specs.declared.script.Planned.{Planned}
use Rattle.qs_book_script.specs.declared.script.Planned.TheVariants as plans
use Rattle.qs_book_script.specs.declared.script.Quota.{Quota}
use Rattle.qs_book_script.specs.declared.script.Script.{Script}
use Rattle.qs_book_script.specs.declared.script.Seat.{Seat}
use Rattle.qs_book_conformance.specs.Course.{ClientValue, CourseValue, mark_cmp}
use Rattle.qs_book_conformance.specs.declared.values.Deed.{Deed}
use Rattle.qs_book_conformance.specs.declared.values.Deed.TheVariants as deeds
use Rattle.qs_book_conformance.specs.declared.values.CommandMade.TheVariants as makes
use Rattle.qs_book_conformance.specs.declared.values.Mark.{Mark}
use Rattle.qs_book_conformance.specs.declared.values.NodeCourse.{NodeCourse}

-- nodes and clients have numbers below this
abbrev pub number_limit : ℕ
number_limit = 256

-- the quota of a node where the script sets none
abbrev pub default_quota : ℕ
default_quota = 1048576

abbrev pub no_client : ClientValue
no_client = record { seat = None; left = []; made = makes.Nothing; refused = []; borrowed = [] }

abbrev pub no_node : NodeCourse
no_node = record { quota = default_quota; lines = 0; owing = 0; stamp = 0; is_after = false; faults = 0 }

-- ---- what a line makes of the clients, by number

-- client K N
abbrev pub seated : List ClientValue → Seat → List ClientValue
seated clients seat = changed_at seat.client.0 (λ client. record client { seat = Some seat.node }) clients

-- a command of a client
abbrev pub commanded : List ClientValue → ScriptLine → List ClientValue
commanded clients line = changed_at line.client.0 (λ client. record client { left = client.left ++ line ∷ [] }) clients

-- ---- of the nodes, by number

-- quota N BYTES
abbrev pub limited : List NodeCourse → Quota → List NodeCourse
limited nodes quota = changed_at quota.node.0 (λ node. record node { quota = quota.bytes }) nodes

-- a line that a crash may have as its ground while the journal does not tell
abbrev pub with_line : NodeNo → List NodeCourse → List NodeCourse
with_line node nodes = changed_at node.0 (λ state. record state { lines = state.lines + 1 }) nodes

-- a crash may have any line but `after`; what is lost, repeated or held back on a link makes no crash
abbrev pub with_ground : Planned → List NodeCourse → List NodeCourse
with_ground (plans.Crash node event) nodes = with_line node nodes
with_ground (plans.Stop node call) nodes = with_line node nodes
with_ground (plans.At node point) nodes = if point.after then nodes else with_line node nodes
with_ground _ nodes = nodes

abbrev pub grounded : List NodeCourse → FaultLine → List NodeCourse
grounded nodes line = with_ground line.fault nodes

-- ---- and of the entries that lines name

abbrev pub deed_of : PointKind → Deed
deed_of kinds.Serve = deeds.Serve
deed_of kinds.Vote = deeds.Vote
deed_of kinds.Decide = deeds.Decide
deed_of kinds.Learn = deeds.Learn

abbrev pub mark_of : NodeNo → Point → Mark
mark_of node point = record { node = node; after = point.after; deed = deed_of point.kind; label = point.label }

-- before N KIND T, after N KIND T
abbrev pub with_mark : ℕ → Planned → List (Mark × ℕ) → List (Mark × ℕ)
with_mark line (plans.At node point) marks = insert_entry mark_cmp marks (mark_of node point) line
with_mark line _ marks = marks

abbrev pub marked : List (Mark × ℕ) → FaultLine → List (Mark × ℕ)
marked marks line = with_mark line.line line.fault marks

-- ---- the whole

abbrev pub clients_of : Script → List ClientValue
clients_of script = fold commanded (fold seated (replicate number_limit no_client) script.seats) script.lines

abbrev pub nodes_of : Script → List NodeCourse
nodes_of script = fold grounded (fold limited (replicate number_limit no_node) script.quotas) script.faults

abbrev pub marks_of : Script → List (Mark × ℕ)
marks_of script = fold marked [] script.faults

abbrev pub at_start : Script → BookValue → CourseValue
at_start script book = record {
  book = book;
  audit = script.audit;
  clients = clients_of script;
  nodes = nodes_of script;
  marks = marks_of script;
  replies = [];
}
