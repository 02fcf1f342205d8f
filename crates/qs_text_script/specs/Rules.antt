-- The rules that a line of a script keeps after the lines before it, and the script that lines make.
use Rattle.std.specs.Prelude.{ℕ, ◌+◌, Bool, true, false, not, ◌&&◌, ◌||◌, ◌==◌, List, [], ◌∷◌, ◌++◌, length, find, Option, Some, None, is_some, nat_lt, nat_le, if◌then◌else◌}
use Rattle.std.specs.List.{list_any}
use Rattle.qs_base.specs.Order.{same_bytes}
use Rattle.qs_base.specs.declared.identifiers.ClientNo.{ClientNo}
use Rattle.qs_base.specs.declared.identifiers.Member.{Member}
use Rattle.qs_base.specs.declared.identifiers.NodeNo.{NodeNo}
use Rattle.qs_base.specs.declared.identifiers.ServerNo.{ServerNo}
use Rattle.qs_book_journal.specs.declared.script_line.Command.{Command}
use Rattle.qs_book_journal.specs.declared.script_line.Command.TheVariants as commands
use Rattle.qs_book_journal.specs.declared.script_line.ScriptLine.{ScriptLine}
use Rattle.qs_ops.specs.Operations.{server_of}
use Rattle.qs_ops.specs.declared.operation.Op.{Op}
use Rattle.qs_ops.specs.declared.operation.Op.TheVariants as ops
use Rattle.qs_text_script.specs.Clashes.{clashes_with}
use Rattle.qs_book_script.specs.declared.script.FaultLine.{FaultLine}
use Rattle.qs_book_script.specs.declared.script.Planned.{Planned}
use Rattle.qs_book_script.specs.declared.script.Planned.TheVariants as plans
use Rattle.qs_book_script.specs.declared.script.Quota.{Quota}
use Rattle.qs_book_script.specs.declared.script.Script.{Script}
use Rattle.qs_book_script.specs.declared.script.Seat.{Seat}
use Rattle.qs_book_script.specs.declared.statement.Statement.{Statement}
use Rattle.qs_book_script.specs.declared.statement.Statement.TheVariants as states
use Rattle.qs_book_script.specs.declared.status.ScriptFault.{ScriptFault}
use Rattle.qs_book_script.specs.declared.status.ScriptFault.TheVariants as faults

-- ---- what earlier lines named

abbrev pub sits : ℕ → Seat → Bool
sits client seat = seat.client.0 == client

abbrev pub is_client : List Seat → ℕ → Bool
is_client seats client = list_any (sits client) seats

abbrev pub is_begin : Command → Bool
is_begin commands.Begin = true
is_begin _ = false

abbrev pub is_take : Command → Bool
is_take commands.Take = true
is_take _ = false

-- some client begins the transaction of that label
abbrev pub begins_line : List ℕ → ScriptLine → Bool
begins_line label line = is_begin line.command && same_bytes line.label label

-- the line is of that client and label
abbrev pub is_of : ℕ → List ℕ → ScriptLine → Bool
is_of client label line = (line.client.0 == client) && same_bytes line.label label

-- this client begins it, and so owns it
abbrev pub owns_line : ℕ → List ℕ → ScriptLine → Bool
owns_line client label line = is_begin line.command && is_of client label line

-- this client takes it on loan
abbrev pub takes_line : ℕ → List ℕ → ScriptLine → Bool
takes_line client label line = is_take line.command && is_of client label line

abbrev pub is_begun : List ScriptLine → List ℕ → Bool
is_begun lines label = list_any (begins_line label) lines

abbrev pub is_owner : List ScriptLine → ℕ → List ℕ → Bool
is_owner lines client label = list_any (owns_line client label) lines

abbrev pub is_taker : List ScriptLine → ℕ → List ℕ → Bool
is_taker lines client label = list_any (takes_line client label) lines

abbrev pub may_use : List ScriptLine → ℕ → List ℕ → Bool
may_use lines client label = is_owner lines client label || is_taker lines client label

-- ---- unknown: a client, node or label that is none, or not yet

abbrev pub is_node : ℕ → NodeNo → Bool
is_node nodes node = nat_lt node.0 nodes

-- a link leads from a node to another
abbrev pub is_link : ℕ → NodeNo → NodeNo → Bool
is_link nodes from to = is_node nodes from && (is_node nodes to && not (from.0 == to.0))

abbrev pub names_point : ℕ → List ScriptLine → NodeNo → List ℕ → Bool
names_point nodes lines node label = is_node nodes node && is_begun lines label

abbrev pub names_fault : ℕ → List ScriptLine → Planned → Bool
names_fault nodes lines (plans.Crash node event) = is_node nodes node
names_fault nodes lines (plans.Stop node call) = is_node nodes node
names_fault nodes lines (plans.At node point) = names_point nodes lines node point.label
names_fault nodes lines (plans.Drop from to packet) = is_link nodes from to
names_fault nodes lines (plans.Again from to packet) = is_link nodes from to
names_fault nodes lines (plans.Hold from to packet count) = is_link nodes from to

-- begun by another client: a label has one owner
abbrev pub may_take : List ScriptLine → ℕ → List ℕ → Bool
may_take lines client label = is_begun lines label && not (is_owner lines client label)

abbrev pub names_request : ℕ → List ScriptLine → ℕ → List ℕ → Member → Bool
names_request nodes lines client label member = is_node nodes member.node && may_use lines client label

abbrev pub names_order : ℕ → List ScriptLine → ℕ → List ℕ → Command → Bool
names_order nodes lines client label commands.Begin = true
names_order nodes lines client label commands.Commit = is_owner lines client label
names_order nodes lines client label commands.Abort = is_owner lines client label
names_order nodes lines client label commands.Take = may_take lines client label
names_order nodes lines client label commands.Yield = is_taker lines client label
names_order nodes lines client label (commands.Request member op) = names_request nodes lines client label member

abbrev pub names_command : ℕ → Script → ℕ → List ℕ → Command → Bool
names_command nodes script client label command = is_client script.seats client && names_order nodes script.lines client label command

-- the borrower is known, and neither the lender nor the owner
abbrev pub may_borrow : Script → ℕ → List ℕ → ℕ → Bool
may_borrow script client label to = (is_client script.seats to && not (to == client)) && not (is_owner script.lines to label)

abbrev pub names_loan : Script → ℕ → List ℕ → ℕ → Bool
names_loan script client label to =
    is_client script.seats client && (may_use script.lines client label && may_borrow script client label to)

-- what the line names is known
abbrev pub is_known : ℕ → Script → Statement → Bool
is_known nodes script states.Nothing = true
is_known nodes script (states.Seated seat) = is_node nodes seat.node
is_known nodes script (states.Limited quota) = is_node nodes quota.node
is_known nodes script (states.Audited node) = is_node nodes node
is_known nodes script (states.Fault planned) = names_fault nodes script.lines planned
is_known nodes script (states.Order client label command) = names_command nodes script client.0 label command
is_known nodes script (states.Lend client label to) = names_loan script client.0 label to.0
is_known nodes script (states.Unreadable fault) = true

-- ---- twice: said before

abbrev pub is_limited : ℕ → Quota → Bool
is_limited node quota = quota.node.0 == node

abbrev pub is_again : Script → Statement → Bool
is_again script (states.Seated seat) = is_client script.seats seat.client.0
is_again script (states.Limited quota) = list_any (is_limited quota.node.0) script.quotas
is_again script (states.Audited node) = is_some script.audit
is_again script (states.Fault planned) = list_any (clashes_with planned) script.faults
is_again script (states.Order client label command) = is_begin command && is_begun script.lines label
is_again script _ = false

-- ---- limit: too great, or too many

-- events, disk calls, packets and counts
abbrev pub is_count : ℕ → Bool
is_count number = nat_lt 0 number && nat_le number 1000000

abbrev pub fits_fault : Planned → Bool
fits_fault (plans.Crash node event) = is_count event
fits_fault (plans.Stop node call) = is_count call
fits_fault (plans.At node point) = true
fits_fault (plans.Drop from to packet) = is_count packet
fits_fault (plans.Again from to packet) = is_count packet
fits_fault (plans.Hold from to packet count) = is_count packet && is_count count

abbrev pub fits_name : List ℕ → Bool
fits_name name = nat_le (length name) 64

abbrev pub fits_text : List ℕ → Bool
fits_text text = nat_le (length text) 4096

abbrev pub fits_both : List ℕ → List ℕ → Bool
fits_both name text = fits_name name && fits_text text

abbrev pub fits_timer : List ℕ → ℕ → Bool
fits_timer name ticks = fits_name name && nat_le ticks 1000000

abbrev pub fits_op : Op → Bool
fits_op (ops.Put name text) = fits_both name text
fits_op (ops.Append name text) = fits_both name text
fits_op (ops.Del name) = fits_name name
fits_op (ops.Get name) = fits_name name
fits_op ops.Listing = true
fits_op (ops.Note text) = fits_text text
fits_op ops.Notes = true
fits_op (ops.Bind name text) = fits_both name text
fits_op (ops.Find name) = fits_name name
fits_op (ops.Timer name ticks) = fits_timer name ticks
fits_op (ops.Left name) = fits_name name
fits_op (ops.Window name text) = fits_both name text
fits_op (ops.Title name) = fits_name name
fits_op (ops.Keep name text) = fits_both name text
fits_op (ops.Fetch name) = fits_name name
fits_op (ops.Lend client) = true
fits_op (ops.Extra code text) = true

abbrev pub fits_command : Command → Bool
fits_command (commands.Request member op) = fits_op op
fits_command _ = true

-- 4,096 commands at most
abbrev pub has_command_left : List ScriptLine → Bool
has_command_left lines = nat_lt (length lines) 4096

-- 64 fault lines at most
abbrev pub has_fault_left : List FaultLine → Bool
has_fault_left lines = nat_lt (length lines) 64

abbrev pub fits : Script → Statement → Bool
fits script states.Nothing = true
fits script (states.Seated seat) = nat_lt seat.client.0 32
fits script (states.Limited quota) = nat_le quota.bytes 1048576
fits script (states.Audited node) = true
fits script (states.Fault planned) = has_fault_left script.faults && fits_fault planned
fits script (states.Order client label command) = has_command_left script.lines && fits_command command
fits script (states.Lend client label to) = has_command_left script.lines
fits script (states.Unreadable fault) = true

-- ---- the fault of a line, if it has one

-- after the lines that made this script
abbrev pub broken_rule : ℕ → Script → Statement → Option ScriptFault
broken_rule nodes script line =
    if not (is_known nodes script line) then Some faults.Unknown
    else if is_again script line then Some faults.Twice
    else if not (fits script line) then Some faults.Limit
    else None

abbrev pub fault_of : ℕ → Script → Statement → Option ScriptFault
fault_of nodes script (states.Unreadable fault) = Some fault
fault_of nodes script line = broken_rule nodes script line

-- ---- the script that lines make

-- of no line
abbrev pub empty_script : Script
empty_script = record { seats = []; quotas = []; audit = None; faults = []; lines = []; count = 0 }

-- a loan is a request to the borrower at the node where it sits
abbrev pub loan_line : Option Seat → Option ServerNo → ClientNo → List ℕ → ClientNo → ℕ → List ScriptLine
loan_line (Some seat) (Some server) client label to number =
    record { client = client; line = number; label = label; command = commands.Request (record { node = seat.node; server = server }) (ops.Lend to) } ∷ []
loan_line _ _ client label to number = []

abbrev pub seats_after : List Seat → Statement → List Seat
seats_after seats (states.Seated seat) = seats ++ seat ∷ []
seats_after seats _ = seats

abbrev pub quotas_after : List Quota → Statement → List Quota
quotas_after quotas (states.Limited quota) = quotas ++ quota ∷ []
quotas_after quotas _ = quotas

abbrev pub audit_after : Option NodeNo → Statement → Option NodeNo
audit_after audit (states.Audited node) = Some node
audit_after audit _ = audit

abbrev pub faults_after : List FaultLine → ℕ → Statement → List FaultLine
faults_after faults number (states.Fault planned) = faults ++ record { line = number; fault = planned } ∷ []
faults_after faults number _ = faults

-- the commands after a line of that number
abbrev pub lines_after : List ScriptLine → List Seat → ℕ → Statement → List ScriptLine
lines_after lines seats number (states.Order client label command) =
    lines ++ record { client = client; line = number; label = label; command = command } ∷ []
lines_after lines seats number (states.Lend client label to) =
    lines ++ loan_line (find (sits to.0) seats) (server_of (ops.Lend to)) client label to number
lines_after lines seats number _ = lines

-- with one more line
abbrev pub with_line : Script → Statement → Script
with_line script line = record {
  seats = seats_after script.seats line;
  quotas = quotas_after script.quotas line;
  audit = audit_after script.audit line;
  faults = faults_after script.faults (script.count + 1) line;
  lines = lines_after script.lines script.seats (script.count + 1) line;
  count = script.count + 1;
}
