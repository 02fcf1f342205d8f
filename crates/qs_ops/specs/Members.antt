-- How the members of a transaction take part in its commit. A member is a server of a node, or a client to whom the
-- transaction was lent.
use Rattle.std.specs.Prelude.{ℕ, ◌==◌, Bool, true, false, if◌then◌else◌}
use Rattle.qs_base.specs.declared.identifiers.Class.{Class}
use Rattle.qs_base.specs.declared.identifiers.Class.TheVariants.{Recoverable, Volatile, Immediate, Standard, Delayed, Activity}
use Rattle.qs_ops.specs.Servers.{names_no, timers_no, windows_no, scratch_no, is_client_no}

-- by server number: files, audit and the further server are recoverable, names volatile, timers immediate, windows
-- standard, scratch delayed; a client is an activity
abbrev pub class_of : ℕ → Class
class_of server =
    if server == names_no then Volatile
    else if server == timers_no then Immediate
    else if server == windows_no then Standard
    else if server == scratch_no then Delayed
    else if is_client_no server then Activity
    else Recoverable

-- a member that votes
abbrev pub is_two_phase : Class → Bool
is_two_phase Recoverable = true
is_two_phase Volatile = true
is_two_phase _ = false

-- a member that is told the outcome itself
abbrev pub learns_outcome : Class → Bool
learns_outcome Immediate = false
learns_outcome Activity = false
learns_outcome _ = true
