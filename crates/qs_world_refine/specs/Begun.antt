-- Which transactions have begun, and what a message or a record may say of one.
use Rattle.std.specs.Prelude.{ℕ, ◌+◌, ◌==◌, Bool, true, not, ◌&&◌, ◌||◌, List, [], ◌∷◌, nat_lt, nat_le, if◌then◌else◌}
use Rattle.std.specs.List.{list_all}
use Rattle.qs_base.specs.declared.identifiers.NodeNo.{NodeNo}
use Rattle.qs_base.specs.declared.identifiers.Tid.{Tid}
use Rattle.qs_engage.specs.Nodes.{same_node}
use Rattle.qs_ipc.specs.Queue.{is_for}
use Rattle.qs_book_journal.specs.declared.script_line.Command.{Command}
use Rattle.qs_book_journal.specs.declared.script_line.Command.TheVariants as commands
use Rattle.qs_book_machine.specs.Nodes.{is_recoverable}
use Rattle.qs_packet.specs.declared.message.Message.{Message}
use Rattle.qs_packet.specs.declared.message.Message.TheVariants as messages
use Rattle.qs_record.specs.declared.record.Record.{Record}
use Rattle.qs_record.specs.declared.record.Record.TheVariants as records
use Rattle.qs_restart.specs.Recovery.{names_transaction}
use Rattle.qs_world.specs.World.{World}

-- ---- a transaction

-- its home is in the run, and gave its number in an earlier incarnation or in the present one, in which so many numbers are given
abbrev pub begun_among : ℕ → (ℕ → ℕ) → (ℕ → ℕ) → Tid → Bool
begun_among size inc count tid =
    names_transaction tid
    && (nat_lt tid.home.0 size && (nat_lt tid.inc (inc tid.home.0) || ((tid.inc == inc tid.home.0) && nat_le tid.seq (count tid.home.0))))

-- its home is not in the run, or it has begun
abbrev pub past_among : ℕ → (ℕ → ℕ) → (ℕ → ℕ) → Tid → Bool
past_among size inc count tid = names_transaction tid && (not (nat_lt tid.home.0 size) || begun_among size inc count tid)

-- the incarnation of a node that gives numbers, or, where it is down, the first that may come
abbrev pub inc_in : World → ℕ → ℕ
inc_in world k = if world.channels.up k then world.channels.inc k else world.channels.inc k + 1

-- how many transactions were begun in it
abbrev pub count_in : World → ℕ → ℕ
count_in world k = if world.channels.up k then (world.hosts k).node.manager.begun else 0

abbrev pub has_begun : World → Tid → Bool
has_begun world tid = begun_among world.size (inc_in world) (count_in world) tid

abbrev pub may_be_known : World → Tid → Bool
may_be_known world tid = past_among world.size (inc_in world) (count_in world) tid

-- ---- what is said of one, where P tells which may be known and Q which have begun

-- nodes of the run, and never the home
abbrev pub is_drawn : ℕ → Tid → NodeNo → Bool
is_drawn nodes tid node = nat_lt node.0 nodes && not (same_node node tid.home)

-- a request, what answers for one, and a vote are of a transaction that has begun; the home tells the outcome, and is told that it was taken in, and asked
abbrev pub fits : (Tid → Bool) → (Tid → Bool) → ℕ → NodeNo → NodeNo → Message → Bool
fits P Q nodes from to messages.Hello = true
fits P Q nodes from to (messages.Request tid label member number issuer op) = Q tid && (is_for member.server op && same_node member.node to)
fits P Q nodes from to (messages.Answered tid member number reply) = Q tid
fits P Q nodes from to (messages.AskVote tid) = Q tid
fits P Q nodes from to (messages.Covered tid up_to) = Q tid
fits P Q nodes from to (messages.VotedYes tid up_to told) = Q tid && list_all (is_drawn nodes tid) told
fits P Q nodes from to (messages.VotedAbort tid cause) = P tid && nat_lt tid.home.0 nodes
fits P Q nodes from to (messages.Tell tid outcome) = P tid && same_node tid.home from
fits P Q nodes from to (messages.Told tid further) = P tid && same_node tid.home to
fits P Q nodes from to (messages.Inquire tid) = P tid && same_node tid.home to

-- a list stands at the home alone
abbrev pub is_list_at : NodeNo → Tid → List NodeNo → Bool
is_list_at me tid [] = true
is_list_at me tid (first ∷ others) = same_node tid.home me

-- a record of the log of that node: a vote is one of a recoverable server
abbrev pub fits_record : (Tid → Bool) → NodeNo → Record → Bool
fits_record P me (records.Prepare tid server covers changes) = P tid && is_recoverable server.0
fits_record P me (records.Commit tid told) = P tid && is_list_at me tid told
fits_record P me (records.Aborted tid) = P tid
fits_record P me (records.End tid) = P tid

-- ---- commands: a request goes to a server of a node of the run, and its operation is one of that server's

abbrev pub may_command : ℕ → Command → Bool
may_command nodes commands.Begin = true
may_command nodes commands.Commit = true
may_command nodes commands.Abort = true
may_command nodes commands.Take = true
may_command nodes commands.Yield = true
may_command nodes (commands.Request member op) = nat_lt member.node.0 nodes && is_for member.server op
