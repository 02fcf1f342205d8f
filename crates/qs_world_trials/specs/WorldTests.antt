-- What the nodes, their logs and the channels of a world have by themselves, as tests: each node of its own, whether it runs or not.
use Rattle.std.specs.Prelude.{ℕ, ◌+◌, ◌-◌, ◌==◌, ◌^◌, Bool, true, not, ◌&&◌, ◌||◌, List, drop, length, is_some, nat_le, nat_lt, suc}
use Rattle.std.specs.Cmp.Lexicographic.{pointwise}
use Rattle.std.specs.List.{list_all, list_any}
use Rattle.qs_base.specs.declared.identifiers.ClientNo.{ClientNo}
use Rattle.qs_base.specs.declared.identifiers.Tid.{Tid}
use Rattle.qs_book_journal.specs.declared.script_line.ScriptLine.{ScriptLine}
use Rattle.qs_book_laws.specs.Gone.{restarts_into}
use Rattle.qs_book_machine.specs.Book.{BookValue}
use Rattle.qs_book_machine.specs.Restart.{is_among}
use Rattle.qs_book_machine.specs.Transaction.{is_empty}
use Rattle.qs_ops.specs.Servers.{files_no}
use Rattle.qs_ops.specs.declared.share.Share.{Share}
use Rattle.qs_record.specs.declared.record.Record.{Record}
use Rattle.qs_record.specs.declared.record.Record.TheVariants as records
use Rattle.qs_restart.specs.Recovery.{recovery}
use Rattle.qs_node_step.specs.State.{NodeValue}
use Rattle.qs_node_step.specs.declared.setting.Setting.{Setting}
use Rattle.qs_node_step.specs.declared.state.OpenCommand.{OpenCommand}
use Rattle.qs_tm.specs.declared.manager.Manager.{Manager}
use Rattle.qs_world.specs.Driven.{up_to}
use Rattle.qs_world.specs.Moves.{client_count, node_no}
use Rattle.qs_world.specs.Openings.{are_apart, is_age, is_audit, is_earlier}
use Rattle.qs_world.specs.World.{Host, Opening, World}
use Rattle.qs_world_lawful.specs.GivenTests.{node_test}
use Rattle.qs_world_lawful.specs.Scripts.{labels_left}
use Rattle.qs_world_trials.specs.CountTests.{rises}

abbrev pub each_node : (ℕ → Bool) → World → Bool
each_node test world = list_all test (up_to world.size)

-- ---- facts, and the clock

abbrev is_set_in : Setting → Bool
is_set_in setting = nat_le setting.nodes 16 && (is_audit setting.nodes setting.audit && is_age setting.age)

abbrev is_manager_of : Setting → Manager → Bool
is_manager_of setting manager = ((manager.node.0 == setting.node.0) && (manager.inc == setting.inc)) && ((manager.extra == setting.extra) && (manager.keep == setting.keep))

abbrev has_facts_at : NodeValue → Bool
has_facts_at node = (is_set_in node.setting && is_manager_of node.setting node.manager) && (rises node.manager.known && node_test node)

abbrev pub has_facts : Opening → BookValue → World → Bool
has_facts o book world = (world.size == o.size) && each_node (λ (n : ℕ). has_facts_at (world.hosts n).node) world

abbrev pub is_clocked : Opening → BookValue → World → Bool
is_clocked o book world = each_node (λ (n : ℕ). nat_le (world.hosts n).node.manager.ticks (world.hosts n).stamp) world

-- ---- the Commits that a log had

abbrev is_logged_at : Host → Bool
is_logged_at host = list_all (is_among (recovery host.log).committed) host.node.committed

abbrev pub is_logged : Opening → BookValue → World → Bool
is_logged o book world = each_node (λ (n : ℕ). is_logged_at (world.hosts n)) world

-- ---- incarnations that have begun

abbrev has_run : Opening → World → ℕ → ℕ → Bool
has_run o world m inc = nat_le (o.settings m).inc inc && (((o.settings m).inc == inc) || list_any (restarts_into (node_no m) inc) world.journal)

abbrev is_born_so : Opening → World → ℕ → ℕ → Bool
is_born_so o world m inc = not (is_some (world.born m inc)) || has_run o world m inc

abbrev knows_born : World → ℕ → ℕ → Bool
knows_born world n m = not (nat_le 1 (world.channels.peer n m)) || is_some (world.born m (world.channels.peer n m))

abbrev pub is_born : Opening → BookValue → World → Bool
is_born o book world = list_all (λ (m : ℕ). list_all (is_born_so o world m) (up_to (world.channels.inc m + 2))
    && (is_some (world.born m (world.channels.inc m)) && list_all (knows_born world m) (up_to (suc world.size)))) (up_to (suc world.size))

-- ---- channels

-- a node knows incarnations that began, and keeps nothing back for those whom it knows
abbrev is_known_way : World → ℕ → ℕ → Bool
is_known_way world n m = nat_le (world.channels.peer n m) (world.channels.inc m) && (not (nat_le 1 (world.channels.peer n m)) || is_empty (world.channels.waits n m))

abbrev pub is_met : Opening → BookValue → World → Bool
is_met o book world = each_node (λ (n : ℕ). each_node (is_known_way world n) world) world

-- ---- rooms: files have few changes pending, of what began in the run

abbrev is_few : Share → Bool
is_few share = nat_le (length share.changes) share.operations && nat_lt share.operations (2 ^ 64)

abbrev is_few_of : Opening → Tid × Share → Bool
is_few_of o entry = is_earlier o entry.0 || is_few entry.1

abbrev is_few_vote : Opening → Record → Bool
is_few_vote o (records.Prepare tid server covers changes) = is_earlier o tid || (not (server.0 == files_no) || nat_lt (length changes) (2 ^ 64))
is_few_vote o rec = true

abbrev has_room_at : Opening → Host → Bool
has_room_at o host = list_all (is_few_of o) host.node.servers.files.table.shares && (list_all (is_few_vote o) host.log && list_all (is_few_vote o) host.waiting)

abbrev pub has_room : Opening → BookValue → World → Bool
has_room o book world = each_node (λ (n : ℕ). has_room_at o (world.hosts n)) world

-- ---- clients and scripts

abbrev is_own : World → ℕ → ClientNo × OpenCommand → Bool
is_own world n entry = nat_lt entry.0.0 client_count && ((world.clients entry.0.0).at == n)

abbrev pub same_line : ScriptLine → ScriptLine → Bool
same_line line other = line.line == other.line

abbrev is_rest : List ScriptLine → List ScriptLine → Bool
is_rest whole left = nat_le (length left) (length whole) && pointwise same_line left (drop (length whole - length left) whole)

abbrev is_client : Opening → World → ℕ → Bool
is_client o world k = ((world.clients k).at == (o.clients k).0) && is_rest (o.clients k).1 (world.clients k).lines

abbrev pub is_scripted : Opening → BookValue → World → Bool
is_scripted o book world = each_node (λ (n : ℕ). list_all (is_own world n) (world.hosts n).node.commands) world
    && (list_all (is_client o world) (up_to 4) && are_apart (labels_left world))
