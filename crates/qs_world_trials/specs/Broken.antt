-- Worlds that no run leads to: each test is to fail in one of them.
use Rattle.std.specs.Prelude.{◌+◌, suc, Bool, true, false, not, [], ◌∷◌, None, drop, map}
use Rattle.std.specs.List.{filter}
use Rattle.qs_base.specs.declared.identifiers.ClientNo.{ClientNo}
use Rattle.qs_base.specs.declared.identifiers.Tid.{Tid}
use Rattle.qs_book_journal.specs.declared.entry.Act.{Act}
use Rattle.qs_book_journal.specs.declared.entry.Act.TheVariants as acts
use Rattle.qs_book_journal.specs.declared.entry.Entry.{Entry}
use Rattle.qs_ops.specs.Table.{TableValue}
use Rattle.qs_ops.specs.declared.server.ServerKind.{ServerKind}
use Rattle.qs_ops.specs.declared.server.ServerKind.TheVariants as kinds
use Rattle.qs_ops.specs.declared.share.Share.{Share}
use Rattle.qs_record.specs.declared.record.Record.{Record}
use Rattle.qs_record.specs.declared.record.Record.TheVariants as records
use Rattle.qs_node_step.specs.State.{NodeValue}
use Rattle.qs_node_step.specs.declared.state.OpenCommand.{OpenCommand}
use Rattle.qs_tm.specs.declared.manager.Manager.{Manager}
use Rattle.qs_world.specs.World.{Client, Host, World}

abbrev each_host : (Host → Host) → World → World
each_host f world = record world { hosts = λ n. f (world.hosts n) }

abbrev of_node : (NodeValue → NodeValue) → World → World
of_node f world = each_host (λ host. record host { node = f host.node }) world

abbrev of_manager : (Manager → Manager) → World → World
of_manager f world = of_node (λ node. record node { manager = f node.manager }) world

-- ---- histories, logs and channels

abbrev pub without_history : World → World
without_history world = record world { journal = [] }

-- nothing was served
abbrev is_serve : Act → Bool
is_serve (acts.Serve tid member from number reply) = true
is_serve act = false

abbrev pub without_serves : World → World
without_serves world = record world { journal = filter (λ (entry : Entry). not (is_serve entry.act)) world.journal }

abbrev pub without_logs : World → World
without_logs world = each_host (λ host. record host { log = []; waiting = [] }) world

abbrev covers_more : Record → Record
covers_more (records.Prepare tid server covers changes) = records.Prepare tid server (covers + 9) changes
covers_more rec = rec

abbrev pub with_more_covers : World → World
with_more_covers world = each_host (λ host. record host { log = map covers_more host.log; waiting = map covers_more host.waiting }) world

-- and each Commit names its home
abbrev names_home : Record → Record
names_home (records.Commit tid told) = records.Commit tid (tid.home ∷ told)
names_home rec = rec

abbrev pub with_strange_commits : World → World
with_strange_commits world = each_host (λ host. record host { log = map names_home host.log; waiting = map names_home host.waiting }) world

abbrev pub without_messages : World → World
without_messages world = record world { channels = record world.channels { waits = λ n m. []; posted = λ n m i j. []; handed = λ n m i j. [] } }

abbrev pub in_later_incarnation : World → World
in_later_incarnation world = record world { channels = record world.channels { inc = λ n. suc (suc (world.channels.inc n)) } }

abbrev pub who_knows_nobody : World → World
who_knows_nobody world = record world { channels = record world.channels { peer = λ n m. 0 } }

abbrev pub who_knows_later : World → World
who_knows_later world = record world { channels = record world.channels { peer = λ n m. suc (world.channels.inc m) } }

-- ---- nodes

abbrev pub without_transactions : World → World
without_transactions world = of_manager (λ manager. record manager { known = [] }) world

abbrev pub with_later_managers : World → World
with_later_managers world = of_manager (λ manager. record manager { inc = suc manager.inc }) world

abbrev pub with_fast_clocks : World → World
with_fast_clocks world = of_manager (λ manager. record manager { ticks = manager.ticks + 1000 }) world

abbrev pub without_numbers : World → World
without_numbers world = of_node (λ node. record node { locals = [] }) world

abbrev pub without_labels : World → World
without_labels world = of_node (λ node. record node { kept = record node.kept { now = record node.kept.now { labels = [] } } }) world

abbrev pub without_loans : World → World
without_loans world = of_node (λ node. record node { kept = record node.kept { now = record node.kept.now { loans = [] } } }) world

abbrev pub without_outcomes : World → World
without_outcomes world = of_node (λ node. record node { kept = record node.kept { now = record node.kept.now { outcomes = [] } }; committed = [] }) (without_transactions world)

abbrev uncounted : TableValue → TableValue
uncounted table = record table { shares = map (λ (entry : Tid × Share). (entry.0, record entry.1 { operations = 0 })) table.shares }

abbrev pub with_uncounted_changes : World → World
with_uncounted_changes world = of_node (λ node. record node { servers = record node.servers { files = record node.servers.files { table = uncounted node.servers.files.table } } }) world

-- ---- clients

abbrev moved_client : Client → Client
moved_client client = record client { at = suc client.at }

abbrev pub with_moved_clients : World → World
with_moved_clients world = record world { clients = λ k. moved_client (world.clients k) }

abbrev without_line : Client → Client
without_line client = record client { lines = drop 1 client.lines }

-- each client has one line less
abbrev pub with_fewer_lines : World → World
with_fewer_lines world = record world { clients = λ k. without_line (world.clients k) }

abbrev not_issued : ClientNo × OpenCommand → ClientNo × OpenCommand
not_issued entry = (entry.0, record entry.1 { issued = None })

-- no open command has issued a request
abbrev pub with_nothing_issued : World → World
with_nothing_issued world = of_node (λ node. record node { commands = map not_issued node.commands }) world

-- the audit notes go nowhere
abbrev pub without_audit : World → World
without_audit world = of_node (λ node. record node { setting = record node.setting { audit = None } }) world

-- files may have no bytes
abbrev no_quota : ServerKind → ServerKind
no_quota (kinds.Files quota) = kinds.Files 0
no_quota kind = kind

abbrev pub without_quotas : World → World
without_quotas world = of_node (λ node. record node { servers = record node.servers { files = record node.servers.files { kind = no_quota node.servers.files.kind } } }) world
