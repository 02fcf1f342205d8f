-- What a node owes of what it has not decided, tried on the states of runs: for each node that owes it something, a request stands open in the history;
-- and what a node waits for stands as it is to; also while a node is down, after it restarted, and once others know of that.
use Rattle.std.specs.Prelude.{◌≡◌, ℕ, zero, suc, ◌==◌, nat_lt, Bool, true, false, not, ◌&&◌, ◌||◌, is_none, is_some, List, [], ◌∷◌, take, drop, fold}
use Rattle.std.specs.Global.{Global}
use Rattle.std.specs.BTreeMap.{is_at}
use Rattle.std.specs.List.{list_all, list_any}
use Rattle.std.specs.Map.{lookup}
use Rattle.qs_base.specs.declared.identifiers.Tid.{Tid}
use Rattle.qs_engage.specs.Engage.{is_open_to, peer_of}
use Rattle.qs_book_journal.specs.declared.entry.Entry.{Entry}
use Rattle.qs_book_laws.specs.Gone.{stands_open}
use Rattle.qs_ops.specs.Servers.{files_no}
use Rattle.qs_node_servers.specs.Servers.{client_of}
use Rattle.qs_node_step.specs.Requests.{waits_as}
use Rattle.qs_node_step.specs.State.{NodeValue, client_cmp}
use Rattle.qs_tm.specs.Participant.{is_owed_by}
use Rattle.qs_tm.specs.declared.participant.Outstanding.{Outstanding}
use Rattle.qs_tm.specs.declared.participant.Participant.{Participant}
use Rattle.qs_world.specs.Driven.{Know, Stage, Take, cut, make, rise, rounds_of, stop, up_to}
use Rattle.qs_world.specs.DrivenRuns.{late}
use Rattle.qs_world.specs.Faults.{both}
use Rattle.qs_world.specs.Moves.{node_no}
use Rattle.qs_world.specs.World.{Opening, World, start}
use Rattle.qs_world_lawful.specs.Tried.{rich}
use Rattle.qs_world_runs.specs.Owing.{names_tid, stands_awaited, stands_uncounted}

-- what the peer owes of it, this node waits for
abbrev owes_at : World → ℕ → ℕ → Tid × Participant → Bool
owes_at world n m entry = (not (m == n) && is_none entry.1.outcome) && is_owed_by (node_no m) entry.1

abbrev peer_ok : World → ℕ → Tid × Participant → ℕ → Bool
peer_ok world n entry m = not (owes_at world n m entry) || stands_open entry.0 (node_no m) world.journal

-- and what its node waits for stands as it is to
abbrev link_ok : NodeValue → List Entry → Tid × Participant → ℕ → Bool
link_ok node history entry m = not (is_open_to (node_no m) entry.1.engage) || stands_uncounted entry.0 (node_no m) node.setting.node (peer_of entry.1.engage (node_no m)).sent history

abbrev request_ok : NodeValue → List Entry → Tid → Outstanding → Bool
request_ok node history tid request = stands_awaited tid request.member.node request.issuer.0 history
    && ((request.issuer.0 == files_no) || (waits_as tid request.member request.number (lookup (is_at (client_cmp (client_of request.issuer))) node.commands)
    && names_tid tid node (lookup (is_at (client_cmp (client_of request.issuer))) node.commands)))

abbrev stands_ok : NodeValue → List Entry → Tid × Participant → Bool
stands_ok node history entry = list_all (link_ok node history entry) (up_to node.setting.nodes) && (is_some entry.1.outcome || list_all (request_ok node history entry.0) entry.1.waiting)

abbrev entry_ok : World → ℕ → Tid × Participant → Bool
entry_ok world n entry = list_all (peer_ok world n entry) (up_to world.size) && stands_ok (world.hosts n).node world.journal entry

abbrev node_ok : World → ℕ → Bool
node_ok world n = not (world.channels.up n) || list_all (entry_ok world n) (world.hosts n).node.manager.known

abbrev open_ok : World → Bool
open_ok world = list_all (node_ok world) (up_to world.size)

abbrev after_stages : Opening → ℕ → ℕ → World
after_stages o clients n = fold make (start o) (take n (rounds_of o.size clients 16))

abbrev walk : World → List Stage → Bool
walk world [] = open_ok world
walk world (stage ∷ stages) = open_ok world && walk (make world stage) stages

-- after each of so many stages from one on
abbrev pub open_in : Opening → ℕ → ℕ → ℕ → Bool
open_in o clients first count = walk (after_stages o clients first) (take count (drop first (rounds_of o.size clients 16)))

-- the node of a stage stops, or is cut off in its step; it restarts, and so many stages follow, in which others notice that
abbrev cut_stage : Bool → World → Stage → World
cut_stage is_kept world (Know n m) = stop n world
cut_stage is_kept world (Take n source) = cut n source is_kept world

abbrev risen : World → Stage → World
risen world (Know n m) = rise n world
risen world (Take n source) = rise n world

abbrev walk_down : Bool → ℕ → ℕ → World → List Stage → Bool
walk_down is_kept more zero world stages = true
walk_down is_kept more (suc count) world [] = true
walk_down is_kept more (suc count) world (stage ∷ stages) =
    walk (risen (cut_stage is_kept world stage) stage) (take more stages) && walk_down is_kept more count (make world stage) stages

abbrev pub open_after : Opening → ℕ → Bool → ℕ → ℕ → ℕ → Bool
open_after o clients is_kept more first count = walk_down is_kept more count (after_stages o clients first) (drop first (rounds_of o.size clients 16))

-- among those there is a node that owed something as it stopped, and restarted
abbrev owes_gone : World → ℕ → ℕ → Bool
owes_gone world n m = (world.channels.up n && nat_lt (world.channels.peer n m) (world.channels.inc m)) && list_any (owes_at world n m) (world.hosts n).node.manager.known

abbrev some_gone : World → Bool
some_gone world = list_any (λ (n : ℕ). list_any (owes_gone world n) (up_to world.size)) (up_to world.size)

abbrev walk_some : Bool → ℕ → World → List Stage → Bool
walk_some is_kept zero world stages = false
walk_some is_kept (suc count) world [] = false
walk_some is_kept (suc count) world (stage ∷ stages) = some_gone (risen (cut_stage is_kept world stage) stage) || walk_some is_kept count (make world stage) stages

abbrev pub some_after : Opening → ℕ → Bool → ℕ → ℕ → Bool
some_after o clients is_kept first count = walk_some is_kept count (after_stages o clients first) (drop first (rounds_of o.size clients 16))

-- nothing stands open in no history
abbrev pub open_without_history : Opening → ℕ → ℕ → Bool
open_without_history o clients n = open_ok (record (after_stages o clients n) { journal = [] })

pub record TriedOwing (alloc : Global) : Type 0 where
  pub early : open_in (rich alloc) 3 0 120 ≡ true
  pub later : open_in (rich alloc) 3 320 60 ≡ true
  pub two : open_in (both alloc) 1 0 120 ≡ true
  pub late_join : open_in (late alloc) 2 90 80 ≡ true
  pub kept : open_after (both alloc) 1 true 25 20 60 ≡ true
  pub lost : open_after (rich alloc) 3 false 25 40 30 ≡ true
  pub there : some_after (both alloc) 1 true 20 60 ≡ true
  pub there_too : some_after (rich alloc) 3 false 40 30 ≡ true
  pub no_history_fails : open_without_history (rich alloc) 3 100 ≡ false
