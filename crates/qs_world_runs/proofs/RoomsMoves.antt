-- Files of each node, and the votes in its log, have few changes: as a run begins, and after each move.
use Rattle.qs_world_runs.proofs.Words.{◌≡◌, ℕ, ◌<◌, ◌==◌, ◌&&◌, not, arith, nat_lt, Bool, true, false, List, [], ◌∷◌, ◌++◌, fold, Option, Some, None, if◌then◌else◌, nat_tests, Global, filter, list_all, ⊤, NodeNo, Tid, CrashCause, no_kept, after_keeping, is_logged, kept, Message, Record, Prepared, Recovery, found_record, mark_committed, nothing_said, recovery, ServersValue, recovered_of, begin_incarnation, settle, Work, work_on, after_step, effects_of, happen, step_work, Event, Setting, Cut}
use Rattle.qs_world_runs.proofs.Words.{Meet, Move, Rise, Source, Step, Stop, cut_log, cut_with, event_of, is_later, log_after, may_move, may_step, moved, risen_host, step_with, stepped_host, stopped_host, waiting_after, IsOpening, is_earlier, is_record, Host, Opening, World, start, Every, every_of, every_on, every_append, every_filter, every_map, AreFew, HasRoom, IsOfRun, MayAsk, store_of, and_parts}
use Rattle.qs_node_kept.specs.declared.kept.Kept as clients
use Rattle.qs_ops.specs.Servers as servers
use Rattle.qs_packet.specs.declared.message.Message.TheVariants as messages
use Rattle.qs_record.specs.declared.record.Record.TheVariants as records
use Rattle.qs_restart.specs.Recovery.{is_in_doubt, is_of, is_vote_of, prepare_of, with_list}
use Rattle.qs_node_step.specs.Opening.{keep_changes, opened_node, opened_servers}
use Rattle.qs_node_step.specs.State.{NodeValue}
use Rattle.qs_node_step.specs.declared.event.Event.TheVariants as events
use Rattle.qs_world.proofs.Below.{each_is}
use Rattle.qs_world.specs.Moves.{is_in_order}
use Rattle.qs_world_runs.specs.Rooms.{HostHasRoom, IsFewVote, RoomsAt}
use Rattle.qs_world_runs.proofs.FewShares.{FewAt, files_changed, kept_few}
use Rattle.qs_world_runs.proofs.RoomsStep.{room_kept}
use Rattle.qs_world_runs.proofs.StoreStages.{answers_keep, begin_incarnation_keeps, happens_keep, settle_keeps}

module _ (T : Tid → Type 0) where
  -- ---- what a log says

  abbrev IsFewPrepared : Prepared → Type 0
  IsFewPrepared vote = IsFewVote T (prepare_of vote)

  marked_few : (tid : Tid) (vote : Prepared) → IsFewPrepared vote → IsFewPrepared (mark_committed tid vote)
  marked_few tid vote few = by (is_of tid vote)
    where
      by : (b : Bool) → IsFewPrepared (if b then record vote { committed = true } else vote)
      by true = few
      by false = few

  listed_few : (tid : Tid) (told : List NodeNo) (said : Recovery) → Every IsFewPrepared said.prepared → Every IsFewPrepared (with_list tid told said).prepared
  listed_few tid [] said few = every_filter IsFewPrepared (λ (vote : Prepared). not (is_of tid vote)) said.prepared few
  listed_few tid (node ∷ nodes) said few = every_map IsFewPrepared IsFewPrepared (mark_committed tid) (marked_few tid) said.prepared few

  found_few : (said : Recovery) (rec : Record) → IsFewVote T rec → Every IsFewPrepared said.prepared → Every IsFewPrepared (found_record said rec).prepared
  found_few said (records.Prepare tid server covers changes) new few =
      every_append IsFewPrepared (filter (λ (other : Prepared). not (is_vote_of tid server other)) said.prepared) (record { tid = tid; server = server; covers = covers; changes = changes; committed = false } ∷ [])
      (every_filter IsFewPrepared (λ (other : Prepared). not (is_vote_of tid server other)) said.prepared few) (new, tt)
  found_few said (records.Commit tid told) new few = listed_few tid told _ few
  found_few said (records.Aborted tid) new few = every_filter IsFewPrepared (λ (vote : Prepared). not (is_of tid vote)) said.prepared few
  found_few said (records.End tid) new few = every_filter IsFewPrepared (λ (vote : Prepared). not (is_of tid vote)) said.prepared few

  all_found : (log : List Record) (said : Recovery) → Every (IsFewVote T) log → Every IsFewPrepared said.prepared → Every IsFewPrepared (fold found_record said log).prepared
  all_found [] said each few = few
  all_found (rec ∷ log) said each few = all_found log (found_record said rec) each.1 (found_few said rec each.0 few)

  -- ---- a node that opens

  keeps_few : (values : ServersValue) (rec : Record) → IsFewVote T rec → FewAt T values.files → FewAt T (keep_changes values rec).files
  keeps_few values (records.Prepare tid server covers changes) few each = files_changed (FewAt T) server (λ value. after_keeping value tid changes) values (λ is. by (is_logged values.files.kind) is) each
    where
      by : (b : Bool) → (server.0 == servers.files_no) ≡ true → FewAt T (if b then record values.files { table = kept values.files.table (record { tid = tid; changes = changes }) } else values.files)
      by true is = kept_few T values.files.table (record { tid = tid; changes = changes }) (λ at. few at is) each
      by false is = each
  keeps_few values (records.Commit tid told) few each = each
  keeps_few values (records.Aborted tid) few each = each
  keeps_few values (records.End tid) few each = each

  keep_all : (recs : List Record) (values : ServersValue) → Every (IsFewVote T) recs → FewAt T values.files → FewAt T (fold keep_changes values recs).files
  keep_all [] values each few = few
  keep_all (rec ∷ recs) values each few = keep_all recs (keep_changes values rec) each.1 (keeps_few values rec each.0 few)

  opened_few : (alloc : Global) (setting : Setting) (log : List Record) (kept : clients.Kept) → Every (IsFewVote T) log → AreFew T (opened_node alloc setting (recovered_of log) kept).servers.files.table
  opened_few alloc setting log kept each = keep_all (recovered_of log).in_doubt (opened_servers setting.quota (recovered_of log))
      (every_map IsFewPrepared (IsFewVote T) prepare_of (λ vote few. few) (filter is_in_doubt (recovery log).prepared) (every_filter IsFewPrepared is_in_doubt (recovery log).prepared (all_found log nothing_said each tt))) tt

  -- ---- a step

  may_any : (event : Event) (work : Work) → MayAsk (λ (tid : Tid). ⊤) event work
  may_any (events.Command client line label command) work = λ begun tid found of own. tt
  may_any (events.Received peer message) work = by message
    where
      by : (m : Message) → MayAsk (λ (tid : Tid). ⊤) (events.Received peer m) work
      by messages.Hello = tt
      by (messages.Request tid label member number issuer op) = tt
      by (messages.Answered tid member number reply) = tt
      by (messages.AskVote tid) = tt
      by (messages.Covered tid up_to) = tt
      by (messages.VotedYes tid up_to names) = tt
      by (messages.VotedAbort tid cause) = tt
      by (messages.Tell tid outcome) = tt
      by (messages.Told tid further) = tt
      by (messages.Inquire tid) = tt
  may_any events.ServeAll work = tt
  may_any (events.PeerRestarted peer old new) work = tt
  may_any events.Tick work = tt

  module _ (node : NodeValue) (event : Event) (free : ℕ) (few : AreFew T node.servers.files.table) where
    -- once what comes is done
    pub done_room : HasRoom T (store_of (happen event (begin_incarnation (work_on node free))))
    done_room = happens_keep (λ (tid : Tid). ⊤) (HasRoom T) (room_kept T) event (begin_incarnation (work_on node free)) (may_any event (begin_incarnation (work_on node free)))
        (begin_incarnation_keeps (λ (tid : Tid). ⊤) (HasRoom T) (room_kept T) (work_on node free) (record { shares = few; records = tt }))

    step_room : HasRoom T (store_of (step_work node event free))
    step_room = answers_keep (λ (tid : Tid). ⊤) (HasRoom T) (room_kept T) (settle (happen event (begin_incarnation (work_on node free)))) (settle_keeps (λ (tid : Tid). ⊤) (HasRoom T) (room_kept T) (happen event (begin_incarnation (work_on node free))) done_room)

  module _ (host : Host) (event : Event) (free : ℕ) (room : HostHasRoom T host) where
    abbrev after : HasRoom T (store_of (step_work host.node event free))
    after = step_room host.node event free room.shares

    log_few : Every (IsFewVote T) (log_after host (effects_of host.node event free))
    log_few = by (effects_of host.node event free).force
      where
        by : (b : Bool) → Every (IsFewVote T) (if b then host.log ++ (host.waiting ++ (effects_of host.node event free).records) else host.log)
        by true = every_append (IsFewVote T) host.log (host.waiting ++ (effects_of host.node event free).records) room.logged (every_append (IsFewVote T) host.waiting (effects_of host.node event free).records room.waits after.records)
        by false = room.logged

    waits_few : Every (IsFewVote T) (waiting_after host (effects_of host.node event free))
    waits_few = by (effects_of host.node event free).force
      where
        by : (b : Bool) → Every (IsFewVote T) (if b then [] else host.waiting ++ (effects_of host.node event free).records)
        by true = tt
        by false = every_append (IsFewVote T) host.waiting (effects_of host.node event free).records room.waits after.records

    stepped_room : (stamp : ℕ) → HostHasRoom T (stepped_host stamp (after_step host.node event free) (effects_of host.node event free) host)
    stepped_room stamp = record { shares = after.shares; logged = log_few; waits = waits_few }

    cut_few : (is_kept : Bool) → Every (IsFewVote T) (cut_log host is_kept (effects_of host.node event free))
    cut_few true = log_few
    cut_few false = room.logged

-- ---- as a run begins: what its logs name is none of the run's

pub rooms_start : (o : Opening) → IsOpening o → RoomsAt o (start o)
rooms_start o opens n low = record { shares = opened_few (IsOfRun o) o.alloc (o.settings n) (o.logs n) no_kept few; logged = few; waits = tt }
  where
    of_record : (rec : Record) → is_record o n rec ≡ true → IsFewVote (IsOfRun o) rec
    of_record (records.Prepare tid server covers changes) is = λ at here. absurd (cc ((and_parts (is_earlier o tid) _ is).0, at))
    of_record (records.Commit tid told) is = tt
    of_record (records.Aborted tid) is = tt
    of_record (records.End tid) is = tt

    few : Every (IsFewVote (IsOfRun o)) (o.logs n)
    few = every_on (λ (rec : Record). is_record o n rec ≡ true) (IsFewVote (IsOfRun o)) of_record (o.logs n) (every_of (is_record o n) (o.logs n) (each_is o.size (λ m. list_all (is_record o m) (o.logs m)) opens.logs n low))

-- ---- after a move

module _ (o : Opening) (world : World) (r : RoomsAt o world) where
  abbrev T : Tid → Type 0
  T = IsOfRun o

  at_one : (n : ℕ) (host : Host) → HostHasRoom T host → (k : ℕ) → k < world.size → HostHasRoom T (if k == n then host else world.hosts k)
  at_one n host room k low = by (k == n)
    where
      by : (b : Bool) → HostHasRoom T (if b then host else world.hosts k)
      by true = room
      by false = r k low

  low_of : (n stamp : ℕ) → is_in_order world n stamp ≡ true → n < world.size
  low_of n stamp is = let low : nat_lt n world.size ≡ true = (and_parts (nat_lt n world.size) _ (and_parts (nat_lt n world.size && _) _ is).0).0 in grind (arith, nat_tests, low)

  later_low : (n stamp : ℕ) → is_later world n stamp ≡ true → n < world.size
  later_low n stamp is = low_of n stamp (and_parts (is_in_order world n stamp) _ is).0

  step_rooms : (n stamp free : ℕ) (source : Source) → n < world.size → RoomsAt o (moved (Step n stamp free source) world)
  step_rooms n stamp free source low = by (event_of world n stamp source)
    where
      by : (e : Option Event) → RoomsAt o (step_with world n stamp free source e)
      by None = r
      by (Some event) = at_one n (stepped_host stamp (after_step (world.hosts n).node event free) (effects_of (world.hosts n).node event free) (world.hosts n)) (stepped_room T (world.hosts n) event free (r n low) stamp)

  stopped_room : (n stamp : ℕ) (log : List Record) → n < world.size → Every (IsFewVote T) log → (k : ℕ) → k < world.size → HostHasRoom T (if k == n then stopped_host stamp log (world.hosts n) else world.hosts k)
  stopped_room n stamp log low few = at_one n (stopped_host stamp log (world.hosts n)) (record { shares = (r n low).shares; logged = few; waits = tt })

  cut_rooms : (n stamp free : ℕ) (source : Source) (is_kept : Bool) (cause : CrashCause) → n < world.size → RoomsAt o (moved (Cut n stamp free source is_kept cause) world)
  cut_rooms n stamp free source is_kept cause low = by (event_of world n stamp source)
    where
      by : (e : Option Event) → RoomsAt o (cut_with world n stamp free is_kept cause e)
      by None = r
      by (Some event) = stopped_room n stamp (cut_log (world.hosts n) is_kept (effects_of (world.hosts n).node event free)) low (cut_few T (world.hosts n) event free (r n low) is_kept)

  rise_rooms : (n stamp inc : ℕ) → n < world.size → RoomsAt o (moved (Rise n stamp inc) world)
  rise_rooms n stamp inc low = at_one n (risen_host stamp inc (recovered_of (world.hosts n).log) (world.hosts n)) (record {
    shares = opened_few T (world.hosts n).node.manager.alloc (record (world.hosts n).node.setting { inc = inc }) (world.hosts n).log (world.hosts n).node.kept.saved (r n low).logged;
    logged = (r n low).logged;
    waits = (r n low).waits;
  })

  meet_rooms : (n stamp m inc : ℕ) → n < world.size → RoomsAt o (moved (Meet n stamp m inc) world)
  meet_rooms n stamp m inc low = at_one n (record (world.hosts n) { stamp = stamp }) (record { shares = (r n low).shares; logged = (r n low).logged; waits = (r n low).waits })

  step_low : (n stamp : ℕ) (source : Source) → may_step world n stamp source ≡ true → n < world.size
  step_low n stamp source may = later_low n stamp (and_parts (is_later world n stamp) _ (and_parts (world.channels.up n) _ may).1).0

  pub rooms_moved : (move : Move) → may_move world move ≡ true → RoomsAt o (moved move world)
  rooms_moved (Step n stamp free source) may = step_rooms n stamp free source (step_low n stamp source may)
  rooms_moved (Cut n stamp free source is_kept cause) may = cut_rooms n stamp free source is_kept cause (step_low n stamp source (and_parts (may_step world n stamp source) _ may).0)
  rooms_moved (Stop n stamp cause) may = let low = low_of n stamp (and_parts (is_in_order world n stamp) _ (and_parts (world.channels.up n) _ may).1).0 in stopped_room n stamp (world.hosts n).log low (r n low).logged
  rooms_moved (Rise n stamp inc) may = rise_rooms n stamp inc (low_of n stamp (and_parts (is_in_order world n stamp) _ (and_parts (not (world.channels.up n)) _ may).1).0)
  rooms_moved (Meet n stamp m inc) may = meet_rooms n stamp m inc (later_low n stamp (and_parts (is_later world n stamp) _ (and_parts (world.channels.up n) _ may).1).0)
