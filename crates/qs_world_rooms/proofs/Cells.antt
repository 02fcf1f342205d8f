-- A cell with room in its log: what an event, a packet and a restart leave of it.
use Rattle.std.proofs.Common.{◌≡◌, ◌⊎◌, ◌∙◌, ap, inl, inr, subst, sym, ℕ, zero, suc, true, List, Some, None}
use Rattle.std.specs.Global.{Global}
use Rattle.std.specs.Prelude.{Result, Bool}
use Rattle.qs_cell.specs.Asides.{IsAsideOutcome}
use Rattle.qs_cell.specs.Cell.{IsUnplanned, out_of}
use Rattle.qs_cell.proofs.HearingTurns.{stays_down}
use Rattle.qs_cell.specs.Hearing.{BreaksBelow, BreaksFrom, BreaksHearing, HandsUp, HasHeard, Hears, HearsBelow, HearsIn, HearsTimes, Post, TakesIn}
use Rattle.qs_cell.specs.Outcomes.{Outcome}
use Rattle.qs_cell.specs.Outcomes as outcomes
use Rattle.qs_cell.specs.Restart.{IfUp, IsRestarted}
use Rattle.qs_cell.specs.Roomy.{ComesNew, IsSetToKeep}
use Rattle.qs_cell.specs.State.{Restarts, Up, disk_of, state_after, state_of}
use Rattle.qs_cell.specs.Visits.{Makes}
use Rattle.qs_cell.specs.declared.state.CellState.{CellState}
use Rattle.qs_cell.specs.declared.state.CellState.TheVariants as states
use Rattle.qs_cell.specs.declared.state.RestartFault.{RestartFault}
use Rattle.qs_cell.specs.declared.stopped.Restarted.{Restarted}
use Rattle.qs_cell.specs.declared.stopped.Restarted.TheVariants as restarts
use Rattle.qs_cell.specs.declared.stopped.Stopped.{Stopped}
use Rattle.qs_cell_chronicle.specs.declared.occasion.Occasion.{Occasion}
use Rattle.qs_cell_chronicle.specs.declared.occasion.Occasion.TheVariants as occasions
use Rattle.qs_cell_peers.specs.Links.{carried_from}
use Rattle.qs_cell_peers.specs.declared.heard.Heard.{Heard}
use Rattle.qs_cell_peers.specs.declared.heard.Heard.TheVariants as heards
use Rattle.qs_disk.specs.Disk.{DiskState, EachImage}
use Rattle.qs_disk.specs.Fuse.{FusedValue}
use Rattle.qs_disk.specs.Moments.{Keeps}
use Rattle.qs_files.specs.declared.files.Files.{Files}
use Rattle.qs_log.specs.Log.{records_of}
use Rattle.qs_log_start.specs.Incarnation.{HasOneOf, IsReopened}
use Rattle.qs_node_host.specs.Host.{HostValue, IsOldOrAfter}
use Rattle.qs_node_host.specs.Roomy.{IsRoomyHost}
use Rattle.qs_node_room.specs.Opens.{are_named}
use Rattle.qs_node_step.specs.declared.event.ClientAnswer.{ClientAnswer}
use Rattle.qs_ops.specs.declared.no_server.NoServer.{NoServer}
use Rattle.qs_packet.specs.declared.packet.Packet.{Packet}
use Rattle.qs_record.specs.declared.record.Record.{Record}
use Rattle.qs_restart.specs.Recovery.{recovery}
use Rattle.qs_world_one.proofs.RoomyCells.{down_roomy, event_roomy, seen_roomy, up_roomy}
use Rattle.qs_world_one.specs.Rooms.{Began, IsRoomyCell, IsRoomyDisk}

module _ {D : Type 0} (told : Type 0) (state : D → DiskState) (own size : D → ℕ) (began : Began) (t : told) where
  abbrev HasRoom : CellState D → Type 0
  HasRoom node = IsRoomyCell state size began node

  -- ---- an event, where what comes is new to the node

  pub made_roomy : (occasion : Occasion) (old : Up D) (new : CellState D) (answers : List ClientAnswer) → Makes told state own size occasion old new answers
      → (IsUnplanned (size old.host.log.disk.disk) occasion old → ComesNew (size old.host.log.disk.disk) occasion old) → HasRoom (states.Up old) → HasRoom new
  made_roomy occasion old new answers makes fresh was = subst (λ (x : CellState D). HasRoom x) (sym makes.node)
      (event_roomy state own size began occasion old fresh was makes.outcome makes.is (subst (λ (x : CellState D). size (disk_of x).disk ≡ size old.host.log.disk.disk) makes.node makes.bytes)
      (subst (λ (x : CellState D). Keeps (IsOldOrAfter (out_of (size old.host.log.disk.disk) occasion old) old.host.log) (state old.host.log.disk.disk) (state (disk_of x).disk)) makes.node (makes.moments t)))

  -- ---- a packet: a client begins nothing by it

  aside_roomy : (packet : Packet) (old : Up D) (outcome : Outcome D Files NoServer) → IsAsideOutcome packet old outcome → HasRoom (states.Up old) → HasRoom (state_of outcome)
  aside_roomy packet old (outcomes.Whole new said) (is, none) was = record {
    set = subst (IsSetToKeep 128) (sym is.setting) was.set;
    roomy = subst (λ (h : HostValue (FusedValue D)). IsRoomyHost 128 (size h.log.disk.disk) h) (sym is.host) was.roomy;
    disk = subst (λ (h : HostValue (FusedValue D)). IsRoomyDisk (size h.log.disk.disk) (state h.log.disk.disk)) (sym is.host) was.disk;
    bytes = ap (λ (h : HostValue (FusedValue D)). size h.log.disk.disk) is.host ∙ was.bytes;
  }
  aside_roomy packet old (outcomes.Replaced new) is was = record {
    set = subst (IsSetToKeep 128) (sym is.setting) was.set;
    roomy = is.full;
    disk = subst (λ (d : FusedValue D). IsRoomyDisk (size d.disk) (state d.disk)) (sym is.disk) was.disk;
    bytes = ap (λ (d : FusedValue D). size d.disk) is.disk ∙ was.bytes;
  }
  aside_roomy packet old (outcomes.Followed new said) is was = absurd is
  aside_roomy packet old (outcomes.CutOff new) is was = absurd is

  hands_roomy : (heard : Heard) (packet : Packet) (old : Up D) (new : CellState D) (answers : List ClientAnswer) → HandsUp told state own size heard packet (states.Up old) new answers → HasRoom (states.Up old) → HasRoom new
  hands_roomy heards.Strange packet old new answers (same, none) was = subst (λ (x : CellState D). HasRoom x) (sym same) was
  hands_roomy heards.Aside packet old new answers (outcome, (is, (same, said))) was = subst (λ (x : CellState D). HasRoom x) (sym same) (aside_roomy packet old outcome is was)
  hands_roomy heards.Message packet old new answers makes was = made_roomy (occasions.Message packet) old new answers makes (λ unplanned. tt) was
  hands_roomy (heards.Restarted known) packet old new answers makes was = made_roomy (occasions.Restarted packet known) old new answers makes (λ unplanned. tt) was

  -- the sessions have taken it in before
  taken_roomy : (packet : Packet) (old : Up D) (new : CellState D) (answers : List ClientAnswer) → TakesIn told state own size packet (states.Up old) new answers → HasRoom (states.Up old) → HasRoom new
  taken_roomy packet old new answers takes was = hands_roomy takes.heard packet (record old { sessions = it.sessions }) new answers
      (subst (λ (x : CellState D). HandsUp told state own size takes.heard packet x new answers) it.node takes.hands) (record { set = was.set; roomy = was.roomy; disk = was.disk; bytes = was.bytes })
    where
      it : HasHeard packet old takes.mid takes.heard
      it = takes.takes

  hears_in : (m : ℕ) (ready : CellState D) (old new : Post D) → HearsIn told state own size m ready old new → HasRoom ready → HasRoom new.seat.node
  hears_in m (states.Down stopped) old new turn was = subst (λ (p : Post D). HasRoom p.seat.node) (sym turn) was
  hears_in m (states.Up running) old new (None, (left, (taken, same))) was = subst (λ (p : Post D). HasRoom p.seat.node) (sym same) was
  hears_in m (states.Up running) old new (Some packet, (left, (taken, (links, (answers, (takes, ends)))))) was = taken_roomy packet running new.seat.node answers takes was

  pub hears_roomy : (m : ℕ) (old new : Post D) → Hears told state own size m old new → HasRoom old.seat.node → HasRoom new.seat.node
  hears_roomy m old new hears was = hears_in m hears.ready old new hears.turn (seen_roomy (λ s. s) state size began old.seat.node hears.ready hears.same was)

  -- all that were carried, whatever becomes of the node on the way
  times_roomy : (m count : ℕ) (old new : Post D) → HearsTimes told state own size m count old new → HasRoom old.seat.node → HasRoom new.seat.node
  times_roomy m zero old new same was = subst (λ (p : Post D). HasRoom p.seat.node) (sym same) was
  times_roomy m (suc count) old new (mid, (before, hears)) was = hears_roomy m mid new hears (times_roomy m count old mid before was)

  pub below_roomy : (nodes : ℕ) (old new : Post D) → HearsBelow told state own size nodes old new → HasRoom old.seat.node → HasRoom new.seat.node
  below_roomy zero old new same was = subst (λ (p : Post D). HasRoom p.seat.node) (sym same) was
  below_roomy (suc m) old new (mid, (before, hears)) was = times_roomy m (carried_from mid.links m) mid new hears (below_roomy m old mid before was)

  -- one of them for which memory was refused
  pub breaking_roomy : (m : ℕ) (old new : Post D) → BreaksHearing told state own size m old new → HasRoom old.seat.node → HasRoom new.seat.node
  breaking_roomy m old new (inl same) was = seen_roomy (λ s. s) state size began old.seat.node new.seat.node same was
  breaking_roomy m old new (inr (ready, (same, (packet, (has, (answers, takes)))))) was = by ready takes (seen_roomy (λ s. s) state size began old.seat.node ready same was)
    where
      by : (r : CellState D) → TakesIn told state own size packet r new.seat.node answers → HasRoom r → HasRoom new.seat.node
      by (states.Up running) it now = taken_roomy packet running new.seat.node answers it now
      by (states.Down stopped) it now = subst (λ (x : CellState D). HasRoom x) (sym (stays_down told state own size packet stopped new.seat.node answers it)) now

  pub broken_roomy : (nodes : ℕ) (old new : Post D) → BreaksBelow told state own size nodes old new → HasRoom old.seat.node → HasRoom new.seat.node
  broken_roomy nodes old new b was = breaking_roomy b.at from.mid new from.breaks (times_roomy b.at from.count b.mid from.mid from.heard (below_roomy b.at old b.mid b.heard was))
    where
      from : BreaksFrom told state own size b.at b.mid new
      from = b.breaks

  -- ---- a restart, which finds one of two logs

  module _ (alloc : Global) (old : Stopped D) (new : CellState D) (answer : Result Bool RestartFault) (r : Restarts told state own size alloc old new answer) (first other : List Record)
      (images : EachImage (HasOneOf first other) (state old.disk.disk).now) (named : (log : List Record) → (log ≡ first) ⊎ (log ≡ other) → are_named (recovery log) ≡ true) (was : HasRoom (states.Down old)) where
    after : (outcome : Restarted D Files NoServer) → new ≡ state_after outcome → IsRestarted own alloc old outcome → IfUp outcome (IsReopened (state old.disk.disk))
        → IfUp outcome (λ log. (a b : List Record) → EachImage (HasOneOf a b) (state old.disk.disk).now → (records_of log ≡ a) ⊎ (records_of log ≡ b)) → HasRoom (state_after outcome)
    after (restarts.Up running) same is reopened found = up_roomy told state own size alloc began old t new answer r was running same is reopened (named (records_of running.host.log) (found first other images))
    after (restarts.Down stopped why) same is reopened found = down_roomy told state own size alloc began old t new answer r was stopped same is.0

    pub restart_roomy : HasRoom new
    restart_roomy = subst (λ (x : CellState D). HasRoom x) (sym r.node) (after r.restarted r.node r.is (r.reopened t) (r.found t))
