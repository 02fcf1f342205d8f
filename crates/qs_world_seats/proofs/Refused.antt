-- Where memory was refused in a visit of a node or as it was started again: what was made of the event stands in the world, whatever became of the clients.
use Rattle.std.proofs.Common.{◌≡◌, ◌⊎◌, ◌∙◌, ap, inl, inr, refl, subst, sym, ℕ, zero, suc, Bool, true, false, List, [], ◌∷◌, Option, Some, None, Err}
use Rattle.qs_cell.proofs.HearingTurns.{stays_down}
use Rattle.qs_cell.specs.Cell.{IfStands, IsOutcome, StandsAfter, out_of}
use Rattle.qs_cell.specs.Hearing.{BreaksBelow, BreaksFrom, BreaksHearing, HandsUp, HasHeard, Hears, HearsBelow, HearsIn, HearsTimes, Post, TakesIn}
use Rattle.qs_cell.specs.Outcomes.{Outcome}
use Rattle.qs_cell.specs.Outcomes as outcomes
use Rattle.qs_cell.specs.Starts.{CellValue, post_of}
use Rattle.qs_cell.specs.State.{Up, cause_of, disk_of, state_of}
use Rattle.qs_cell.specs.Visits.{IsBroken, IsSameNode, Makes, MakesIn, Seat, TakesTurn, Turns, TurnsAll, TurnsSome, all_delivered, due, left_by, sources_of}
use Rattle.qs_cell.specs.WholeVisits.{BreaksIn, HasBegun}
use Rattle.qs_cell.specs.declared.state.CellState.{CellState}
use Rattle.qs_cell.specs.declared.state.CellState.TheVariants as states
use Rattle.qs_cell.specs.declared.state.RestartFault.TheVariants as restart_faults
use Rattle.qs_cell.specs.declared.stopped.Stopped.{Stopped}
use Rattle.qs_cell_chronicle.specs.declared.occasion.Occasion.{Occasion}
use Rattle.qs_cell_chronicle.specs.declared.occasion.Occasion.TheVariants as occasions
use Rattle.qs_cell_peers.specs.Hears.{ends_heard, heard_of}
use Rattle.qs_cell_peers.specs.Links.{carried_from}
use Rattle.qs_cell_peers.specs.Sessions.{EndAs, SessionsValue}
use Rattle.qs_cell_peers.specs.declared.heard.Heard.{Heard}
use Rattle.qs_cell_peers.specs.declared.heard.Heard.TheVariants as heards
use Rattle.qs_client.specs.declared.cell.ClientCell.{ClientCell}
use Rattle.qs_disk.specs.Disk.{DiskState}
use Rattle.qs_disk.specs.Moments.{Keeps}
use Rattle.qs_files.specs.declared.files.Files.{Files}
use Rattle.qs_link.specs.declared.ends.NodeEnds.{NodeEnds}
use Rattle.qs_node_host.specs.Host.{IsOldOrAfter}
use Rattle.qs_node_step.specs.declared.event.ClientAnswer.{ClientAnswer}
use Rattle.qs_ops.specs.declared.no_server.NoServer.{NoServer}
use Rattle.qs_packet.specs.declared.packet.Packet.{Packet}
use Rattle.qs_world.specs.Posting.{handed_back}
use Rattle.qs_world.specs.World.{Opening}
use Rattle.qs_world_rounds.specs.Breaks.{NodeRefusedIf}
use Rattle.qs_world_rounds.specs.Rounds.{Cast, is_up}
use Rattle.qs_world_seats.proofs.Alike.{each_room, each_visit_begins}
use Rattle.qs_world_seats.proofs.Cellular.{cell_of, room_down, up_of}
use Rattle.qs_world_seats.proofs.Reaching.{goes_on, images_whole, incs_whole}
use Rattle.qs_world_seats.proofs.SitesGoOn.{starts_on}
use Rattle.qs_world_seats.proofs.Stops.{each_replaced}
use Rattle.qs_world_seats.proofs.Turning.{aside_in, hears_by, strange_in, turn_by}
use Rattle.qs_world_seats.proofs.Visiting.{AreTurns, its_turns}
use Rattle.qs_world_seats.specs.Cells.{IsCellIn, SiteRefused}
use Rattle.qs_world_seats.specs.Events.{with_sessions}
use Rattle.qs_world_seats.specs.Reached.{IsGranted, IsInWorld, IsRunning}
use Rattle.qs_world_seats.specs.Seats.{From, IsDueFrom, OfPeer}
use Rattle.qs_world_seats.specs.Shown.{IsDown, Reaches}
use Rattle.qs_world_seats.specs.Visiting.{AreOfClients, IsTurn, PostInWorld}

module _ {D : Type 0} (told : Type 0) (state : D → DiskState) (own size : D → ℕ) (o : Opening) (n : ℕ) (clients : List ClientCell) where
  abbrev pub Stays : CellState D → Type 0
  Stays node = IsCellIn told state o n node

  -- ---- an event, whatever the cause for which it was not made

  event_leaves : (source : From) (occasion : Occasion) (sessions : SessionsValue) (old : Up D) (new : CellState D) (ends : List NodeEnds) (answers : List ClientAnswer) → IsDueFrom source occasion sessions old ends clients
      → IsRunning told state o n old ends clients → Makes told state own size occasion (with_sessions sessions old) new answers → Stays new
  event_leaves source occasion sessions old new ends answers due_is was makes = subst Stays (sym makes.node) (by makes.outcome makes.is makes.stands
      (λ t. subst (λ (x : CellState D). Keeps (IsOldOrAfter (out_of (size old.host.log.disk.disk) occasion old) old.host.log) (state old.host.log.disk.disk) (state (disk_of x).disk)) makes.node (makes.moments t)))
    where
      by : (outcome : Outcome D Files NoServer) → IsOutcome own (size old.host.log.disk.disk) occasion (with_sessions sessions old) outcome
          → (told → IfStands outcome (λ disk. StandsAfter (out_of (size old.host.log.disk.disk) occasion old) old.host.log disk (state disk.disk)))
          → (told → Keeps (IsOldOrAfter (out_of (size old.host.log.disk.disk) occasion old) old.host.log) (state old.host.log.disk.disk) (state (disk_of (state_of outcome)).disk)) → Stays (state_of outcome)
      by (outcomes.Replaced stopped) is stands moments = record {
        first = old.host.log.forced;
        other = old.host.log.forced;
        to_first = record { world = r.world; reached = r.reached; shows = r.shows.node };
        to_other = record { world = r.world; reached = r.reached; shows = r.shows.node };
        images = images_whole told state own size o n old ends clients was stopped is.disk;
        incs = incs_whole told state own size o n old ends clients was stopped is.disk is.setting;
      }
        where
          r : Reaches o n stopped.carried.chronicle.told (IsDown n stopped old.host.log.forced (handed_back n was.reached.world.clients))
          r = each_replaced o n (size old.host.log.disk.disk) occasion sessions old stopped was.reached.world (record { reached = was.reached.reached; shows = was.reached.shows.node }) is
      by (outcomes.Whole running said) is stands moments =
          cell_of told state o n (states.Up running) _ clients (goes_on told state own size o n old ends clients was source occasion sessions due_is (outcomes.Whole running said) is tt stands moments)
      by (outcomes.Followed stopped said) is stands moments =
          cell_of told state o n (states.Down stopped) _ clients (goes_on told state own size o n old ends clients was source occasion sessions due_is (outcomes.Followed stopped said) is tt stands moments)
      by (outcomes.CutOff stopped) is stands moments =
          cell_of told state o n (states.Down stopped) _ clients (goes_on told state own size o n old ends clients was source occasion sessions due_is (outcomes.CutOff stopped) is tt stands moments)

  -- ---- the node goes on in the world with its clients while it is up, and once it is down it stays

  pub record IsLost (node : CellState D) : Type 0 where
    pub stopped : Stopped D
    pub is : node ≡ states.Down stopped
    pub left : Stays node

  abbrev pub Stands : Seat D → Type 0
  Stands seat = PostInWorld told state o n seat clients ⊎ IsLost seat.node

  pub cell_left : (seat : Seat D) → Stands seat → Stays seat.node
  cell_left seat (inl was) = cell_of told state o n seat.node seat.ends clients was
  cell_left seat (inr lost) = lost.left

  never_up : (running : Up D) (ends : List NodeEnds) → IsLost (states.Up running) → ⊥
  never_up running ends lost = cc lost.is

  still_lost : (old ready : CellState D) → IsSameNode old ready → IsLost old → IsLost ready
  still_lost (states.Down old) (states.Down ready) same lost = record { stopped = ready; is = refl; left = room_down told state o n old ready same lost.left }
  still_lost (states.Down old) (states.Up ready) same lost = absurd same
  still_lost (states.Up old) ready same lost = absurd (never_up old [] lost)

  room_stands : (seat : Seat D) (ready : CellState D) → IsSameNode seat.node ready → Stands seat → Stands (record { node = ready; ends = seat.ends })
  room_stands seat ready same (inl was) = inl (each_room told state o n seat.node ready seat.ends clients same was)
  room_stands seat ready same (inr lost) = inr (still_lost seat.node ready same lost)

  -- by whether it is up then
  stand_by : (new : Seat D) → (IsGranted new.node → PostInWorld told state o n new clients) → Stays new.node → Stands new
  stand_by new go left = by new.node refl
    where
      by : (node : CellState D) → new.node ≡ node → Stands new
      by (states.Up running) is = inl (go (λ refused. cc (sym (ap (λ (x : CellState D). cause_of x) is) ∙ refused)))
      by (states.Down stopped) is = inr (record { stopped = stopped; is = is; left = left })

  lost_as : (seat new : Seat D) (stopped : Stopped D) → seat.node ≡ states.Down stopped → new.node ≡ states.Down stopped → Stands seat → Stands new
  lost_as seat new stopped was is s = inr (record { stopped = stopped; is = is; left = subst Stays (was ∙ sym is) (cell_left seat s) })

  -- ---- the turn of a source

  module _ (source : _) (from : From) (turns : (running : Up D) (ends : List NodeEnds) → IsTurn from (states.Up running) ends clients (due source (states.Up running) ends) (left_by source (states.Up running) ends)) where
    turn_leaves : (running : Up D) (ends : List NodeEnds) (new : Seat D) (is_due : Option Occasion) (rest : List NodeEnds) → IsTurn from (states.Up running) ends clients is_due rest
        → TakesTurn told state own size is_due rest (record { node = states.Up running; ends = ends }) new → IsRunning told state o n running ends clients → Stays new.node
    turn_leaves running ends new None rest is taken was = subst Stays (sym (ap (λ (s : Seat D). s.node) taken)) (up_of told state o n running ends clients was)
    turn_leaves running ends new (Some occasion) rest is (answers, (makes, ends_are)) was = event_leaves from occasion running.sessions running new.node ends answers is.0 was makes

    turn_stands : (old mid : Seat D) → Turns told state own size source old mid → Stands old → Stands mid
    turn_stands old mid turn s = by turn.ready turn.turn (room_stands old turn.ready turn.same s)
      where
        by : (ready : CellState D) → TakesTurn told state own size (due source ready old.ends) (left_by source ready old.ends) (record { node = ready; ends = old.ends }) mid → Stands (record { node = ready; ends = old.ends }) → Stands mid
        by (states.Up running) taken (inl was) = stand_by mid
            (λ granted. turn_by told state own size o n clients from (states.Up running) old.ends mid (due source (states.Up running) old.ends) (left_by source (states.Up running) old.ends) (turns running old.ends) taken granted was)
            (turn_leaves running old.ends mid (due source (states.Up running) old.ends) (left_by source (states.Up running) old.ends) (turns running old.ends) taken was)
        by (states.Up running) taken (inr lost) = absurd (never_up running old.ends lost)
        by (states.Down stopped) taken there = lost_as (record { node = states.Down stopped; ends = old.ends }) mid stopped refl (ap (λ (x : Seat D). x.node) taken) there

    broken_leaves : (old new : Seat D) → IsBroken told state own size source old new → Stands old → Stays new.node
    broken_leaves old new (inl same) s = cell_left (record { node = new.node; ends = old.ends }) (room_stands old new.node same.0 s)
    broken_leaves old new (inr (ready, (same, (occasion, (is, (answers, makes)))))) s = by ready is makes (room_stands old ready same s)
      where
        by : (r : CellState D) → due source r old.ends ≡ Some occasion → MakesIn told state own size occasion r new.node answers → Stands (record { node = r; ends = old.ends }) → Stays new.node
        by (states.Up running) due_is it (inl was) = event_leaves from occasion running.sessions running new.node old.ends answers
            (subst (λ (d : Option Occasion). IsTurn from (states.Up running) old.ends clients d (left_by source (states.Up running) old.ends)) due_is (turns running old.ends)).0 was it
        by (states.Up running) due_is it (inr lost) = absurd (never_up running old.ends lost)
        by (states.Down stopped) due_is it there = absurd (cc due_is)

  pub turns_stand : (sources : List _) (old new : Seat D) → TurnsAll told state own size sources old new → AreTurns told state own size clients due left_by sources → Stands old → Stands new
  turns_stand [] old new same all s = subst Stands (sym same) s
  turns_stand (source ∷ sources) old new (mid, (turn, rest)) all s = turns_stand sources mid new rest all.1 (turn_stands source all.0.0 all.0.1.0 old mid turn s)

  pub some_leave : (sources : List _) (old new : Seat D) → TurnsSome told state own size sources old new → AreTurns told state own size clients due left_by sources → Stands old → Stays new.node
  some_leave [] old new turns all s = absurd turns
  some_leave (source ∷ sources) old new (inl broken) all s = broken_leaves source all.0.0 all.0.1.0 old new broken s
  some_leave (source ∷ sources) old new (inr (mid, (turn, rest))) all s = some_leave sources mid new rest all.1 (turn_stands source all.0.0 all.0.1.0 old mid turn s)

  -- ---- a packet

  hands_leave : (heard : Heard) (packet : Packet) (sessions : SessionsValue) (running : Up D) (ends : List NodeEnds) (new : CellState D) (answers : List ClientAnswer) → heard_of running.sessions packet ≡ heard
      → EndAs running.sessions (ends_heard running.sessions packet) sessions → HandsUp told state own size heard packet (states.Up (record running { sessions = sessions })) new answers → IsRunning told state o n running ends clients → Stays new
  hands_leave heards.Message packet sessions running ends new answers is taken makes was =
      event_leaves OfPeer (occasions.Message packet) sessions running new ends answers (record { heard_as = is; ends = taken }) was makes
  hands_leave (heards.Restarted known) packet sessions running ends new answers is taken makes was =
      event_leaves OfPeer (occasions.Restarted packet known) sessions running new ends answers (record { heard_as = is; ends = taken }) was makes
  hands_leave heards.Aside packet sessions running ends new answers is taken aside was =
      cell_of told state o n new (all_delivered answers ends) clients (aside_in told state own size o n clients packet sessions running ends new answers is taken aside was)
  hands_leave heards.Strange packet sessions running ends new answers is taken strange was =
      cell_of told state o n new (all_delivered answers ends) clients (strange_in told state own size o n clients packet sessions running ends new answers is taken strange was)

  taken_leaves : (packet : Packet) (running : Up D) (ends : List NodeEnds) (new : CellState D) (answers : List ClientAnswer) → TakesIn told state own size packet (states.Up running) new answers
      → IsRunning told state o n running ends clients → Stays new
  taken_leaves packet running ends new answers takes was = hands_leave takes.heard packet it.sessions running ends new answers (sym it.is) it.ends
      (subst (λ (x : CellState D). HandsUp told state own size takes.heard packet x new answers) it.node takes.hands) was
    where
      it : HasHeard packet running takes.mid takes.heard
      it = takes.takes

  hears_leave : (m : ℕ) (running : Up D) (old new : Post D) → HearsIn told state own size m (states.Up running) old new → IsRunning told state o n running old.seat.ends clients → Stays new.seat.node
  hears_leave m running old new (None, (links, (took, is))) was = subst Stays (sym (ap (λ (p : Post D). p.seat.node) is)) (up_of told state o n running old.seat.ends clients was)
  hears_leave m running old new (Some packet, (links, (took, (same, (answers, (takes, ends_are)))))) was = taken_leaves packet running old.seat.ends new.seat.node answers takes was

  pub hearing_stands : (m : ℕ) (old new : Post D) → Hears told state own size m old new → Stands old.seat → Stands new.seat
  hearing_stands m old new hears s = by hears.ready hears.turn (room_stands old.seat hears.ready hears.same s)
    where
      by : (ready : CellState D) → HearsIn told state own size m ready old new → Stands (record { node = ready; ends = old.seat.ends }) → Stands new.seat
      by (states.Up running) turn (inl was) = stand_by new.seat (λ granted. hears_by told state own size o n clients m (states.Up running) old new turn granted was) (hears_leave m running old new turn was)
      by (states.Up running) turn (inr lost) = absurd (never_up running old.seat.ends lost)
      by (states.Down stopped) turn there = lost_as (record { node = states.Down stopped; ends = old.seat.ends }) new.seat stopped refl (ap (λ (p : Post D). p.seat.node) turn) there

  times_stand : (m count : ℕ) (old new : Post D) → HearsTimes told state own size m count old new → Stands old.seat → Stands new.seat
  times_stand m zero old new same s = subst (λ (p : Post D). Stands p.seat) (sym same) s
  times_stand m (suc count) old new (mid, (before, hears)) s = hearing_stands m mid new hears (times_stand m count old mid before s)

  below_stands : (nodes : ℕ) (old new : Post D) → HearsBelow told state own size nodes old new → Stands old.seat → Stands new.seat
  below_stands zero old new same s = subst (λ (p : Post D). Stands p.seat) (sym same) s
  below_stands (suc m) old new (mid, (before, hears)) s = times_stand m (carried_from mid.links m) mid new hears (below_stands m old mid before s)

  pub hearing_leaves : (m : ℕ) (old new : Post D) → BreaksHearing told state own size m old new → Stands old.seat → Stays new.seat.node
  hearing_leaves m old new (inl same) s = cell_left (record { node = new.seat.node; ends = old.seat.ends }) (room_stands old.seat new.seat.node same s)
  hearing_leaves m old new (inr (ready, (same, (packet, (has, (answers, takes)))))) s = by ready takes (room_stands old.seat ready same s)
    where
      by : (r : CellState D) → TakesIn told state own size packet r new.seat.node answers → Stands (record { node = r; ends = old.seat.ends }) → Stays new.seat.node
      by (states.Up running) it (inl was) = taken_leaves packet running old.seat.ends new.seat.node answers it was
      by (states.Up running) it (inr lost) = absurd (never_up running old.seat.ends lost)
      by (states.Down stopped) it there = subst Stays (sym (stays_down told state own size packet stopped new.seat.node answers it)) (cell_left (record { node = states.Down stopped; ends = old.seat.ends }) there)

  below_leaves : (nodes : ℕ) (old new : Post D) → BreaksBelow told state own size nodes old new → Stands old.seat → Stays new.seat.node
  below_leaves nodes old new b s = hearing_leaves b.at from.mid new from.breaks (times_stand b.at from.count b.mid from.mid from.heard (below_stands b.at old b.mid b.heard s))
    where
      from : BreaksFrom told state own size b.at b.mid new
      from = b.breaks

  -- ---- a visit

  in_visit : (old begun new : Post D) → BreaksIn told state own size old begun new → AreOfClients old.seat.ends clients → Stands begun.seat → Stays new.seat.node
  in_visit old begun new b of s = elim b.turns [
    | inl some ↦ some_leave (sources_of old.seat.ends) b.heard.seat new.seat some (its_turns told state own size o n clients old.seat.ends of) heard
    | inr all ↦ cell_left new.seat (turns_stand (sources_of old.seat.ends) b.heard.seat new.seat all.0 (its_turns told state own size o n clients old.seat.ends of) heard)
  ]
    where
      heard : Stands b.heard.seat
      heard = below_stands old.links.size begun b.heard b.hears s

  begun_stands : (old begun : Post D) → HasBegun old begun → PostInWorld told state o n old.seat clients → Stands begun.seat
  begun_stands old begun begins was = inl (subst (λ (l : List NodeEnds). IsInWorld told state o n begun.seat.node l clients) (sym begins.ends)
      (each_visit_begins told state o n old.seat.node begun.seat.node old.seat.ends clients begins.round was))

  node_leaves : told → (up : Bool) (old new : CellValue D) → NodeRefusedIf up told state own size old new → AreOfClients old.seat.ends clients → PostInWorld told state o n old.seat clients → Stays new.seat.node
  node_leaves t true old new (inl breaks) of was = elim breaks.within [
    | inl below ↦ below_leaves old.links.size breaks.begun (post_of new) below (begun_stands (post_of old) breaks.begun breaks.begins was)
    | inr it ↦ in_visit (post_of old) breaks.begun (post_of new) it of (begun_stands (post_of old) breaks.begun breaks.begins was)
  ]
  node_leaves t true old new (inr (visits, refused)) of was = cell_left new.seat
      (turns_stand (sources_of old.seat.ends) visits.heard.seat new.seat visits.turns (its_turns told state own size o n clients old.seat.ends of)
      (below_stands old.links.size visits.begun visits.heard visits.hears (begun_stands (post_of old) visits.begun visits.begins was)))
  node_leaves t false old new starts of was = cell_of told state o n new.seat.node old.seat.ends clients
      (starts_on told state own size o n old (record new { seat = record { node = new.seat.node; ends = old.seat.ends } }) (Err restart_faults.NoMemory) clients t starts refl was)

pub each_refused : {D : Type 0} (told : Type 0) (state : D → DiskState) (own size : D → ℕ) (o : Opening) (n place : ℕ) (old new : Cast D) → SiteRefused told state own size o n place old new
each_refused told state own size o n zero old new t refused was = node_leaves told state own size o n old.clients t (is_up old.node) old.node new.node refused was.lanes was.there.there
each_refused told state own size o n (suc at) old new t same was = subst (λ (c : CellValue _). IsCellIn told state o n c.seat.node) (sym same) (cell_of told state o n old.node.seat.node old.node.seat.ends old.clients was.there.there)
