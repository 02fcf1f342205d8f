-- A node on its way through events, up to a trace that it comes to: it keeps room in its log where what begins at it is new to it, since all nodes, that one as far as it has
-- come, are in one world.
use Rattle.std.proofs.Common.{◌≡◌, ◌∙◌, ap, inl, inr, refl, subst, sym, ℕ, List, [], ◌∷◌, Option, None, Some}
use Rattle.std.specs.Prelude.{⊤}
use Rattle.qs_cell.specs.State.{Up, cause_of}
use Rattle.qs_cell.specs.Visits.{IsBroken, IsSameNode, MakesIn, Seat, TakesTurn, Turns, TurnsAll, TurnsSome, due, left_by}
use Rattle.qs_cell.specs.WholeVisits.{steps_in}
use Rattle.qs_cell.specs.declared.state.CellState.{CellState}
use Rattle.qs_cell.specs.declared.state.CellState.TheVariants as states
use Rattle.qs_cell_chronicle.specs.Occasions.{did_of, event_of}
use Rattle.qs_cell_chronicle.specs.declared.occasion.Occasion.{Occasion}
use Rattle.qs_client.specs.declared.cell.ClientCell.{ClientCell}
use Rattle.qs_disk.specs.Disk.{DiskState}
use Rattle.qs_link.specs.declared.ends.NodeEnds.{NodeEnds}
use Rattle.qs_node_host.specs.Host.{free_of}
use Rattle.qs_node_step.specs.declared.event.ClientAnswer.{ClientAnswer}
use Rattle.qs_node_step.specs.declared.trace.Step.{Step}
use Rattle.qs_packet.specs.declared.packet.Packet.{Packet}
use Rattle.qs_world.specs.World.{Opening}
use Rattle.qs_world_links.proofs.Adding.{Adds, adds_seen, makes_adds}
use Rattle.qs_world_links.specs.Posts.{IsOfNode}
use Rattle.qs_world_one.proofs.RoomyCells.{seen_roomy}
use Rattle.qs_world_one.specs.Rooms.{Began, IsRoomyCell}
use Rattle.qs_world_rooms.proofs.Amid.{IsFront, front_then, whole_front}
use Rattle.qs_world_rooms.proofs.Cells.{made_roomy}
use Rattle.qs_world_rooms.proofs.InOneRun.{IsFresh}
use Rattle.qs_world_seats.proofs.Alike.{each_room}
use Rattle.qs_world_seats.proofs.Turning.{turn_by}
use Rattle.qs_world_seats.proofs.Visiting.{AreTurns}
use Rattle.qs_world_seats.specs.Reached.{IsGranted, IsInWorld}
use Rattle.qs_world_seats.specs.Seats.{From}
use Rattle.qs_world_seats.specs.Visiting.{IsTurn, PostInWorld}
use Rattle.qs_world_traces.specs.Links.{packet_in}

pub adds_front : {D : Type 0} {nodes n : ℕ} {takes : List Packet} {old new : CellState D} → Adds nodes n takes old new → IsFront (steps_in old) (steps_in new)
adds_front adds = record { rest = adds.steps; is = adds.trace }

module _ {D : Type 0} (told : Type 0) (state : D → DiskState) (own size : D → ℕ) (o : Opening) (k : ℕ) (clients : List ClientCell) (began : Began) (t : told) (first last : List Step)
    (fresh : (running : Up D) (ends : List NodeEnds) → IsInWorld told state o k (states.Up running) ends clients → IsFront first (steps_in (states.Up running)) → IsFront (steps_in (states.Up running)) last → IsFresh running) where
  -- ---- its trace, whose it is, and its room where the trace goes on to that of the end

  pub record Keeps (node : CellState D) : Type 0 where
    pub of : IsOfNode o.size k node
    pub since : IsFront first (steps_in node)
    pub room : IsFront (steps_in node) last → IsRoomyCell state size began node

  -- and it is in the world with its clients
  pub record OnWay (node : CellState D) (ends : List NodeEnds) : Type 0 where
    pub there : IsInWorld told state o k node ends clients
    pub keeps : Keeps node

  pub ready_keeps : (old ready : CellState D) → IsSameNode old ready → Keeps old → Keeps ready
  ready_keeps old ready same w = record {
    of = adds.node;
    since = front_then w.since (adds_front adds);
    room = λ till. seen_roomy (λ s. s) state size began old ready same (w.room (front_then (adds_front adds) till));
  }
    where
      adds : Adds o.size k [] old ready
      adds = adds_seen o.size k (λ s. s) (λ s. refl) old ready same w.of

  pub ready_on : (old ready : CellState D) (ends : List NodeEnds) → IsSameNode old ready → OnWay old ends → OnWay ready ends
  ready_on old ready ends same w = record { there = each_room told state o k old ready ends clients same w.there; keeps = ready_keeps old ready same w.keeps }

  -- what an event leaves of the trace, of whose it is, and of its room
  pub record Made (ready new : CellState D) : Type 0 where
    pub front : IsFront (steps_in ready) (steps_in new)
    pub of : IsOfNode o.size k new
    pub room : IsFront (steps_in new) last → IsRoomyCell state size began new

  pub made_keeps : (ready new : CellState D) → Keeps ready → Made ready new → Keeps new
  made_keeps ready new w m = record { of = m.of; since = front_then w.since m.front; room = m.room }

  pub same_made : (ready new : CellState D) (ends : List NodeEnds) → new ≡ ready → OnWay ready ends → Made ready new
  same_made ready new ends same w = subst (λ (x : CellState D). Made ready x) (sym same) (record { front = whole_front (steps_in ready); of = w.keeps.of; room = w.keeps.room })

  made : (occasion : Occasion) (ready new : CellState D) (ends : List NodeEnds) (answers : List ClientAnswer) → MakesIn told state own size occasion ready new answers → OnWay ready ends → Made ready new
  made occasion (states.Down stopped) new ends answers (same, said) w = same_made (states.Down stopped) new ends same w
  made occasion (states.Up running) new ends answers makes w = record {
    front = adds_front adds;
    of = adds.node;
    room = λ till. let before : IsFront (steps_in (states.Up running)) last = front_then (adds_front adds) till in
        made_roomy told state own size began t occasion running new answers makes (λ unplanned. fresh running ends w.there w.keeps.since before (free_of (size running.host.log.disk.disk) running.host) (event_of occasion)) (w.keeps.room before);
  }
    where
      adds : Adds o.size k (packet_in (did_of occasion)) (states.Up running) new
      adds = makes_adds o.size k told state own size occasion running new answers makes w.keeps.of

  taken : (ready : CellState D) (ends : List NodeEnds) (new : Seat D) (occasion : Option Occasion) (rest : List NodeEnds) → TakesTurn told state own size occasion rest (record { node = ready; ends = ends }) new → OnWay ready ends → Made ready new.node
  taken ready ends new None rest same w = same_made ready new.node ends (ap (λ (s : Seat D). s.node) same) w
  taken ready ends new (Some occasion) rest (answers, (makes, sent)) w = made occasion ready new.node ends answers makes w

  pub turn_on : (from : From) (ready : CellState D) (ends : List NodeEnds) (new : Seat D) (occasion : Option Occasion) (rest : List NodeEnds) → IsTurn from ready ends clients occasion rest
      → TakesTurn told state own size occasion rest (record { node = ready; ends = ends }) new → IsGranted new.node → OnWay ready ends → OnWay new.node new.ends
  turn_on from ready ends new occasion rest is turn granted w = record {
    there = turn_by told state own size o k clients from ready ends new occasion rest is turn granted w.there;
    keeps = made_keeps ready new.node w.keeps (taken ready ends new occasion rest turn w);
  }

  -- ---- where memory was refused: what was made of the last event leaves room, as of any, and a node that is down stays as it is

  abbrev pub IsThere : CellState D → List NodeEnds → Type 0
  IsThere (states.Up running) ends = IsInWorld told state o k (states.Up running) ends clients
  IsThere (states.Down stopped) ends = ⊤

  pub record Stands (node : CellState D) (ends : List NodeEnds) : Type 0 where
    pub there : IsThere node ends
    pub keeps : Keeps node

  pub there_of : (seat : Seat D) → (IsGranted seat.node → PostInWorld told state o k seat clients) → IsThere seat.node seat.ends
  there_of seat go = by seat.node refl
    where
      by : (node : CellState D) → seat.node ≡ node → IsThere node seat.ends
      by (states.Up running) is = subst (λ (x : CellState D). IsInWorld told state o k x seat.ends clients) is (go (λ refused. cc (sym (ap (λ (x : CellState D). cause_of x) is) ∙ refused)))
      by (states.Down stopped) is = tt

  on_way : (running : Up D) (ends : List NodeEnds) → Stands (states.Up running) ends → OnWay (states.Up running) ends
  on_way running ends s = record { there = s.there; keeps = s.keeps }

  pub ready_stands : (old ready : CellState D) (ends : List NodeEnds) → IsSameNode old ready → Stands old ends → Stands ready ends
  ready_stands (states.Up old) (states.Up ready) ends same s = record { there = each_room told state o k (states.Up old) (states.Up ready) ends clients same s.there; keeps = ready_keeps (states.Up old) (states.Up ready) same s.keeps }
  ready_stands (states.Down old) (states.Down ready) ends same s = record { there = tt; keeps = ready_keeps (states.Down old) (states.Down ready) same s.keeps }
  ready_stands (states.Up old) (states.Down ready) ends same s = absurd same
  ready_stands (states.Down old) (states.Up ready) ends same s = absurd same

  module _ (source : _) (from : From) (its : (running : Up D) (ends : List NodeEnds) → IsTurn from (states.Up running) ends clients (due source (states.Up running) ends) (left_by source (states.Up running) ends)) where
    turn_stands : (old mid : Seat D) → Turns told state own size source old mid → Stands old.node old.ends → Stands mid.node mid.ends
    turn_stands old mid turn s = by turn.ready turn.turn (ready_stands old.node turn.ready old.ends turn.same s)
      where
        by : (ready : CellState D) → TakesTurn told state own size (due source ready old.ends) (left_by source ready old.ends) (record { node = ready; ends = old.ends }) mid → Stands ready old.ends → Stands mid.node mid.ends
        by (states.Up running) taking now = record {
          there = there_of mid (λ granted. turn_by told state own size o k clients from (states.Up running) old.ends mid (due source (states.Up running) old.ends) (left_by source (states.Up running) old.ends) (its running old.ends) taking granted now.there);
          keeps = made_keeps (states.Up running) mid.node now.keeps
              (taken (states.Up running) old.ends mid (due source (states.Up running) old.ends) (left_by source (states.Up running) old.ends) taking (on_way running old.ends now));
        }
        by (states.Down stopped) taking now = subst (λ (x : Seat D). Stands x.node x.ends) (sym taking) (record { there = tt; keeps = now.keeps })

    broken_keeps : (old new : Seat D) → IsBroken told state own size source old new → Stands old.node old.ends → Keeps new.node
    broken_keeps old new (inl same) s = ready_keeps old.node new.node same.0 s.keeps
    broken_keeps old new (inr (ready, (same, (occasion, (is, (answers, makes)))))) s = by ready is makes (ready_stands old.node ready old.ends same s)
      where
        by : (r : CellState D) → due source r old.ends ≡ Some occasion → MakesIn told state own size occasion r new.node answers → Stands r old.ends → Keeps new.node
        by (states.Up running) due_is it now = made_keeps (states.Up running) new.node now.keeps (made occasion (states.Up running) new.node old.ends answers it (on_way running old.ends now))
        by (states.Down stopped) due_is it now = absurd (cc due_is)

  pub turns_stand : (sources : List _) (old new : Seat D) → TurnsAll told state own size sources old new → AreTurns told state own size clients due left_by sources → Stands old.node old.ends → Stands new.node new.ends
  turns_stand [] old new same all s = subst (λ (x : Seat D). Stands x.node x.ends) (sym same) s
  turns_stand (source ∷ sources) old new (mid, (turn, rest)) all s = turns_stand sources mid new rest all.1 (turn_stands source all.0.0 all.0.1.0 old mid turn s)

  pub some_keep : (sources : List _) (old new : Seat D) → TurnsSome told state own size sources old new → AreTurns told state own size clients due left_by sources → Stands old.node old.ends → Keeps new.node
  some_keep [] old new turns all s = absurd turns
  some_keep (source ∷ sources) old new (inl broken) all s = broken_keeps source all.0.0 all.0.1.0 old new broken s
  some_keep (source ∷ sources) old new (inr (mid, (turn, rest))) all s = some_keep sources mid new rest all.1 (turn_stands source all.0.0 all.0.1.0 old mid turn s)
