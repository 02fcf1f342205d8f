-- A turn of a visit goes on in the world: an event is made, or a packet is set aside, or nothing is due.
use Rattle.std.proofs.Common.{◌≡◌, ◌∙◌, ap, refl, subst, sym, ℕ, ◌==◌, Bool, true, false, List, [], ◌∷◌, Option, Some, None, drop, cond, if◌then◌else◌}
use Rattle.qs_base.specs.declared.identifiers.ClientNo.{ClientNo}
use Rattle.qs_book_journal.specs.declared.script_line.ScriptLine.{ScriptLine}
use Rattle.qs_cell.specs.Hearing.{HandsUp, HasHeard, HearsIf, HearsIn, Post, TakesIn}
use Rattle.qs_cell.specs.State.{Up, state_of}
use Rattle.qs_cell.specs.Visits.{Seat, TakesTurn, all_delivered, as_command, due_command, due_of, held_by, left_of}
use Rattle.qs_cell.specs.declared.state.CellState.{CellState}
use Rattle.qs_cell.specs.declared.state.CellState.TheVariants as states
use Rattle.qs_cell_chronicle.specs.declared.carried.HeldCommand.{HeldCommand}
use Rattle.qs_cell_chronicle.specs.declared.occasion.Occasion.{Occasion}
use Rattle.qs_cell_chronicle.specs.declared.occasion.Occasion.TheVariants as occasions
use Rattle.qs_cell_peers.specs.Hears.{comes_in, ends_heard, heard_as, heard_of}
use Rattle.qs_cell_peers.specs.Sessions.{EndAs, Ends, SessionsValue, ends_of, taken_in}
use Rattle.qs_cell_peers.specs.declared.heard.Heard.{Heard}
use Rattle.qs_cell_peers.specs.declared.heard.Heard.TheVariants as heards
use Rattle.qs_client.specs.declared.cell.ClientCell.{ClientCell}
use Rattle.qs_disk.specs.Disk.{DiskState}
use Rattle.qs_link.specs.Lanes.{at_client, first_of, is_of, line_of, next_line, without_line}
use Rattle.qs_link.specs.Lanes as lanes
use Rattle.qs_link.specs.declared.ends.NodeEnds.{NodeEnds}
use Rattle.qs_node_step.specs.declared.event.ClientAnswer.{ClientAnswer}
use Rattle.qs_packet.specs.declared.message.Message.{Message}
use Rattle.qs_packet.specs.declared.packet.Packet.{Packet}
use Rattle.qs_session_channels.specs.End as end
use Rattle.qs_session_channels.specs.End.{Answer, answer}
use Rattle.qs_world.specs.World.{Opening}
use Rattle.qs_world_merge.specs.StepMoves.{seen}
use Rattle.qs_world_packets.specs.PacketWorld.{PacketWorld}
use Rattle.qs_world_seats.proofs.Alike.{each_room}
use Rattle.qs_world_seats.proofs.Reaching.{aside_goes_on, each_event}
use Rattle.qs_world_seats.specs.Reached.{IsGranted, IsInWorld, IsRunning}
use Rattle.qs_world_seats.specs.Seats.{From, HasCell, IsDueFrom, OfClient, OfNode, OfPeer, SeatUp, left}
use Rattle.qs_world_seats.specs.Visiting.{HearsGoOn, IsTurn, PostInWorld, TurnGoesOn}

-- ---- nothing is due of a client

-- a lane that holds no line holds as many without the first
drop_none : (lines : List ScriptLine) → first_of lines ≡ None → drop 1 lines ≡ lines
drop_none [] e = refl
drop_none (line ∷ lines) e = absurd (cc e)

same_lanes : (number : ClientNo) (ends : List NodeEnds) → next_line number ends ≡ None → at_client number without_line ends ≡ ends
same_lanes number [] none = refl
same_lanes number (end ∷ ends) none = by (is_of number end) (same_lanes number ends) none
  where
    by : (b : Bool) → (next_line number ends ≡ None → at_client number without_line ends ≡ ends) → line_of (cond b (Some end) (lanes.ends_of number ends)) ≡ None
        → (if b then without_line end ∷ ends else end ∷ at_client number without_line ends) ≡ end ∷ ends
    by true more e = ap (λ (l : List ScriptLine). record end { commands = record end.commands { inbox = l } } ∷ ends) (drop_none end.commands.inbox e)
    by false more e = ap (λ (l : List NodeEnds). end ∷ l) (more e)

no_line : (next : Option ScriptLine) → as_command next ≡ None → next ≡ None
no_line None e = refl
no_line (Some line) e = absurd (cc e)

left_alone : (number : ClientNo) (inc : ℕ) (held : Option HeldCommand) (ends : List NodeEnds) → due_of inc held (next_line number ends) ≡ None → left_of number held ends ≡ ends
left_alone number inc (Some held) ends none = refl
left_alone number inc None ends none = same_lanes number ends (no_line (next_line number ends) none)

-- ---- a strange packet changes no session

strange_ends : (sessions : SessionsValue) (packet : Packet) → heard_of sessions packet ≡ heards.Strange → ends_heard sessions packet ≡ ends_of sessions
strange_ends sessions packet is = by (comes_in sessions packet) is
  where
    heard_is : (a : Answer Message) → heard_as a ≡ heards.Strange → ⊥
    heard_is (end.OldPeer known got) e = absurd (cc e)
    heard_is (end.OldSelf mine got) e = absurd (cc e)
    heard_is end.Hello e = absurd (cc e)
    heard_is (end.Repeat number) e = absurd (cc e)
    heard_is (end.Early number expected) e = absurd (cc e)
    heard_is (end.Message x) e = absurd (cc e)
    heard_is (end.NewPeer old new) e = of_peer (old == 0) e
      where
        of_peer : (b : Bool) → (if b then heards.Aside else heards.Restarted old) ≡ heards.Strange → ⊥
        of_peer true same = absurd (cc same)
        of_peer false same = absurd (cc same)

    by : (b : Bool) → (if b then heard_as (answer (ends_of sessions packet.from.0) (seen packet)) else heards.Strange) ≡ heards.Strange → (if b then taken_in (ends_of sessions) packet else ends_of sessions) ≡ ends_of sessions
    by true e = absurd (heard_is (answer (ends_of sessions packet.from.0) (seen packet)) e)
    by false e = refl

-- ---- a source's turn

module _ {D : Type 0} (told : Type 0) (state : D → DiskState) (own size : D → ℕ) (o : Opening) (n : ℕ) (clients : List ClientCell) where
  -- an event is made, and its answers go out
  made : (source : From) (running : Up D) (occasion : Occasion) (ends : List NodeEnds) (new : Seat D) → IsDueFrom source occasion running.sessions running ends clients
      → TakesTurn told state own size (Some occasion) (left source running ends) (record { node = states.Up running; ends = ends }) new → IsGranted new.node
      → IsRunning told state o n running ends clients → PostInWorld told state o n new clients
  made source running occasion ends new due_is (answers, (makes, ends_are)) granted was =
      subst (λ (l : List NodeEnds). IsInWorld told state o n new.node l clients) (sym ends_are)
      (each_event told state own size o n source occasion running.sessions running new.node ends clients answers makes granted due_is was)

  -- nothing is due, and the lanes stay
  idle : (node : CellState D) (ends left : List NodeEnds) (new : Seat D) → left ≡ ends → new ≡ record { node = node; ends = left } → IsInWorld told state o n node ends clients → PostInWorld told state o n new clients
  idle node ends left new lanes is was = subst (λ (s : Seat D). PostInWorld told state o n s clients) (sym is) (subst (λ (l : List NodeEnds). IsInWorld told state o n node l clients) (sym lanes) was)

  pub turn_by : (source : From) (ready : CellState D) (ends : List NodeEnds) (new : Seat D) → TurnGoesOn told state own size o n source ready ends new clients
  turn_by source (states.Down stopped) ends new due rest is turn granted was =
      idle (states.Down stopped) ends rest new is.1 (subst (λ (d : Option Occasion). TakesTurn told state own size d rest (record { node = states.Down stopped; ends = ends }) new) is.0 turn) was
  turn_by source (states.Up running) ends new None rest is turn granted was = idle (states.Up running) ends rest new is turn was
  turn_by source (states.Up running) ends new (Some occasion) rest is turn granted was =
      made source running occasion ends new is.0 (subst (λ (l : List NodeEnds). TakesTurn told state own size (Some occasion) l (record { node = states.Up running; ends = ends }) new) is.1 turn) granted was

  -- ---- what is due of a client, and of the node itself

  pub client_turn : (number : ClientNo) (running : Up D) (ends : List NodeEnds) → HasCell number clients
      → IsTurn (OfClient number) (states.Up running) ends clients (due_command number running.carried ends) (left_of number (held_by number running.carried) ends)
  client_turn number running ends has = by (due_command number running.carried ends) refl
    where
      by : (d : Option Occasion) → due_command number running.carried ends ≡ d → IsTurn (OfClient number) (states.Up running) ends clients d (left_of number (held_by number running.carried) ends)
      by None none = left_alone number running.carried.setting.inc (held_by number running.carried) ends none
      by (Some occasion) is = ((refl, (is, has)), refl)

  pub queues_turn : (running : Up D) (ends : List NodeEnds) (b : Bool) → IsTurn OfNode (states.Up running) ends clients (if b then Some occasions.Queues else None) ends
  queues_turn running ends true = ((refl, refl), refl)
  queues_turn running ends false = refl

  -- ---- a packet

  -- it is set aside
  pub aside_in : (packet : Packet) (sessions : SessionsValue) (running : Up D) (ends : List NodeEnds) (new : CellState D) (answers : List ClientAnswer) → heard_of running.sessions packet ≡ heards.Aside
      → EndAs running.sessions (ends_heard running.sessions packet) sessions → HandsUp told state own size heards.Aside packet (states.Up (record running { sessions = sessions })) new answers
      → IsRunning told state o n running ends clients → IsInWorld told state o n new (all_delivered answers ends) clients
  aside_in packet sessions running ends new answers is taken (outcome, (aside, (node, said))) was =
      subst (λ (x : CellState D). IsInWorld told state o n x (all_delivered answers ends) clients) (sym node)
      (subst (λ (a : List ClientAnswer). IsInWorld told state o n (state_of outcome) (all_delivered a ends) clients) (sym said)
      (aside_goes_on told state own size o n running ends clients was packet sessions (record { heard_as = is; ends = taken }) outcome aside))

  -- it is strange
  pub strange_in : (packet : Packet) (sessions : SessionsValue) (running : Up D) (ends : List NodeEnds) (new : CellState D) (answers : List ClientAnswer) → heard_of running.sessions packet ≡ heards.Strange
      → EndAs running.sessions (ends_heard running.sessions packet) sessions → HandsUp told state own size heards.Strange packet (states.Up (record running { sessions = sessions })) new answers
      → IsRunning told state o n running ends clients → IsInWorld told state o n new (all_delivered answers ends) clients
  strange_in packet sessions running ends new answers is taken (same, none) was =
      subst (λ (x : CellState D). IsInWorld told state o n x (all_delivered answers ends) clients) (sym same)
      (subst (λ (a : List ClientAnswer). IsRunning told state o n (record running { sessions = sessions }) (all_delivered a ends) clients) (sym none) (record {
        reached = record { world = was.reached.world; reached = was.reached.reached; shows = unchanged was.reached.world was.reached.shows };
        inc = was.inc;
        stands = was.stands;
      }))
    where
      unchanged : (world : PacketWorld) → SeatUp o n running ends clients world → SeatUp o n (record running { sessions = sessions }) ends clients world
      unchanged world seat = record {
        node = record {
          carried = seat.node.carried;
          up = seat.node.up;
          host = seat.node.host;
          setting = seat.node.setting;
          size = taken.size ∙ seat.node.size;
          me = taken.me ∙ seat.node.me;
          ends = λ m peer. taken.ends_are m (rw (seat.node.size, seat.node.me) peer) ∙ (ap (λ (e : Ends). e m) (strange_ends running.sessions packet is) ∙ seat.node.ends m peer);
        };
        rising = seat.rising;
        own = seat.own;
        held = seat.held;
        each = seat.each;
      }

  hears_in : (heard : Heard) (packet : Packet) (sessions : SessionsValue) (running : Up D) (ends : List NodeEnds) (new : CellState D) (answers : List ClientAnswer) → heard_of running.sessions packet ≡ heard
      → EndAs running.sessions (ends_heard running.sessions packet) sessions → HandsUp told state own size heard packet (states.Up (record running { sessions = sessions })) new answers → IsGranted new
      → IsRunning told state o n running ends clients → IsInWorld told state o n new (all_delivered answers ends) clients
  hears_in heards.Message packet sessions running ends new answers is taken makes granted was =
      each_event told state own size o n OfPeer (occasions.Message packet) sessions running new ends clients answers makes granted (record { heard_as = is; ends = taken }) was
  hears_in (heards.Restarted known) packet sessions running ends new answers is taken makes granted was =
      each_event told state own size o n OfPeer (occasions.Restarted packet known) sessions running new ends clients answers makes granted (record { heard_as = is; ends = taken }) was
  hears_in heards.Aside packet sessions running ends new answers is taken aside granted was = aside_in packet sessions running ends new answers is taken aside was
  hears_in heards.Strange packet sessions running ends new answers is taken strange granted was = strange_in packet sessions running ends new answers is taken strange was

  -- the node's session takes it in first
  taken_in_then : (packet : Packet) (running : Up D) (ends : List NodeEnds) (new : CellState D) (answers : List ClientAnswer) → TakesIn told state own size packet (states.Up running) new answers → IsGranted new
      → IsRunning told state o n running ends clients → IsInWorld told state o n new (all_delivered answers ends) clients
  taken_in_then packet running ends new answers takes granted was = hears_in takes.heard packet it.sessions running ends new answers (sym it.is) it.ends
      (subst (λ (x : CellState D). HandsUp told state own size takes.heard packet x new answers) it.node takes.hands) granted was
    where
      it : HasHeard packet running takes.mid takes.heard
      it = takes.takes

  pub hears_by : (m : ℕ) (ready : CellState D) (old new : Post D) → HearsIn told state own size m ready old new → IsGranted new.seat.node → IsInWorld told state o n ready old.seat.ends clients → PostInWorld told state o n new.seat clients
  hears_by m (states.Down stopped) old new is granted was = idle (states.Down stopped) old.seat.ends old.seat.ends new.seat refl (ap (λ (p : Post D). p.seat) is) was
  hears_by m (states.Up running) old new (taken, (links, (took, turn))) granted was = by taken turn
    where
      by : (t : Option Packet) → HearsIf told state own size t (record { seat = record old.seat { node = states.Up running }; links = links }) new → PostInWorld told state o n new.seat clients
      by None is = idle (states.Up running) old.seat.ends old.seat.ends new.seat refl (ap (λ (p : Post D). p.seat) is) was
      by (Some packet) (same, (answers, (takes, ends_are))) = subst (λ (l : List NodeEnds). IsInWorld told state o n new.seat.node l clients) (sym ends_are)
          (taken_in_then packet running old.seat.ends new.seat.node answers takes granted was)

pub each_hearing : {D : Type 0} (told : Type 0) (state : D → DiskState) (own size : D → ℕ) (o : Opening) (n m : ℕ) (old new : Post D) (clients : List ClientCell) → HearsGoOn told state own size o n m old new clients
each_hearing told state own size o n m old new clients hears granted was =
    hears_by told state own size o n clients m hears.ready old new hears.turn granted (each_room told state o n old.seat.node hears.ready old.seat.ends clients hears.same was)
