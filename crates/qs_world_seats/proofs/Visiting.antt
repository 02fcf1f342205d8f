-- A visit goes turn by turn: the packets that were carried, the clients by number, then the queues and the clock. It keeps what each turn keeps; so the cell with
-- its clients goes on in the world.
use Rattle.std.proofs.Common.{◌≡◌, ◌∙◌, ap, inl, inr, refl, subst, sym, ℕ, zero, suc, List, [], ◌∷◌, ◌++◌, Option, Some, map}
use Rattle.std.specs.Prelude.{⊤}
use Rattle.qs_book_journal.specs.declared.entry.CrashCause.{CrashCause}
use Rattle.qs_book_journal.specs.declared.entry.CrashCause.TheVariants as causes
use Rattle.qs_cell.specs.Hearing.{Hears, HearsBelow, HearsIn, HearsTimes, Post}
use Rattle.qs_cell.specs.State.{Up, cause_of, is_queued}
use Rattle.qs_cell.specs.Visits.{IsSameNode, Seat, TakesTurn, TurnsAll, client_source, due, left_by, sources_of}
use Rattle.qs_cell.specs.declared.state.CellState.{CellState}
use Rattle.qs_cell.specs.declared.state.CellState.TheVariants as states
use Rattle.qs_cell.specs.declared.stopped.Stopped.{Stopped}
use Rattle.qs_cell_chronicle.specs.declared.occasion.Occasion.{Occasion}
use Rattle.qs_cell_peers.specs.Links.{carried_from}
use Rattle.qs_client.specs.declared.cell.ClientCell.{ClientCell}
use Rattle.qs_disk.specs.Disk.{DiskState}
use Rattle.qs_link.specs.declared.ends.NodeEnds.{NodeEnds}
use Rattle.qs_world.specs.World.{Opening}
use Rattle.qs_world_seats.proofs.Alike.{each_room, each_visit_begins}
use Rattle.qs_world_seats.proofs.Turning.{client_turn, each_hearing, queues_turn, turn_by}
use Rattle.qs_world_seats.specs.Reached.{IsGranted, IsInWorld}
use Rattle.qs_world_seats.specs.Seats.{From, OfClient, OfNode}
use Rattle.qs_world_seats.specs.Visiting.{AreOfClients, IsTurn, PostInWorld, VisitsGoOn}

module _ {D : Type 0} (told : Type 0) (state : D → DiskState) (own size : D → ℕ) where
  -- ---- a node that is down stays so, for the same cause

  -- what stopped stays so
  abbrev pub StaysDown : CellState D → CellState D → Type 0
  StaysDown old new = (cause : CrashCause) → cause_of old ≡ Some cause → cause_of new ≡ Some cause

  room_stays : (old ready : CellState D) → IsSameNode old ready → StaysDown old ready
  room_stays (states.Up old) (states.Up ready) same cause is = absurd (cc is)
  room_stays (states.Down old) (states.Down ready) same cause is = ap (λ (c : CrashCause). Some c) same.1.1.0.0 ∙ is
  room_stays (states.Up old) (states.Down ready) same cause is = absurd same
  room_stays (states.Down old) (states.Up ready) same cause is = absurd same

  turn_stays : (source : _) (ready : CellState D) (ends : List NodeEnds) (new : Seat D) → TakesTurn told state own size (due source ready ends) (left_by source ready ends) (record { node = ready; ends = ends }) new → StaysDown ready new.node
  turn_stays source (states.Up running) ends new turn cause is = absurd (cc is)
  turn_stays source (states.Down stopped) ends new turn cause is = ap (λ (s : Seat D). cause_of s.node) turn ∙ is

  pub turns_stay : (sources : List _) (old new : Seat D) → TurnsAll told state own size sources old new → StaysDown old.node new.node
  turns_stay [] old new same cause is = ap (λ (s : Seat D). cause_of s.node) same ∙ is
  turns_stay (source ∷ sources) old new (mid, (turn, rest)) cause is =
      turns_stay sources mid new rest cause (turn_stays source turn.ready old.ends mid turn.turn cause (room_stays old.node turn.ready turn.same cause is))

  hears_stays : (m : ℕ) (ready : CellState D) (old new : Post D) → HearsIn told state own size m ready old new → StaysDown ready new.seat.node
  hears_stays m (states.Up running) old new turn cause is = absurd (cc is)
  hears_stays m (states.Down stopped) old new turn cause is = ap (λ (p : Post D). cause_of p.seat.node) turn ∙ is

  hearing_stays : (m : ℕ) (old new : Post D) → Hears told state own size m old new → StaysDown old.seat.node new.seat.node
  hearing_stays m old new hears cause is = hears_stays m hears.ready old new hears.turn cause (room_stays old.seat.node hears.ready hears.same cause is)

  times_stay : (m count : ℕ) (old new : Post D) → HearsTimes told state own size m count old new → StaysDown old.seat.node new.seat.node
  times_stay m zero old new same cause is = ap (λ (p : Post D). cause_of p.seat.node) same ∙ is
  times_stay m (suc count) old new (mid, (before, hears)) cause is = hearing_stays m mid new hears cause (times_stay m count old mid before cause is)

  -- where no memory was refused in the end, none was before
  pub granted_before : (old new : CellState D) → StaysDown old new → IsGranted new → IsGranted old
  granted_before old new stays granted refused = granted (stays causes.Memory refused)

  -- ---- the packets, for whatever each keeps

  module _ (P : CellState D → List NodeEnds → Type 0)
      (hearing : (m : ℕ) (old new : Post D) → Hears told state own size m old new → IsGranted new.seat.node → P old.seat.node old.seat.ends → P new.seat.node new.seat.ends) where
    times_hear : (m count : ℕ) (old new : Post D) → HearsTimes told state own size m count old new → IsGranted new.seat.node → P old.seat.node old.seat.ends → P new.seat.node new.seat.ends
    times_hear m zero old new same granted was = subst (λ (p : Post D). P p.seat.node p.seat.ends) (sym same) was
    times_hear m (suc count) old new (mid, (before, hears)) granted was = hearing m mid new hears granted
        (times_hear m count old mid before (granted_before mid.seat.node new.seat.node (hearing_stays m mid new hears) granted) was)

    pub all_hear : (nodes : ℕ) (old new : Post D) → HearsBelow told state own size nodes old new → IsGranted new.seat.node → P old.seat.node old.seat.ends → P new.seat.node new.seat.ends
    all_hear zero old new same granted was = subst (λ (p : Post D). P p.seat.node p.seat.ends) (sym same) was
    all_hear (suc m) old new (mid, (before, hears)) granted was = times_hear m (carried_from mid.links m) mid new hears granted
        (all_hear m old mid before (granted_before mid.seat.node new.seat.node (times_stay m (carried_from mid.links m) mid new hears) granted) was)

  -- ---- the turns of sources, each by whether the node is up, for whatever each keeps

  module _ (clients : List ClientCell) where
    abbrev pub AreTurns : {S : Type 0} → (S → CellState D → List NodeEnds → Option Occasion) → (S → CellState D → List NodeEnds → List NodeEnds) → List S → Type 0
    AreTurns is_due rest [] = ⊤
    AreTurns is_due rest (source ∷ sources) =
        ((from : From) × (((running : Up D) (ends : List NodeEnds) → IsTurn from (states.Up running) ends clients (is_due source (states.Up running) ends) (rest source (states.Up running) ends))
        × ((stopped : Stopped D) (ends : List NodeEnds) → IsTurn from (states.Down stopped) ends clients (is_due source (states.Down stopped) ends) (rest source (states.Down stopped) ends))))
        × AreTurns is_due rest sources

    module _ (P : CellState D → List NodeEnds → Type 0) (room : (old ready : CellState D) (ends : List NodeEnds) → IsSameNode old ready → P old ends → P ready ends)
        (turn : (from : From) (ready : CellState D) (ends : List NodeEnds) (new : Seat D) (occasion : Option Occasion) (rest : List NodeEnds) → IsTurn from ready ends clients occasion rest
        → TakesTurn told state own size occasion rest (record { node = ready; ends = ends }) new → IsGranted new.node → P ready ends → P new.node new.ends) where
      pub all_turn : (sources : List _) (old new : Seat D) → TurnsAll told state own size sources old new → IsGranted new.node → AreTurns due left_by sources → P old.node old.ends → P new.node new.ends
      all_turn [] old new same granted all was = subst (λ (s : Seat D). P s.node s.ends) (sym same) was
      all_turn (source ∷ sources) old new (mid, (first, rest)) granted all was = all_turn sources mid new rest granted all.1
          (by first.ready first.turn (room old.node first.ready old.ends first.same was))
        where
          by : (ready : CellState D) → TakesTurn told state own size (due source ready old.ends) (left_by source ready old.ends) (record { node = ready; ends = old.ends }) mid → P ready old.ends → P mid.node mid.ends
          by (states.Up running) taken now = turn all.0.0 (states.Up running) old.ends mid (due source (states.Up running) old.ends) (left_by source (states.Up running) old.ends)
              (all.0.1.0 running old.ends) taken (granted_before mid.node new.node (turns_stay sources mid new rest) granted) now
          by (states.Down stopped) taken now = turn all.0.0 (states.Down stopped) old.ends mid (due source (states.Down stopped) old.ends) (left_by source (states.Down stopped) old.ends)
              (all.0.1.1 stopped old.ends) taken (granted_before mid.node new.node (turns_stay sources mid new rest) granted) now

-- ---- in the world

module _ {D : Type 0} (told : Type 0) (state : D → DiskState) (own size : D → ℕ) (o : Opening) (n : ℕ) (clients : List ClientCell) where
  pub its_turns : (ends : List NodeEnds) → AreOfClients ends clients → AreTurns told state own size clients due left_by (map client_source ends ++ sources_of [])
  its_turns [] of = (
    (OfNode, ((λ running ends. queues_turn told state own size o n clients running ends (is_queued (states.Up running))), (λ stopped ends. (refl, refl)))),
    ((OfNode, ((λ running ends. ((refl, refl), refl)), (λ stopped ends. (refl, refl)))), tt),
  )
  its_turns (end ∷ ends) of = (
    (OfClient end.client, ((λ running lanes. client_turn told state own size o n clients end.client running lanes (of end (inl refl))), (λ stopped lanes. (refl, refl)))),
    its_turns ends (λ e there. of e (inr there)),
  )

  pub world_hears : (nodes : ℕ) (old new : Post D) → HearsBelow told state own size nodes old new → IsGranted new.seat.node → PostInWorld told state o n old.seat clients → PostInWorld told state o n new.seat clients
  world_hears nodes old new hears granted was = all_hear told state own size (λ node ends. IsInWorld told state o n node ends clients)
      (λ m a b one still there. each_hearing told state own size o n m a b clients one still there) nodes old new hears granted was

  pub world_turns : (sources : List _) (old new : Seat D) → TurnsAll told state own size sources old new → IsGranted new.node → AreTurns told state own size clients due left_by sources → PostInWorld told state o n old clients → PostInWorld told state o n new clients
  world_turns sources old new turns granted all was = all_turn told state own size clients (λ node ends. IsInWorld told state o n node ends clients)
      (λ a b ends same there. each_room told state o n a b ends clients same there)
      (λ from ready ends mid occasion rest is taken still there. turn_by told state own size o n clients from ready ends mid occasion rest is taken still there) sources old new turns granted all was

pub each_visit : {D : Type 0} (told : Type 0) (state : D → DiskState) (own size : D → ℕ) (o : Opening) (n : ℕ) (old new : Post D) (clients : List ClientCell) → VisitsGoOn told state own size o n old new clients
each_visit {D = D} told state own size o n old new clients visits granted of was =
    world_turns told state own size o n clients (sources_of old.seat.ends) visits.heard.seat new.seat visits.turns granted (its_turns told state own size o n clients old.seat.ends of)
    (world_hears told state own size o n clients old.links.size visits.begun visits.heard visits.hears
    (granted_before told state own size visits.heard.seat.node new.seat.node (turns_stay told state own size (sources_of old.seat.ends) visits.heard.seat new.seat visits.turns) granted)
    (subst (λ (l : List NodeEnds). IsInWorld told state o n visits.begun.seat.node l clients) (sym visits.begins.ends)
    (each_visit_begins told state o n old.seat.node visits.begun.seat.node old.seat.ends clients visits.begins.round was)))
