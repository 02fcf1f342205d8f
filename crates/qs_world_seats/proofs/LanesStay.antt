-- The lanes of a node are those of its clients through a visit.
use Rattle.std.proofs.Common.{◌∙◌, ap, inl, inr, refl, subst, sym, ℕ, zero, suc, List, [], ◌∷◌, Option, Some, None}
use Rattle.qs_cell.proofs.Rings.{rings_as, rings_delivered, rings_left, rings_none, rings_on}
use Rattle.qs_cell.specs.Hearing.{HearsBelow, HearsIf, HearsIn, HearsTimes, Post}
use Rattle.qs_cell.specs.Joined.{HaveSameRings}
use Rattle.qs_cell.specs.Visits.{Seat, TakesTurn, TurnsAll, all_delivered, deliver, left_by, sources_of}
use Rattle.qs_cell.specs.WholeVisits.{Visits}
use Rattle.qs_cell.specs.declared.state.CellState.{CellState}
use Rattle.qs_cell.specs.declared.state.CellState.TheVariants as states
use Rattle.qs_cell_chronicle.specs.declared.occasion.Occasion.{Occasion}
use Rattle.qs_cell_peers.specs.Links.{carried_from}
use Rattle.qs_client.specs.declared.cell.ClientCell.{ClientCell}
use Rattle.qs_disk.specs.Disk.{DiskState}
use Rattle.qs_link.specs.declared.ends.NodeEnds.{NodeEnds}
use Rattle.qs_node_step.specs.declared.event.ClientAnswer.{ClientAnswer}
use Rattle.qs_packet.specs.declared.packet.Packet.{Packet}
use Rattle.qs_world_seats.specs.Seats.{HasCell}
use Rattle.qs_world_seats.specs.Visiting.{AreOfClients}

pub lanes_on : (olds news : List NodeEnds) (clients : List ClientCell) → HaveSameRings olds news → AreOfClients olds clients → AreOfClients news clients
lanes_on [] [] clients same all end there = absurd there
lanes_on [] (x ∷ news) clients same all end there = absurd same
lanes_on (e ∷ olds) [] clients same all end there = absurd there
lanes_on (e ∷ olds) (x ∷ news) clients same all end (inl is) =
    let it : HasCell e.client clients = all e (inl refl) in
    record { cell = it.cell; there = it.there; is = it.is ∙ (sym same.0.client ∙ ap (λ (l : NodeEnds). l.client) is) }
lanes_on (e ∷ olds) (x ∷ news) clients same all end (inr there) = lanes_on olds news clients same.1 (λ l at. all l (inr at)) end there

delivered : (answers : List ClientAnswer) (ends : List NodeEnds) → HaveSameRings ends (all_delivered answers ends)
delivered [] ends = rings_none ends
delivered (answer ∷ answers) ends = rings_on ends (deliver ends answer) (all_delivered answers (deliver ends answer)) (rings_delivered ends answer) (delivered answers (deliver ends answer))

module _ {D : Type 0} (told : Type 0) (state : D → DiskState) (own size : D → ℕ) where
  -- ---- turns

  taken : (due : Option Occasion) (left : List NodeEnds) (old new : Seat D) → TakesTurn told state own size due left old new → HaveSameRings left new.ends
  taken None left old new turn = rings_as left new.ends (ap (λ (s : Seat D). s.ends) turn)
  taken (Some occasion) left old new (answers, (makes, is)) = subst (HaveSameRings left) (sym is) (delivered answers left)

  pub turns_rings : (sources : List _) (old new : Seat D) → TurnsAll told state own size sources old new → HaveSameRings old.ends new.ends
  turns_rings [] old new same = rings_as old.ends new.ends (ap (λ (s : Seat D). s.ends) same)
  turns_rings (source ∷ sources) old new (mid, (turn, rest)) =
      rings_on old.ends (left_by source turn.ready old.ends) new.ends (rings_left source turn.ready old.ends)
      (rings_on (left_by source turn.ready old.ends) mid.ends new.ends (taken _ (left_by source turn.ready old.ends) _ mid turn.turn) (turns_rings sources mid new rest))

  -- ---- packets

  heard_if : (packet : Option Packet) (old new : Post D) → HearsIf told state own size packet old new → HaveSameRings old.seat.ends new.seat.ends
  heard_if None old new same = rings_as old.seat.ends new.seat.ends (ap (λ (p : Post D). p.seat.ends) same)
  heard_if (Some packet) old new (links, (answers, (takes, is))) = subst (HaveSameRings old.seat.ends) (sym is) (delivered answers old.seat.ends)

  pub heard_rings : (m : ℕ) (ready : CellState D) (old new : Post D) → HearsIn told state own size m ready old new → HaveSameRings old.seat.ends new.seat.ends
  heard_rings m (states.Down stopped) old new same = rings_as old.seat.ends new.seat.ends (ap (λ (p : Post D). p.seat.ends) same)
  heard_rings m (states.Up running) old new (packet, (left, (took, turn))) = heard_if packet (record { seat = record old.seat { node = states.Up running }; links = left }) new turn

  times_heard : (m count : ℕ) (old new : Post D) → HearsTimes told state own size m count old new → HaveSameRings old.seat.ends new.seat.ends
  times_heard m zero old new same = rings_as old.seat.ends new.seat.ends (ap (λ (p : Post D). p.seat.ends) same)
  times_heard m (suc count) old new (mid, (before, hears)) =
      rings_on old.seat.ends mid.seat.ends new.seat.ends (times_heard m count old mid before) (heard_rings m hears.ready mid new hears.turn)

  below_heard : (nodes : ℕ) (old new : Post D) → HearsBelow told state own size nodes old new → HaveSameRings old.seat.ends new.seat.ends
  below_heard zero old new same = rings_as old.seat.ends new.seat.ends (ap (λ (p : Post D). p.seat.ends) same)
  below_heard (suc m) old new (mid, (before, hears)) =
      rings_on old.seat.ends mid.seat.ends new.seat.ends (below_heard m old mid before) (times_heard m (carried_from mid.links m) mid new hears)

  -- ---- a visit

  pub visit_rings : (old new : Post D) → Visits told state own size old new → HaveSameRings old.seat.ends new.seat.ends
  visit_rings old new visits =
      rings_on old.seat.ends visits.begun.seat.ends new.seat.ends (rings_as old.seat.ends visits.begun.seat.ends visits.begins.ends)
      (rings_on visits.begun.seat.ends visits.heard.seat.ends new.seat.ends (below_heard old.links.size visits.begun visits.heard visits.hears)
      (turns_rings (sources_of old.seat.ends) visits.heard.seat new.seat visits.turns))
