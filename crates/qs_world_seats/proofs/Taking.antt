-- An event that is due comes: it is the next of its source in the world, and each client of the node stands where it should once it is taken.
use Rattle.std.proofs.Common.{◌≡◌, ◌⊎◌, ◌∙◌, ap, inl, inr, refl, subst, sym, ℕ, ◌==◌, Bool, true, false, List, [], ◌∷◌, Option, Some, None, if◌then◌else◌}
use Rattle.std.specs.BTreeMap.{is_at}
use Rattle.qs_base.specs.declared.identifiers.ClientNo.{ClientNo}
use Rattle.qs_base_lemmas.proofs.Tests.{eqb-self}
use Rattle.qs_book_journal.specs.declared.script_line.ScriptLine.{ScriptLine}
use Rattle.qs_book_laws.proofs.Maps.{lookup_put_apart}
use Rattle.qs_book_laws.proofs.Rising.{IsRising, put_rises, remove_rises}
use Rattle.qs_cell.specs.State.{Up}
use Rattle.qs_cell.specs.Visits.{due_of, left_of}
use Rattle.qs_cell_chronicle.specs.Carried.{Commands, answered, in_hand, is_due_again, without}
use Rattle.qs_cell_chronicle.specs.Occasions.{event_of, taken}
use Rattle.qs_cell_chronicle.specs.declared.carried.HeldCommand.{HeldCommand}
use Rattle.qs_cell_chronicle.specs.declared.occasion.Occasion.{Occasion}
use Rattle.qs_cell_chronicle.specs.declared.occasion.Occasion.TheVariants as occasions
use Rattle.qs_cell_peers.specs.Sessions.{SessionsValue}
use Rattle.qs_client.specs.declared.cell.ClientCell.{ClientCell}
use Rattle.qs_link.specs.Lanes.{next_line}
use Rattle.qs_link.specs.declared.ends.NodeEnds.{NodeEnds}
use Rattle.qs_node_step.specs.State.{client_cmp}
use Rattle.qs_node_step.specs.declared.event.ClientAnswer.{ClientAnswer}
use Rattle.qs_world.specs.Posting as posting
use Rattle.qs_world.specs.World.{Opening}
use Rattle.qs_world_merge.specs.LocalRuns.{client_at}
use Rattle.qs_world_one.proofs.Handing as handing
use Rattle.qs_world_one.proofs.Handing.{each_comes, each_handed, exact, not_at, same_or}
use Rattle.qs_world_one.specs.Showing.{HandsOver, IsDue, held_for}
use Rattle.qs_world_packets.specs.PacketMoves.{command_from}
use Rattle.qs_world_packets.specs.PacketWorld.{PacketWorld}
use Rattle.qs_world_seats.proofs.Homes.{seated_handed}
use Rattle.qs_world_seats.proofs.InHands.{client_total}
use Rattle.qs_world_seats.specs.Events.{Comes, handed_over}
use Rattle.qs_world_seats.specs.Seats.{AreOfNode, AreSeated, From, HasCell, IsDueFrom, IsSeated, OfClient, OfNode, OfPeer, SeatUp, at_home, left}

pub answered_rising : (said : List ClientAnswer) (commands : Commands) → IsRising client_cmp commands → IsRising client_cmp (answered said commands)
answered_rising [] commands rising = rising
answered_rising (a ∷ said) commands rising = answered_rising said (without commands a) (remove_rises client_cmp (is_at (client_cmp a.client)) commands rising)

-- ---- which event is due

record IsCommandDue (inc : ℕ) (held : Option HeldCommand) (next : Option ScriptLine) (occasion : Occasion) : Type 0 where
  line : ScriptLine
  is : occasion ≡ occasions.Command line
  due_is : IsDue inc held next line

one_of : {A : Type 0} {x y : A} → Some x ≡ Some y → y ≡ x
one_of e = cc e

command_due : (inc : ℕ) (held : Option HeldCommand) (next : Option ScriptLine) (occasion : Occasion) → due_of inc held next ≡ Some occasion → IsCommandDue inc held next occasion
command_due inc None None occasion e = absurd (cc e)
command_due inc None (Some line) occasion e = record { line = line; is = one_of e; due_is = refl }
command_due inc (Some held) next occasion e = by (is_due_again inc held) refl e
  where
    by : (b : Bool) → is_due_again inc held ≡ b → (if b then Some (occasions.Command held.line) else None) ≡ Some occasion → IsCommandDue inc (Some held) next occasion
    by true again same = record { line = held.line; is = one_of same; due_is = (again, refl) }
    by false again same = absurd (cc same)

-- ---- the event comes

pub record IsTaken {D : Type 0} (o : Opening) (n : ℕ) (source : From) (occasion : Occasion) (sessions : SessionsValue) (old : Up D) (ends : List NodeEnds) (clients : List ClientCell) (world : PacketWorld) : Type 0 where
  pub comes : Comes n occasion old.sessions sessions world
  pub rising : IsRising client_cmp (taken occasion old.carried.setting.inc old.carried.commands)
  pub own : AreOfNode o n (taken occasion old.carried.setting.inc old.carried.commands)
  pub each : AreSeated o n old.carried.setting.inc (Some old.carried.setting.inc) (taken occasion old.carried.setting.inc old.carried.commands) (left source old ends) (handed_over occasion world.clients) clients

module _ {D : Type 0} (o : Opening) (n : ℕ) (old : Up D) (ends : List NodeEnds) (clients : List ClientCell) (world : PacketWorld) (seat : SeatUp o n old ends clients world) where
  abbrev inc : ℕ
  inc = old.carried.setting.inc

  abbrev commands : Commands
  commands = old.carried.commands

  module _ (from : ClientNo) (line : ScriptLine) (has : HasCell from clients) (due_is : IsDue inc (held_for from commands) (next_line from ends) line) where
    shown : IsSeated o n inc (Some inc) commands ends world.clients has.cell
    shown = seat.each has.cell has.there

    its_due : IsDue inc (held_for has.cell.client commands) (next_line has.cell.client ends) line
    its_due = subst (λ (k : ClientNo). IsDue inc (held_for k commands) (next_line k ends) line) (sym has.is) due_is

    of_cell : line.client ≡ has.cell.client
    of_cell = (handing.comes inc commands ends (at_home world.clients) line has.cell shown.shows its_due).own

    over : HandsOver line (at_home world.clients)
    over = each_handed inc commands ends (at_home world.clients) line has.cell shown.shows its_due

    at_is : (world.clients line.client.0).at ≡ n
    at_is = ap (λ (k : ClientNo). (world.clients k.0).at) of_cell ∙ shown.at

    next_is : posting.next_line (world.clients line.client.0) ≡ Some line
    next_is = over.next

    event_is : command_from world n line.client.0 ≡ Some (event_of (occasions.Command line))
    event_is = rw (over.small, at_is, eqb-self n, next_is) refl

    own_then : AreOfNode o n (in_hand inc line commands)
    own_then client held is = by (same_or client line.client)
      where
        by : (client ≡ line.client) ⊎ ((client.0 == line.client.0) ≡ false) → client_at o client.0 ≡ n
        by (inl same) = ap (λ (k : ClientNo). client_at o k.0) (same ∙ of_cell) ∙ shown.of
        by (inr far) = seat.own client held (sym (lookup_put_apart client_cmp line.client (record { line = line; inc = inc }) (exact line.client) (is_at (client_cmp client)) (not_at client line.client far) commands) ∙ is)

    command_taken : (sessions : SessionsValue) → sessions ≡ old.sessions → IsTaken o n (OfClient from) (occasions.Command line) sessions old ends clients world
    command_taken sessions same = record {
      comes = (same, event_is);
      rising = put_rises client_cmp client_total line.client (record { line = line; inc = inc }) commands seat.rising;
      own = own_then;
      each = λ client there. seated_handed o n inc (Some inc) commands (in_hand inc line commands) ends (left_of from (held_for from commands) ends) world.clients line.client.0 client
          (each_comes inc commands ends (at_home world.clients) line from client (of_cell ∙ has.is) due_is) (seat.each client there);
    }

  pub event_taken : (source : From) (occasion : Occasion) (sessions : SessionsValue) → IsDueFrom source occasion sessions old ends clients → IsTaken o n source occasion sessions old ends clients world
  event_taken (OfClient from) occasion sessions (same, (e, has)) =
      let it : IsCommandDue inc (held_for from commands) (next_line from ends) occasion = command_due inc (held_for from commands) (next_line from ends) occasion e in
      subst (λ (x : Occasion). IsTaken o n (OfClient from) x sessions old ends clients world) (sym it.is) (command_taken from it.line has it.due_is sessions same)
  event_taken OfNode (occasions.Command line) sessions (same, e) = absurd (cc e)
  event_taken OfNode (occasions.Message packet) sessions (same, e) = absurd (cc e)
  event_taken OfNode (occasions.Restarted packet known) sessions (same, e) = absurd (cc e)
  event_taken OfNode occasions.Queues sessions (same, e) = record { comes = same; rising = seat.rising; own = seat.own; each = seat.each }
  event_taken OfNode occasions.Clock sessions (same, e) = record { comes = same; rising = seat.rising; own = seat.own; each = seat.each }
  event_taken OfPeer (occasions.Command line) sessions is = absurd is
  event_taken OfPeer occasions.Queues sessions is = absurd is
  event_taken OfPeer occasions.Clock sessions is = absurd is
  event_taken OfPeer (occasions.Message packet) sessions is = record { comes = is; rising = seat.rising; own = seat.own; each = seat.each }
  event_taken OfPeer (occasions.Restarted packet known) sessions is = record { comes = is; rising = seat.rising; own = seat.own; each = seat.each }
