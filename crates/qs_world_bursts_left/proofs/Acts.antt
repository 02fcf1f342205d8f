-- A node with room in its log has it behind an act, and where memory was refused in one: a packet begins nothing, and what a client begins is new.
use Rattle.std.proofs.Common.{◌≡◌, ◌⊎◌, inl, inr, refl, subst, sym, ℕ, true, List, [], drop, take}
use Rattle.qs_cell.proofs.Acting.{BreaksOne, MakesOne, breaks_one, one_of}
use Rattle.qs_cell.specs.Acts.{Acts, BreaksAct, BreaksAsked, PutsSome, asked_of, in_act_as}
use Rattle.qs_cell.specs.Hearing.{Hears, Post}
use Rattle.qs_cell.specs.State.{IsSeenAs, Up}
use Rattle.qs_cell.specs.Visits.{Seat, due, left_by, sources_of}
use Rattle.qs_cell.specs.WholeVisits.{steps_in}
use Rattle.qs_cell.specs.declared.state.CellState.{CellState}
use Rattle.qs_cell.specs.declared.state.CellState.TheVariants as states
use Rattle.qs_cell_peers.specs.Links.{IsSameNode, is_peer_of}
use Rattle.qs_cell_peers.specs.Peers.{is_peer}
use Rattle.qs_client.specs.declared.cell.ClientCell.{ClientCell}
use Rattle.qs_disk.specs.Disk.{DiskState}
use Rattle.qs_link.specs.declared.ends.NodeEnds.{NodeEnds}
use Rattle.qs_node_step.specs.declared.trace.Step.{Step}
use Rattle.qs_world.specs.World.{Opening}
use Rattle.qs_world_bursts.proofs.Told.{made_one}
use Rattle.qs_world_bursts.proofs.Turning.{turns_one}
use Rattle.qs_world_links.proofs.Adding.{Adds, adds_seen}
use Rattle.qs_world_links.proofs.Hearing.{Took, post_of_node}
use Rattle.qs_world_links.proofs.Refused.{TookSome, in_hearing}
use Rattle.qs_world_links.specs.Posts.{IsPostOf}
use Rattle.qs_world_one.proofs.RoomyCells.{seen_roomy}
use Rattle.qs_world_one.specs.Rooms.{Began, IsRoomyCell}
use Rattle.qs_world_rooms.proofs.Amid.{IsFront, front_then}
use Rattle.qs_world_rooms.proofs.Cells.{breaking_roomy, hears_roomy}
use Rattle.qs_world_rooms.proofs.InOneRun.{IsFresh}
use Rattle.qs_world_rooms.proofs.OnWay.{Keeps, OnWay, Stands, adds_front, some_keep, there_of, turns_stand}
use Rattle.qs_world_seats.proofs.Alike.{seen_as}
use Rattle.qs_world_seats.proofs.Turning.{each_hearing}
use Rattle.qs_world_seats.proofs.Visiting.{AreTurns, its_turns}
use Rattle.qs_world_seats.specs.Reached.{IsInWorld}
use Rattle.qs_world_seats.specs.Visiting.{AreOfClients, PostInWorld}

module _ {D : Type 0} (told : Type 0) (state : D → DiskState) (own size : D → ℕ) (o : Opening) (k : ℕ) (clients : List ClientCell) (began : Began) (t : told) (first last : List Step)
    (fresh : (running : Up D) (ends : List NodeEnds) → IsInWorld told state o k (states.Up running) ends clients → IsFront first (steps_in (states.Up running)) → IsFront (steps_in (states.Up running)) last → IsFresh running) where
  abbrev Keep : CellState D → Type 0
  Keep node = Keeps told state own size o k clients began t first last fresh node

  abbrev Way : Seat D → Type 0
  Way seat = OnWay told state own size o k clients began t first last fresh seat.node seat.ends

  abbrev Stand : Seat D → Type 0
  Stand seat = Stands told state own size o k clients began t first last fresh seat.node seat.ends

  stand_of : (seat : Seat D) → Way seat → Stand seat
  stand_of seat way = record { there = there_of told state own size o k clients began t first last fresh seat (λ granted. way.there); keeps = way.keeps }

  -- ---- the event

  module _ (begun made : Post D) (of : IsPostOf o.size k begun) (lanes : AreOfClients begun.seat.ends clients) (way : Way begun.seat) where
    turns : (j : ℕ) → AreTurns told state own size clients due left_by (take 1 (drop j (sources_of begun.seat.ends)))
    turns j = turns_one told state own size clients due left_by (sources_of begun.seat.ends) j (its_turns told state own size o k clients begun.seat.ends lanes)

    heard_stands : (m : ℕ) → is_peer_of begun.links m ≡ true → Hears told state own size m begun made → Stand made.seat
    heard_stands m peer hears = record {
      there = there_of told state own size o k clients began t first last fresh made.seat (λ granted. each_hearing told state own size o k m begun made clients hears granted way.there);
      keeps = record {
        of = took.adds.node;
        since = front_then way.keeps.since (adds_front took.adds);
        room = λ till. hears_roomy told state own size began t m begun made hears (way.keeps.room (front_then (adds_front took.adds) till));
      };
    }
      where
        took : Took o.size k begun made
        took = made_one told state own size o.size k begun made (inr (inl (m, (peer, hears)))) of

    made_stands : MakesOne told state own size begun made → Stand made.seat
    made_stands (inl same) = subst (λ (p : Post D). Stand p.seat) (sym same) (stand_of begun.seat way)
    made_stands (inr (inl (m, (peer, hears)))) = heard_stands m peer hears
    made_stands (inr (inr (j, (low, (turning, same))))) = turns_stand told state own size o k clients began t first last fresh (take 1 (drop j (sources_of begun.seat.ends))) begun.seat made.seat turning (turns j) (stand_of begun.seat way)

    -- memory was refused in it
    broken_room : BreaksOne told state own size begun made → IsFront (steps_in made.seat.node) last → IsRoomyCell state size began made.seat.node
    broken_room (inl (m, (peer, breaks))) till = breaking_roomy told state own size began t m begun made breaks (way.keeps.room (front_then (adds_front some.adds) till))
      where
        some : TookSome o.size k begun made
        some = in_hearing o.size k told state own size m
            (subst (λ (j : ℕ). is_peer o.size j m ≡ true) of.me (subst (λ (c : ℕ). is_peer c begun.links.me.0 m ≡ true) of.size peer)) begun made breaks of
    broken_room (inr (j, (low, turning))) till =
        (some_keep told state own size o k clients began t first last fresh (take 1 (drop j (sources_of begun.seat.ends))) begun.seat made.seat turning (turns j) (stand_of begun.seat way)).room till

  -- ---- the act

  module _ (old new : Post D) (of : IsPostOf o.size k old) (lanes : AreOfClients old.seat.ends clients) (there : PostInWorld told state o k old.seat clients) (keep : Keep old.seat.node) where
    module _ (begun : Post D) (act : IsSeenAs in_act_as old.seat.node begun.seat.node) (ends : begun.seat.ends ≡ old.seat.ends) (same : IsSameNode old.links begun.links) where
      adds : Adds o.size k [] old.seat.node begun.seat.node
      adds = adds_seen o.size k in_act_as (λ s. refl) old.seat.node begun.seat.node act of.node

      begun_of : IsPostOf o.size k begun
      begun_of = post_of_node o.size k old begun of same adds.node

      begun_lanes : AreOfClients begun.seat.ends clients
      begun_lanes = subst (λ (l : List NodeEnds). AreOfClients l clients) (sym ends) lanes

      begun_way : Way begun.seat
      begun_way = record {
        there = subst (λ (l : List NodeEnds). IsInWorld told state o k begun.seat.node l clients) (sym ends)
            (seen_as told state o k old.seat.ends clients in_act_as (λ s. record { node = refl; stamp = refl; journal = refl; trace = refl; commands = refl }) old.seat.node begun.seat.node act there);
        keeps = record {
          of = adds.node;
          since = front_then keep.since (adds_front adds);
          room = λ till. seen_roomy in_act_as state size began old.seat.node begun.seat.node act (keep.room (front_then (adds_front adds) till));
        };
      }

    pub act_keeps : Acts told state own size old new → Keep new.seat.node
    act_keeps a = subst (λ (s : Seat D). Keep s.node) (sym a.seat)
        (made_stands a.begun a.made (begun_of a.begun a.act a.ends a.pulls.same) (begun_lanes a.begun a.act a.ends a.pulls.same) (begun_way a.begun a.act a.ends a.pulls.same) (one_of told state own size a.begun a.made a.makes)).keeps

    pub broken_act_room : BreaksAct told state own size old new → IsFront (steps_in new.seat.node) last → IsRoomyCell state size began new.seat.node
    broken_act_room a till = by a.within
      where
        of_begun : IsPostOf o.size k a.begun
        of_begun = begun_of a.begun a.act a.ends a.pulls.same

        lanes_begun : AreOfClients a.begun.seat.ends clients
        lanes_begun = begun_lanes a.begun a.act a.ends a.pulls.same

        way : Way a.begun.seat
        way = begun_way a.begun a.act a.ends a.pulls.same

        by : (new ≡ a.begun) ⊎ (BreaksAsked (asked_of a.begun) told state own size a.begun new ⊎ PutsSome told state own size old a.begun new) → IsRoomyCell state size began new.seat.node
        by (inl same) = subst (λ (p : Post D). IsRoomyCell state size began p.seat.node) (sym same) (way.keeps.room (subst (λ (p : Post D). IsFront (steps_in p.seat.node) last) same till))
        by (inr (inl breaks)) = broken_room a.begun new of_begun lanes_begun way (breaks_one told state own size a.begun new breaks).0 till
        by (inr (inr p)) = subst (λ (s : Seat D). IsRoomyCell state size began s.node) (sym p.seat)
            ((made_stands a.begun p.made of_begun lanes_begun way (one_of told state own size a.begun p.made p.makes)).keeps.room (subst (λ (s : Seat D). IsFront (steps_in s.node) last) p.seat till))
