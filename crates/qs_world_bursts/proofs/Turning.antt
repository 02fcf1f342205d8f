-- A site's turn in a burst: the site stays in the world, and the trace of its cell tells what was done with its links.
use Rattle.std.proofs.Common.{◌≡◌, ◌∙◌, ap, inl, inr, refl, subst, sym, ℕ, zero, suc, Bool, List, [], ◌∷◌, Option, drop, length, map, take}
use Rattle.qs_cell.proofs.Acting.{MakesOne, one_of}
use Rattle.qs_cell.proofs.Rings.{rings_as, rings_on}
use Rattle.qs_cell.specs.Acts.{Acts, in_act_as}
use Rattle.qs_cell.specs.Hearing.{Post}
use Rattle.qs_cell.specs.Joined.{HaveSameRings}
use Rattle.qs_cell.specs.Starts.{CellValue, post_of}
use Rattle.qs_cell.specs.State.{cause_of}
use Rattle.qs_cell.specs.Visits.{Seat, due, left_by, sources_of}
use Rattle.qs_cell.specs.declared.state.CellState.{CellState}
use Rattle.qs_client.specs.declared.cell.ClientCell.{ClientCell}
use Rattle.qs_cell_chronicle.specs.declared.occasion.Occasion.{Occasion}
use Rattle.qs_disk.specs.Disk.{DiskState}
use Rattle.qs_link.specs.declared.ends.NodeEnds.{NodeEnds}
use Rattle.qs_world.specs.World.{Opening}
use Rattle.qs_world_bursts.proofs.Told.{each_act, tells_none, tells_on}
use Rattle.qs_world_bursts.specs.Telling.{TellsOfActs}
use Rattle.qs_world_bursts.specs.Threads.{TurnGoesOn}
use Rattle.qs_world_links.specs.Posts.{IsPostOf}
use Rattle.qs_world_nodes.proofs.Carrying.{IsSamePost, same_cell}
use Rattle.qs_world_one.specs.Seats.{AreApart}
use Rattle.qs_world_plans.specs.Order.{places_below}
use Rattle.qs_world_rounds.specs.Rounds.{Cast, VisitAll}
use Rattle.qs_world_rounds.specs.Turns.{TakesTurn, TakesTurns, client_places}
use Rattle.qs_world_seats.proofs.Alike.{seen_as}
use Rattle.qs_world_seats.proofs.LanesStay.{heard_rings, lanes_on, turns_rings}
use Rattle.qs_world_seats.proofs.SitesGoOn.{each_site_carries, each_visit_all, not_memory}
use Rattle.qs_world_seats.proofs.Turning.{each_hearing}
use Rattle.qs_world_seats.proofs.Visiting.{AreTurns, its_turns, world_turns}
use Rattle.qs_world_seats.specs.Reached.{IsGranted, IsInWorld}
use Rattle.qs_world_seats.specs.Sites.{IsSiteIn}
use Rattle.qs_world_seats.specs.Visiting.{AreOfClients, PostInWorld}

-- one of the sources whose turns go on
pub turns_one : {D S : Type 0} (told : Type 0) (state : D → DiskState) (own size : D → ℕ) (clients : List ClientCell) (is_due : S → CellState D → List NodeEnds → Option Occasion) (rest : S → CellState D → List NodeEnds → List NodeEnds) (sources : List S) (k : ℕ)
    → AreTurns told state own size clients is_due rest sources → AreTurns told state own size clients is_due rest (take 1 (drop k sources))
turns_one told state own size clients is_due rest [] zero all = tt
turns_one told state own size clients is_due rest [] (suc k) all = tt
turns_one told state own size clients is_due rest (source ∷ sources) zero all = (all.0, tt)
turns_one told state own size clients is_due rest (source ∷ sources) (suc k) all = turns_one told state own size clients is_due rest sources k all.1

module _ {D : Type 0} (told : Type 0) (state : D → DiskState) (own size : D → ℕ) where
  -- ---- the node acts

  module _ (o : Opening) (n : ℕ) (clients : List ClientCell) where
    pub made_in : (old new : Post D) → MakesOne told state own size old new → IsGranted new.seat.node → AreOfClients old.seat.ends clients → PostInWorld told state o n old.seat clients → PostInWorld told state o n new.seat clients
    made_in old new (inl same) granted of was = subst (λ (p : Post D). PostInWorld told state o n p.seat clients) (sym same) was
    made_in old new (inr (inl (m, (peer, hears)))) granted of was = each_hearing told state own size o n m old new clients hears granted was
    made_in old new (inr (inr (k, (low, (turns, same))))) granted of was = world_turns told state own size o n clients (take 1 (drop k (sources_of old.seat.ends))) old.seat new.seat turns granted
        (turns_one told state own size clients due left_by (sources_of old.seat.ends) k (its_turns told state own size o n clients old.seat.ends of)) was

    made_rings : (old new : Post D) → MakesOne told state own size old new → HaveSameRings old.seat.ends new.seat.ends
    made_rings old new (inl same) = rings_as old.seat.ends new.seat.ends (ap (λ (p : Post D). p.seat.ends) same)
    made_rings old new (inr (inl (m, (peer, hears)))) = heard_rings told state own size m hears.ready old new hears.turn
    made_rings old new (inr (inr (k, (low, (turns, same))))) = turns_rings told state own size (take 1 (drop k (sources_of old.seat.ends))) old.seat new.seat turns

    act_in : (old new : Post D) → Acts told state own size old new → IsGranted new.seat.node → AreOfClients old.seat.ends clients → PostInWorld told state o n old.seat clients → PostInWorld told state o n new.seat clients
    act_in old new a granted of was = subst (λ (s : Seat D). PostInWorld told state o n s clients) (sym a.seat)
        (made_in a.begun a.made (one_of told state own size a.begun a.made a.makes) (subst (λ (s : Seat D). IsGranted s.node) a.seat granted)
        (subst (λ (l : List NodeEnds). AreOfClients l clients) (sym a.ends) of)
        (subst (λ (l : List NodeEnds). IsInWorld told state o n a.begun.seat.node l clients) (sym a.ends)
        (seen_as told state o n old.seat.ends clients in_act_as (λ s. record { node = refl; stamp = refl; journal = refl; trace = refl; commands = refl }) old.seat.node a.begun.seat.node a.act was)))

    act_rings : (old new : Post D) → Acts told state own size old new → HaveSameRings old.seat.ends new.seat.ends
    act_rings old new a = rings_on old.seat.ends a.begun.seat.ends new.seat.ends (rings_as old.seat.ends a.begun.seat.ends a.ends)
        (subst (λ (s : Seat D). HaveSameRings a.begun.seat.ends s.ends) (sym a.seat) (made_rings a.begun a.made (one_of told state own size a.begun a.made a.makes)))

  -- ---- clients alone are visited

  visits_alone : (numbers : List ℕ) (old new : Cast D) (did : Bool) → VisitAll told state own size (map suc numbers) old new did → new.node ≡ old.node
  visits_alone [] old new did visits = ap (λ (c : Cast D). c.node) visits.0
  visits_alone (at ∷ numbers) old new did (mid, (first, (more, (visit, (rest, is))))) = visits_alone numbers mid new more rest ∙ visit.0

  pub clients_alone : (clients : List ClientCell) (old new : Cast D) (did : Bool) → VisitAll told state own size (client_places clients) old new did → new.node ≡ old.node
  clients_alone clients old new did visits = visits_alone (places_below (length clients)) old new did visits

  -- ---- a turn

  pub each_turn : (o : Opening) (n : ℕ) (old new : Cast D) → TurnGoesOn told state own size o n old new
  each_turn o n old new t turn was = record {
    there = record {
      apart = subst AreApart (sym turn.same) visited.there.apart;
      there = subst (λ (l : List ClientCell). PostInWorld told state o n new.node.seat l) (sym turn.same)
          (act_in o n turn.visited.clients (post_of turn.visited.node) (post_of new.node) turn.act.acts (not_memory (cause_of new.node.seat.node) turn.act.granted) visited.lanes visited.there.there);
    };
    lanes = subst (λ (l : List ClientCell). AreOfClients new.node.seat.ends l) (sym turn.same)
        (lanes_on turn.visited.node.seat.ends new.node.seat.ends turn.visited.clients (act_rings o n turn.visited.clients (post_of turn.visited.node) (post_of new.node) turn.act.acts) visited.lanes);
  }
    where
      visited : IsSiteIn told state o n turn.visited
      visited = each_visit_all told state own size o n (client_places turn.carried.clients) turn.carried turn.visited turn.did t turn.visits (each_site_carries told state o n old turn.carried turn.carries was)

  pub turn_tells : (nodes n : ℕ) (old new : Cast D) → TakesTurn told state own size old new → IsPostOf nodes n (post_of old.node) → TellsOfActs nodes n (post_of old.node) (post_of new.node)
  turn_tells nodes n old new turn of = tells_on nodes n (post_of old.node) (post_of turn.visited.node) (post_of new.node) before
      (each_act told state own size nodes n (post_of turn.visited.node) (post_of new.node) turn.act.acts before.post)
    where
      carried : IsSamePost (post_of old.node) (post_of turn.carried.node)
      carried = same_cell old.node turn.carried.node old.clients turn.carried.clients turn.carries

      alone : turn.visited.node ≡ turn.carried.node
      alone = clients_alone turn.carried.clients turn.carried turn.visited turn.did turn.visits

      before : TellsOfActs nodes n (post_of old.node) (post_of turn.visited.node)
      before = tells_none nodes n (post_of old.node) (post_of turn.visited.node) (ap (λ (c : CellValue D). c.seat.node) alone ∙ carried.0) (ap (λ (c : CellValue D). c.links) alone ∙ carried.1) of

  -- ---- so many of them

  pub each_turns : (o : Opening) (n turns : ℕ) (old new : Cast D) → told → TakesTurns told state own size turns old new → IsSiteIn told state o n old → IsSiteIn told state o n new
  each_turns o n zero old new t same was = subst (IsSiteIn told state o n) (sym same) was
  each_turns o n (suc turns) old new t (mid, (before, turn)) was = each_turn o n mid new t turn (each_turns o n turns old mid t before was)

  pub turns_tell : (nodes n turns : ℕ) (old new : Cast D) → TakesTurns told state own size turns old new → IsPostOf nodes n (post_of old.node) → TellsOfActs nodes n (post_of old.node) (post_of new.node)
  turns_tell nodes n zero old new same of = tells_none nodes n (post_of old.node) (post_of new.node) (ap (λ (c : Cast D). c.node.seat.node) same) (ap (λ (c : Cast D). c.node.links) same) of
  turns_tell nodes n (suc turns) old new (mid, (before, turn)) of =
      let first : TellsOfActs nodes n (post_of old.node) (post_of mid.node) = turns_tell nodes n turns old mid before of in
      tells_on nodes n (post_of old.node) (post_of mid.node) (post_of new.node) first (turn_tells nodes n mid new turn first.post)
