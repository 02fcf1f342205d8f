-- A site whose node has room in its log has it behind its turns in a burst, and where memory was refused in one of them.
use Rattle.std.proofs.Common.{◌≡◌, ◌∙◌, ap, inl, inr, subst, sym, ℕ, zero, suc, Bool, List}
use Rattle.qs_cell.specs.Starts.{CellValue, post_of, trace_of}
use Rattle.qs_cell.specs.State.{Up}
use Rattle.qs_cell.specs.WholeVisits.{steps_in}
use Rattle.qs_cell.specs.declared.state.CellState.{CellState}
use Rattle.qs_cell.specs.declared.state.CellState.TheVariants as states
use Rattle.qs_client.specs.declared.cell.ClientCell.{ClientCell}
use Rattle.qs_disk.specs.Disk.{DiskState}
use Rattle.qs_link.specs.declared.ends.NodeEnds.{NodeEnds}
use Rattle.qs_node_step.specs.declared.trace.Step.{Step}
use Rattle.qs_world.specs.World.{Opening}
use Rattle.qs_world_bursts.proofs.Turning.{clients_alone, each_turn, turn_tells}
use Rattle.qs_world_bursts_left.proofs.Acts.{act_keeps, broken_act_room}
use Rattle.qs_world_links.specs.Posts.{IsOfNode, IsPostOf}
use Rattle.qs_world_nodes.proofs.Carrying.{IsSamePost, same_cell}
use Rattle.qs_world_one.specs.Rooms.{Began, IsRoomyCell}
use Rattle.qs_world_rooms.proofs.Amid.{IsFront}
use Rattle.qs_world_rooms.proofs.InOneRun.{IsFresh}
use Rattle.qs_world_rooms.proofs.OnWay.{Keeps}
use Rattle.qs_world_rounds.specs.Rounds.{Cast, VisitAll}
use Rattle.qs_world_rounds.specs.Turns.{ActIsRefused, IsRefusedInAct, TakesSome, TakesTurn, TakesTurns, TurnIsRefused, client_places}
use Rattle.qs_world_seats.proofs.SitesGoOn.{each_site_carries, each_visit_all}
use Rattle.qs_world_seats.specs.Reached.{IsInWorld}
use Rattle.qs_world_seats.specs.Sites.{IsSiteIn}
use Rattle.qs_world_sites.specs.Sites.{CarriesLanes}

module _ {D : Type 0} (told : Type 0) (state : D → DiskState) (own size : D → ℕ) (o : Opening) (k : ℕ) (began : Began) (t : told) (first last : List Step)
    (fresh : (clients : List ClientCell) (running : Up D) (ends : List NodeEnds) → IsInWorld told state o k (states.Up running) ends clients → IsFront first (steps_in (states.Up running)) → IsFront (steps_in (states.Up running)) last → IsFresh running) where
  -- between its turns
  pub record Stays (site : Cast D) : Type 0 where
    pub there : IsSiteIn told state o k site
    pub of : IsPostOf o.size k (post_of site.node)
    pub since : IsFront first (trace_of site.node)
    pub room : IsFront (trace_of site.node) last → IsRoomyCell state size began site.node.seat.node

  -- ---- what comes before the node acts

  module _ (old carried visited : Cast D) (carries : CarriesLanes old carried) (did : Bool) (visits : VisitAll told state own size (client_places carried.clients) carried visited did) (was : Stays old) where
    same : IsSamePost (post_of old.node) (post_of carried.node)
    same = same_cell old.node carried.node old.clients carried.clients carries

    alone : visited.node ≡ carried.node
    alone = clients_alone told state own size carried.clients carried visited did visits

    node_is : visited.node.seat.node ≡ old.node.seat.node
    node_is = ap (λ (c : CellValue D). c.seat.node) alone ∙ same.0

    visited_in : IsSiteIn told state o k visited
    visited_in = each_visit_all told state own size o k (client_places carried.clients) carried visited did t visits (each_site_carries told state o k old carried carries was.there)

    visited_of : IsPostOf o.size k (post_of visited.node)
    visited_of = record {
      node = subst (λ (x : CellState D). IsOfNode o.size k x) (sym node_is) was.of.node;
      size = ap (λ (c : CellValue D). c.links.size) alone ∙ (ap (λ (l : _). l.size) same.1 ∙ was.of.size);
      me = ap (λ (c : CellValue D). c.links.me.0) alone ∙ (ap (λ (l : _). l.me.0) same.1 ∙ was.of.me);
    }

    visited_keeps : Keeps told state own size o k visited.clients began t first last (fresh visited.clients) visited.node.seat.node
    visited_keeps = record {
      of = visited_of.node;
      since = subst (λ (x : CellState D). IsFront first (steps_in x)) (sym node_is) was.since;
      room = subst (λ (x : CellState D). IsFront (steps_in x) last → IsRoomyCell state size began x) (sym node_is) was.room;
    }

  -- ---- a turn

  turn_stays : (old new : Cast D) → TakesTurn told state own size old new → Stays old → Stays new
  turn_stays old new turn was = record {
    there = each_turn told state own size o k old new t turn was.there;
    of = (turn_tells told state own size o.size k old new turn was.of).post;
    since = keeps.since;
    room = keeps.room;
  }
    where
      keeps : Keeps told state own size o k turn.visited.clients began t first last (fresh turn.visited.clients) new.node.seat.node
      keeps = act_keeps told state own size o k turn.visited.clients began t first last (fresh turn.visited.clients) (post_of turn.visited.node) (post_of new.node)
          (visited_of old turn.carried turn.visited turn.carries turn.did turn.visits was)
          (visited_in old turn.carried turn.visited turn.carries turn.did turn.visits was).lanes
          (visited_in old turn.carried turn.visited turn.carries turn.did turn.visits was).there.there
          (visited_keeps old turn.carried turn.visited turn.carries turn.did turn.visits was) turn.act.acts

  pub turns_stay : (turns : ℕ) (old new : Cast D) → TakesTurns told state own size turns old new → Stays old → Stays new
  turns_stay zero old new same was = subst Stays (sym same) was
  turns_stay (suc turns) old new (mid, (before, turn)) was = turn_stays mid new turn (turns_stay turns old mid before was)

  -- ---- memory was refused in one

  act_room : (old new : Cast D) → ActIsRefused told state own size old new → Stays old → IsFront (trace_of new.node) last → IsRoomyCell state size began new.node.seat.node
  act_room old new r was till = by r.refused
    where
      of : IsPostOf o.size k (post_of r.visited.node)
      of = visited_of old r.carried r.visited r.carries r.did r.visits was

      into : IsSiteIn told state o k r.visited
      into = visited_in old r.carried r.visited r.carries r.did r.visits was

      keeps : Keeps told state own size o k r.visited.clients began t first last (fresh r.visited.clients) r.visited.node.seat.node
      keeps = visited_keeps old r.carried r.visited r.carries r.did r.visits was

      by : IsRefusedInAct told state own size r.visited.node new.node → IsRoomyCell state size began new.node.seat.node
      by (inl breaks) = broken_act_room told state own size o k r.visited.clients began t first last (fresh r.visited.clients) (post_of r.visited.node) (post_of new.node) of into.lanes into.there.there keeps breaks till
      by (inr (acts, refused)) = (act_keeps told state own size o k r.visited.clients began t first last (fresh r.visited.clients) (post_of r.visited.node) (post_of new.node) of into.lanes into.there.there keeps acts).room till

  turn_room : (old new : Cast D) → TurnIsRefused told state own size old new → Stays old → IsFront (trace_of new.node) last → IsRoomyCell state size began new.node.seat.node
  turn_room old new (inl (node, links)) was till = subst (λ (x : CellState D). IsRoomyCell state size began x) (sym node) (was.room (subst (λ (x : CellState D). IsFront (steps_in x) last) node till))
  turn_room old new (inr r) was till = act_room old new r was till

  pub some_room : (turns : ℕ) (old new : Cast D) → TakesSome told state own size turns old new → Stays old → IsFront (trace_of new.node) last → IsRoomyCell state size began new.node.seat.node
  some_room turns old new (inl all) was till = (turns_stay turns old new all was).room till
  some_room turns old new (inr (few, (mid, (before, refused)))) was till = turn_room mid new refused (turns_stay few old mid before was) till
