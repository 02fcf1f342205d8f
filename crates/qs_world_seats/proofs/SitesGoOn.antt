-- A site of a run goes on in the world: by a visit of its node, a turn of a client, and as its lanes are carried.
use Rattle.std.proofs.Common.{◌≡◌, ◌≢◌, ◌∙◌, ap, refl, subst, sym, ℕ, zero, suc, Bool, true, false, List, [], ◌∷◌, Option, Some, None, Result, Ok, Err, map, slice_get}
use Rattle.qs_book_journal.specs.declared.entry.CrashCause.{CrashCause}
use Rattle.qs_book_journal.specs.declared.entry.CrashCause.TheVariants as causes
use Rattle.qs_cell.specs.Starts.{CellValue, post_of}
use Rattle.qs_cell.specs.State.{StartsAgain, cause_of}
use Rattle.qs_cell.specs.declared.state.CellState.{CellState}
use Rattle.qs_cell.specs.declared.state.CellState.TheVariants as states
use Rattle.qs_cell.specs.declared.state.RestartFault.{RestartFault}
use Rattle.qs_cell.specs.declared.state.RestartFault.TheVariants as restart_faults
use Rattle.qs_cell_peers.specs.Links.{LinksValue}
use Rattle.qs_client.specs.declared.cell.ClientCell.{ClientCell}
use Rattle.qs_disk.specs.Disk.{DiskState}
use Rattle.qs_link.specs.declared.ends.NodeEnds.{NodeEnds}
use Rattle.qs_world.specs.World.{Opening}
use Rattle.qs_world_one.proofs.Numbers.{carried_numbers, clients_numbers, set_numbers}
use Rattle.qs_world_rounds.specs.Rounds.{Cast, ClientVisitAt, NodeVisitIf, is_refused, is_up}
use Rattle.qs_world_rounds.specs.Seats.{number_of}
use Rattle.qs_world_seats.proofs.Apart.{lanes_as}
use Rattle.qs_world_seats.proofs.Carried.{each_carries}
use Rattle.qs_world_seats.proofs.ClientTurns.{each_client_turn}
use Rattle.qs_world_seats.proofs.LanesStay.{lanes_on, visit_rings}
use Rattle.qs_world_seats.proofs.Reaching.{each_restart}
use Rattle.qs_world_seats.proofs.Visiting.{each_visit}
use Rattle.qs_world_seats.specs.Carrying.{IsWithClients}
use Rattle.qs_world_seats.specs.Reached.{IsInWorld}
use Rattle.qs_world_seats.specs.Sites.{IsSiteIn, NodeGoesOn, SiteCarries, SiteFails, SiteGoesOn, SiteLinks, SiteVisits}
use Rattle.qs_world_seats.specs.Visiting.{AreOfClients, PostInWorld}

pub not_memory : (cause : Option CrashCause) → is_refused cause ≡ false → cause ≢ Some causes.Memory
not_memory cause granted is = absurd (cc (sym granted ∙ ap is_refused is))

visit_keeps : (c : Option ClientCell) (at : ℕ) (olds news : List ClientCell) (did : Bool) → slice_get olds at ≡ c → ClientVisitAt at c olds news did → map number_of news ≡ map number_of olds
visit_keeps None at olds news did got visit = ap (map number_of) visit.0
visit_keeps (Some client) at olds news did got (after, (visit, is)) = ap (map number_of) is ∙ set_numbers olds at client after got visit.client

module _ {D : Type 0} (told : Type 0) (state : D → DiskState) (own size : D → ℕ) (o : Opening) (n : ℕ) where
  -- ---- the node

  -- whatever a restart answers
  pub starts_on : (old new : CellValue D) (answer : Result Bool RestartFault) (clients : List ClientCell) → told → StartsAgain told state own size old.alloc old.seat.node new.seat.node answer → new.seat.ends ≡ old.seat.ends
      → PostInWorld told state o n old.seat clients → PostInWorld told state o n new.seat clients
  starts_on old new answer clients t starts ends was = subst (λ (l : List NodeEnds). IsInWorld told state o n new.seat.node l clients) (sym ends) (by old.seat.node starts was)
    where
      by : (node : CellState D) → StartsAgain told state own size old.alloc node new.seat.node answer → IsInWorld told state o n node old.seat.ends clients → IsInWorld told state o n new.seat.node old.seat.ends clients
      by (states.Up running) again there = subst (λ (x : CellState D). IsInWorld told state o n x old.seat.ends clients) (sym again.0) there
      by (states.Down stopped) again there = each_restart told state own size old.alloc o n stopped new.seat.node old.seat.ends clients answer t again there

  node_goes : (up : Bool) (old new : CellValue D) (did : Bool) (clients : List ClientCell) → told → NodeVisitIf up told state own size old new did
      → IsSiteIn told state o n (record { node = old; clients = clients }) → IsSiteIn told state o n (record { node = new; clients = clients })
  node_goes true old new did clients t acts was = record {
    there = record {
      apart = was.there.apart;
      there = each_visit told state own size o n (post_of old) (post_of new) clients acts.visits (not_memory (cause_of new.seat.node) acts.granted) was.lanes was.there.there;
    };
    lanes = lanes_on old.seat.ends new.seat.ends clients (visit_rings told state own size (post_of old) (post_of new) acts.visits) was.lanes;
  }
  node_goes false old new did clients t starts was = record {
    there = record { apart = was.there.apart; there = starts_on old new (Ok did) clients t starts.starts starts.ends was.there.there };
    lanes = subst (λ (l : List NodeEnds). AreOfClients l clients) (sym starts.ends) was.lanes;
  }

  pub each_node : (old new : CellValue D) (did : Bool) (clients : List ClientCell) → NodeGoesOn told state own size o n old new did clients
  each_node old new did clients t visit was = node_goes (is_up old) old new did clients t visit was

  -- ---- the actors

  -- the clients are left alone
  of_old_clients : (old new : Cast D) → new.clients ≡ old.clients → IsSiteIn told state o n (record { node = new.node; clients = old.clients }) → IsSiteIn told state o n new
  of_old_clients old new same it = record {
    there = subst (λ (l : List ClientCell). IsWithClients told state o n new.node l) (sym same) it.there;
    lanes = subst (λ (l : List ClientCell). AreOfClients new.node.seat.ends l) (sym same) it.lanes;
  }

  pub each_visit_at : (place : ℕ) (old new : Cast D) (did : Bool) → SiteVisits told state own size o n place old new did
  each_visit_at zero old new did t (visit, same) was = of_old_clients old new same (each_node old.node new.node did old.clients t visit (record { there = was.there; lanes = was.lanes }))
  each_visit_at (suc at) old new did t (same, visit) was = record {
    there = subst (λ (c : CellValue D). IsWithClients told state o n c new.clients) (sym same) (each_client_turn told state o n old.node old.clients new.clients at did visit was.there);
    lanes = lanes_as old.node.seat.ends new.node.seat.ends old.clients new.clients (ap (λ (c : CellValue D). map (λ (e : NodeEnds). e.client) c.seat.ends) same)
        (visit_keeps (slice_get old.clients at) at old.clients new.clients did refl visit) was.lanes;
  }

  pub each_visit_all : (places : List ℕ) (old new : Cast D) (did : Bool) → SiteGoesOn told state own size o n places old new did
  each_visit_all [] old new did t visits was = subst (λ (c : Cast D). IsSiteIn told state o n c) (sym visits.0) was
  each_visit_all (place ∷ places) old new did t (mid, (first, (more, (visit, (rest, is))))) was = each_visit_all places mid new more t rest (each_visit_at place old mid first t visit was)

  -- a restart that fails
  pub each_fails : (place : ℕ) (old new : Cast D) → SiteFails told state own size o n place old new
  each_fails zero old new t (fails, same) was = of_old_clients old new same (record {
    there = record { apart = was.there.apart; there = starts_on old.node new.node (Err restart_faults.DiskFailed) old.clients t fails.starts fails.ends was.there.there };
    lanes = subst (λ (l : List NodeEnds). AreOfClients l old.clients) (sym fails.ends) was.lanes;
  })
  each_fails (suc at) old new t fails was = absurd fails

pub each_site_carries : {D : Type 0} (told : Type 0) (state : D → DiskState) (o : Opening) (n : ℕ) (old new : Cast D) → SiteCarries told state o n old new
each_site_carries told state o n old new carries was = record {
  there = each_carries told state o n old.node new.node old.clients new.clients carries was.there;
  lanes = lanes_as old.node.seat.ends new.node.seat.ends old.clients new.clients (carried_numbers old.node new.node old.clients new.clients carries) (clients_numbers old.node new.node old.clients new.clients carries) was.lanes;
}

pub each_links : {D : Type 0} (told : Type 0) (state : D → DiskState) (o : Opening) (n : ℕ) (cast : Cast D) (links : LinksValue) → SiteLinks told state o n cast links
each_links told state o n cast links was = record { there = record { apart = was.there.apart; there = was.there.there }; lanes = was.lanes }
