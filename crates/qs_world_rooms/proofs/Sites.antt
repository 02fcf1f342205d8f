-- All sites keep room in their logs: as they are carried, through visits, where a restart fails, and where memory was refused.
use Rattle.std.proofs.Common.{◌≡◌, ◌⊎◌, ◌∙◌, ap, inl, inr, refl, subst, sym, ℕ, zero, suc, ◌<◌, Bool, true, false, List, [], ◌∷◌, length, Option, None, Some, Result, Ok, Err, arith, slice_get, slice_set}
use Rattle.qs_base.specs.declared.identifiers.NodeNo.{NodeNo}
use Rattle.qs_cell.specs.Hearing.{Post}
use Rattle.qs_cell.specs.Starts.{CellValue, post_of}
use Rattle.qs_cell.specs.State.{StartsAgain, cause_of}
use Rattle.qs_cell.specs.declared.state.CellState.{CellState}
use Rattle.qs_cell.specs.declared.state.CellState.TheVariants as states
use Rattle.qs_cell.specs.declared.state.RestartFault.{RestartFault}
use Rattle.qs_cell.specs.declared.state.RestartFault.TheVariants as restart_faults
use Rattle.qs_disk.specs.Disk.{DiskState}
use Rattle.qs_link.specs.declared.outgoing.LinkFault.{LinkFault}
use Rattle.qs_world.specs.Openings.{IsOpening}
use Rattle.qs_world.specs.World.{Opening}
use Rattle.qs_world_links.specs.Posts.{IsPostOf}
use Rattle.qs_world_nodes.proofs.Carrying.{each_carries, same_cell}
use Rattle.qs_world_nodes.proofs.Places.{found, low_of, post_there, same_some, set_other}
use Rattle.qs_world_nodes.proofs.Refused.{site_refused}
use Rattle.qs_world_nodes.proofs.Visiting.{site_failed, site_visited}
use Rattle.qs_world_nodes.proofs.Walking.{broken_keeps, round_keeps, rounds_keep, visit_keeps, visits_keep}
use Rattle.qs_world_nodes.specs.Nodes.{AreCellsIn, AreSitesIn, journal_at, trace_at}
use Rattle.qs_world_one.specs.Rooms.{Began, IsRoomyCell}
use Rattle.qs_world_rooms.proofs.AllThere.{logs_named, sites_there, took_in}
use Rattle.qs_world_rooms.proofs.Cells.{restart_roomy}
use Rattle.qs_world_rooms.proofs.Visited.{here, refused_roomy, visit_roomy}
use Rattle.qs_world_rooms.specs.Rooms.{AreRoomySites, BrokenRoundStaysRoomy, CarriesStayRoomy, RefusedRoundStaysRoomy, RoundStaysRoomy, RoundsStayRoomy, VisitStaysRoomy, VisitsStayRoomy}
use Rattle.qs_world_rounds.specs.Breaks as one
use Rattle.qs_world_rounds.specs.Breaks.{FailsAt, NodeRefusedIf}
use Rattle.qs_world_rounds.specs.Rounds.{Cast, NodeVisitIf, VisitAt, is_up}
use Rattle.qs_world_seats.proofs.SitesGoOn.{not_memory}
use Rattle.qs_world_seats.specs.Reached.{IsInWorld}
use Rattle.qs_world_sites.specs.Breaks.{OfSite, OfTurn, RefusedAt, RefusesRound, VisitsUntil}
use Rattle.qs_world_sites.specs.Sites.{AreCarried, SitesValue}
use Rattle.qs_world_sites.specs.declared.turn.Turn.{Turn}
use Rattle.qs_world_traces.proofs.LinksBring.{each_link_brings}
use Rattle.rand_pcg.specs.Lcg.{Lcg}

module _ {D : Type 0} (state : D → DiskState) (size : D → ℕ) (began : ℕ → Began) where
  -- ---- one site changes

  changed : (olds : List (Cast D)) (k : ℕ) (site after : Cast D) → slice_get olds k ≡ Some site → AreRoomySites state size began olds → IsRoomyCell state size (began k) after.node.seat.node
      → AreRoomySites state size began (slice_set olds k after)
  changed olds k site after got was room n b is = by (set_other olds k n after)
    where
      by : (n ≡ k) ⊎ (slice_get (slice_set olds k after) n ≡ slice_get olds n) → IsRoomyCell state size (began n) b.node.seat.node
      by (inl e) = subst (λ (j : ℕ). IsRoomyCell state size (began j) b.node.seat.node) (sym e)
          (subst (λ (c : Cast D). IsRoomyCell state size (began k) c.node.seat.node) (same_some after b (sym (here olds k site got after) ∙ (ap (slice_get (slice_set olds k after)) (sym e) ∙ is))) room)
      by (inr e) = was n b (sym e ∙ is)

  -- ---- nothing happens at any node

  module _ (olds news : List (Cast D)) (count : length news ≡ length olds)
      (same : (n : ℕ) (a b : Cast D) → slice_get olds n ≡ Some a → slice_get news n ≡ Some b → b.node.seat.node ≡ a.node.seat.node) where
    pub rooms_same : AreRoomySites state size began olds → AreRoomySites state size began news
    rooms_same was n b b_is = by (found olds n (omega (arith, low_of news n b b_is, count)))
      where
        by : (a : Cast D) × (slice_get olds n ≡ Some a) → IsRoomyCell state size (began n) b.node.seat.node
        by (a, a_is) = subst (λ (x : CellState D). IsRoomyCell state size (began n) x) (sym (same n a b a_is b_is)) (was n a a_is)

  module _ (olds news : List (Cast D)) (c : AreCarried olds news) where
    lanes_same : (n : ℕ) (a b : Cast D) → slice_get olds n ≡ Some a → slice_get c.mid n ≡ Some b → b.node.seat.node ≡ a.node.seat.node
    lanes_same n a b a_is b_is = (same_cell a.node b.node a.clients b.clients (c.lanes.each n a b a_is b_is)).0

    links_same : (n : ℕ) (a b : Cast D) → slice_get c.mid n ≡ Some a → slice_get news n ≡ Some b → b.node.seat.node ≡ a.node.seat.node
    links_same n a b a_is b_is = ap (λ (x : Cast D). x.node.seat.node) (c.links.others.each n a b a_is b_is).is

    rooms_carried : AreRoomySites state size began olds → AreRoomySites state size began news
    rooms_carried was = rooms_same c.mid news c.links.others.count links_same (rooms_same olds c.mid c.lanes.count lanes_same was)

pub each_carried : {D : Type 0} (state : D → DiskState) (size : D → ℕ) (began : ℕ → Began) (old new : List (Cast D)) → CarriesStayRoomy state size began old new
each_carried state size began old new carries was = rooms_carried state size began old new carries was

module _ {D : Type 0} (told : Type 0) (state : D → DiskState) (own size : D → ℕ) (o : Opening) (plans : ℕ → ℕ → List LinkFault) (began : ℕ → Began) (t : told) (opens : IsOpening o) where
  -- in the world, and with room
  pub record Stay (sites : List (Cast D)) : Type 0 where
    pub are : AreSitesIn told state o plans sites
    pub rooms : AreRoomySites state size began sites

  -- ---- a visit of one site

  module _ (olds : List (Cast D)) (k : ℕ) (site after : Cast D) (got : slice_get olds k ≡ Some site) (was : Stay olds) where
    abbrev news : List (Cast D)
    news = slice_set olds k after

    low : k < o.size
    low = omega (arith, low_of olds k site got, was.are.count)

    of_post : IsPostOf o.size k (post_of site.node)
    of_post = subst (λ (p : Post D). IsPostOf o.size k p) (post_there (post_of site.node) olds k site got) ((was.are.links (post_of site.node)).of k low)

    abbrev HasRoom : CellState D → Type 0
    HasRoom node = IsRoomyCell state size (began k) node

    same_room : (cell : CellValue D) → cell ≡ site.node → HasRoom site.node.seat.node → HasRoom cell.seat.node
    same_room cell same room = subst (λ (c : CellValue D). HasRoom c.seat.node) (sym same) room

    starts_room : (answer : Result Bool RestartFault) → StartsAgain told state own size site.node.alloc site.node.seat.node after.node.seat.node answer → HasRoom site.node.seat.node → HasRoom after.node.seat.node
    starts_room answer starts room = by site.node.seat.node refl starts (was.are.each k site got).there.there room
      where
        by : (node : CellState D) → site.node.seat.node ≡ node → StartsAgain told state own size site.node.alloc node after.node.seat.node answer
            → IsInWorld told state o k node site.node.seat.ends site.clients → HasRoom node → HasRoom after.node.seat.node
        by (states.Up running) e again there room = subst (λ (x : CellState D). HasRoom x) (sym again.0) room
        by (states.Down stopped) e again there room = restart_roomy told state own size (began k) t site.node.alloc stopped after.node.seat.node answer again there.first there.other (there.images t)
            (logs_named told state o opens olds (sites_there told state o plans olds was.are) k site got stopped site.node.seat.ends site.clients e there) room

    node_room : (up did : Bool) → NodeVisitIf up told state own size site.node after.node did → AreSitesIn told state o plans news → HasRoom site.node.seat.node → HasRoom after.node.seat.node
    node_room true did acts will room = visit_roomy told state own size o plans t opens olds k site after got was.are (took_in told state o plans news will) (began k)
        acts.visits (not_memory (cause_of after.node.seat.node) acts.granted) of_post room
    node_room false did starts will room = starts_room (Ok did) starts.starts room

    visit_room : (place : ℕ) (did : Bool) → VisitAt told state own size place site after did → AreSitesIn told state o plans news → HasRoom site.node.seat.node → HasRoom after.node.seat.node
    visit_room zero did (visit, same) will room = node_room (is_up site.node) did visit will room
    visit_room (suc at) did (same, visit) will room = same_room after.node same room

    fails_room : (place : ℕ) → FailsAt told state own size place site after → HasRoom site.node.seat.node → HasRoom after.node.seat.node
    fails_room zero (fails, same) room = starts_room (Err restart_faults.DiskFailed) fails.starts room
    fails_room (suc at) fails room = absurd fails

    node_refused : (up : Bool) → NodeRefusedIf up told state own size site.node after.node → AreCellsIn told state o plans news → HasRoom site.node.seat.node → HasRoom after.node.seat.node
    node_refused true refused cells room = refused_roomy told state own size o plans t opens olds k site after got was.are (each_link_brings o.size plans (journal_at news) (trace_at news) cells.keep) (began k) of_post room refused
    node_refused false starts cells room = starts_room (Err restart_faults.NoMemory) starts room

    refused_room : (place : ℕ) → one.RefusedAt told state own size place site after → AreCellsIn told state o plans news → HasRoom site.node.seat.node → HasRoom after.node.seat.node
    refused_room zero refused cells room = node_refused (is_up site.node) refused cells room
    refused_room (suc at) same cells room = same_room after.node same room

    its_room : HasRoom site.node.seat.node
    its_room = was.rooms k site got

    with_room : HasRoom after.node.seat.node → AreRoomySites state size began news
    with_room room = changed state size began olds k site after got was.rooms room

  pub visited : (olds : List (Cast D)) (k place : ℕ) (site after : Cast D) (did : Bool) → slice_get olds k ≡ Some site → VisitAt told state own size place site after did → Stay olds → Stay (slice_set olds k after)
  visited olds k place site after did got visit was = record { are = will; rooms = with_room olds k site after got was (visit_room olds k site after got was place did visit will (its_room olds k site after got was)) }
    where
      will : AreSitesIn told state o plans (slice_set olds k after)
      will = site_visited told state own size o plans olds k site after got was.are place did t visit

  pub failed : (olds : List (Cast D)) (k place : ℕ) (site after : Cast D) → slice_get olds k ≡ Some site → FailsAt told state own size place site after → Stay olds → Stay (slice_set olds k after)
  failed olds k place site after got fails was = record {
    are = site_failed told state own size o plans olds k site after got was.are place t fails;
    rooms = with_room olds k site after got was (fails_room olds k site after got was place fails (its_room olds k site after got was));
  }

  pub carried : (olds news : List (Cast D)) → AreCarried olds news → Stay olds → Stay news
  carried olds news c was = record {
    are = each_carries told state o plans olds news c was.are;
    rooms = rooms_carried state size began olds news c was.rooms;
  }

  -- ---- where memory was refused in a visit of one

  of_site : (turn : Turn) (c : Option (Cast D)) (olds news : List (Cast D)) → slice_get olds turn.site ≡ c → OfSite (one.RefusedAt told state own size) turn c olds news → Stay olds → AreRoomySites state size began news
  of_site turn None olds news got refused was = absurd refused
  of_site turn (Some site) olds news got (after, (refused, is)) was = subst (AreRoomySites state size began) (sym is)
      (with_room olds turn.site site after got was (refused_room olds turn.site site after got was turn.place refused
      (site_refused told state own size o plans olds turn.site site after got was.are turn.place t refused) (its_room olds turn.site site after got was)))

  of_turn : (turn : Option Turn) (olds news : List (Cast D)) → OfTurn (one.RefusedAt told state own size) turn olds news → Stay olds → AreRoomySites state size began news
  of_turn None olds news refused was = absurd refused
  of_turn (Some turn) olds news refused was = of_site turn (slice_get olds turn.site) olds news refl refused was

  until : (places : List ℕ) (old new : SitesValue D) → VisitsUntil told state own size (RefusedAt told state own size) places old new → Stay old.sites → AreRoomySites state size began new.sites
  until [] old new visits was = absurd visits
  until (place ∷ places) old new (inl (refused, turns)) was = of_turn (slice_get old.turns place) old.sites new.sites refused was
  until (place ∷ places) old new (inr (mid, (did, (visit, rest)))) was = until places mid new rest (visit_keeps told state own size Stay visited place old mid did visit was)

  -- as the round began, or in a visit
  pub refused : (order : List ℕ) (old new : SitesValue D) → RefusesRound told state own size order old new → Stay old.sites → AreRoomySites state size began new.sites
  refused order old new (inl same) was = rooms_same state size began old.sites new.sites same.count (λ n a b a_is b_is. (same.each n a b a_is b_is).node) was.rooms
  refused order old new (inr it) was = until order it.carried new it.visits (carried old.sites it.carried.sites it.carries was)

-- ---- the laws

module _ {D : Type 0} (told : Type 0) (state : D → DiskState) (own size : D → ℕ) (o : Opening) (plans : ℕ → ℕ → List LinkFault) (began : ℕ → Began) where
  abbrev Stays : told → IsOpening o → List (Cast D) → Type 0
  Stays t opens sites = Stay told state own size o plans began t opens sites

  pub each_visit : (place : ℕ) (old new : SitesValue D) (did : Bool) → VisitStaysRoomy told state own size o plans began place old new did
  each_visit place old new did t opens are visit rooms = (visit_keeps told state own size (Stays t opens) (visited told state own size o plans began t opens) place old new did visit
      (record { are = are; rooms = rooms })).rooms

  pub each_visits : (places : List ℕ) (old new : SitesValue D) (did : Bool) → VisitsStayRoomy told state own size o plans began places old new did
  each_visits places old new did t opens are visits rooms = (visits_keep told state own size (Stays t opens) (visited told state own size o plans began t opens) places old new did visits
      (record { are = are; rooms = rooms })).rooms

  pub each_round : (order : List ℕ) (old new : SitesValue D) (quiet : Bool) → RoundStaysRoomy told state own size o plans began order old new quiet
  each_round order old new quiet t opens are round rooms = (round_keeps told state own size (Stays t opens) (visited told state own size o plans began t opens) (carried told state own size o plans began t opens)
      order old new quiet round (record { are = are; rooms = rooms })).rooms

  pub each_rounds : (rng : Lcg) (n : ℕ) (old new : SitesValue D) (later : Lcg) → RoundsStayRoomy told state own size o plans began rng n old new later
  each_rounds rng n old new later t opens are rounds rooms = (rounds_keep told state own size (Stays t opens) (visited told state own size o plans began t opens) (carried told state own size o plans began t opens)
      rng n old new later rounds (record { are = are; rooms = rooms })).rooms

  pub each_broken : (order : List ℕ) (node : NodeNo) (old new : SitesValue D) → BrokenRoundStaysRoomy told state own size o plans began order node old new
  each_broken order node old new t opens are broken rooms = (broken_keeps told state own size (Stays t opens) (visited told state own size o plans began t opens) (carried told state own size o plans began t opens)
      (failed told state own size o plans began t opens) order node old new broken (record { are = are; rooms = rooms })).rooms

  pub each_refused : (order : List ℕ) (old new : SitesValue D) → RefusedRoundStaysRoomy told state own size o plans began order old new
  each_refused order old new t opens are out rooms = refused told state own size o plans began t opens order old new out (record { are = are; rooms = rooms })
