-- A visit of a node keeps room in its log. What comes from other nodes begins nothing; as a command comes, all sites, that one as far as the visit has come, are in one
-- world, so that what begins there is new.
use Rattle.std.proofs.Common.{◌≡◌, ◌⊎◌, ◌∙◌, ap, inl, inr, refl, subst, sym, ℕ, ◌==◌, true, false, List, [], Some, slice_get, slice_set}
use Rattle.std.proofs.lemmas.Bool.{eqb-false}
use Rattle.qs_cell.specs.Hearing.{HearsBelow, Post}
use Rattle.qs_cell.specs.Restart.{in_round_as}
use Rattle.qs_cell.specs.Starts.{post_of, trace_of}
use Rattle.qs_cell.specs.State.{Up}
use Rattle.qs_cell.specs.Visits.{Seat, TurnsAll, due, left_by, sources_of}
use Rattle.qs_cell.specs.WholeVisits.{HasBegun, Visits, steps_in}
use Rattle.qs_cell.specs.declared.state.CellState.{CellState}
use Rattle.qs_cell.specs.declared.state.CellState.TheVariants as states
use Rattle.qs_cell_peers.specs.Links.{LinksValue}
use Rattle.qs_disk.specs.Disk.{DiskState}
use Rattle.qs_link.specs.declared.ends.NodeEnds.{NodeEnds}
use Rattle.qs_link.specs.declared.outgoing.LinkFault.{LinkFault}
use Rattle.qs_node_step.specs.declared.trace.Step.{Step}
use Rattle.qs_world.specs.Openings.{IsOpening}
use Rattle.qs_world.specs.World.{Opening}
use Rattle.qs_world_links.proofs.Adding.{Adds, adds_seen}
use Rattle.qs_world_links.proofs.Hearing.{Took, post_of_node}
use Rattle.qs_world_links.proofs.Hearing as links
use Rattle.qs_world_links.specs.Posts.{IsPostOf}
use Rattle.qs_world_merge.specs.Observed.{TookWhatWasPut}
use Rattle.qs_world_nodes.proofs.Places.{same_some, set_here, set_length, set_other}
use Rattle.qs_world_nodes.specs.Nodes.{AreSitesIn, journal_at, trace_at, trace_by}
use Rattle.qs_world_one.proofs.RoomyCells.{seen_roomy}
use Rattle.qs_world_one.specs.Rooms.{Began, IsRoomyCell}
use Rattle.qs_world_rooms.proofs.AllThere.{AreThere, node_fresh, took_in}
use Rattle.qs_world_rooms.proofs.Amid.{IsFront, amid, front_then, whole_front}
use Rattle.qs_world_rooms.proofs.Cells.{below_roomy, broken_roomy}
use Rattle.qs_world_rooms.proofs.InOneRun.{IsFresh}
use Rattle.qs_world_rooms.proofs.OnWay.{Keeps, OnWay, Stands, adds_front, ready_on, some_keep, there_of, turn_on, turns_stand}
use Rattle.qs_world_rounds.specs.Breaks.{NodeRefusedIf}
use Rattle.qs_world_rounds.specs.Rounds.{Cast}
use Rattle.qs_world_seats.proofs.Alike.{each_visit_begins}
use Rattle.qs_world_seats.proofs.Visiting.{AreTurns, all_turn, granted_before, its_turns, turns_stay, world_hears}
use Rattle.qs_world_seats.specs.Reached.{IsGranted, IsInWorld}
use Rattle.qs_world_seats.specs.Visiting.{PostInWorld}
use Rattle.qs_world_traces.specs.Links.{observed_by}

-- ---- one site changes

module _ {D : Type 0} (olds : List (Cast D)) (k : ℕ) (site : Cast D) (got : slice_get olds k ≡ Some site) where
  pub here : (x : Cast D) → slice_get (slice_set olds k x) k ≡ Some x
  here x = set_here olds k site x got

  others : (x : Cast D) (j : ℕ) → (j == k) ≡ false → trace_at (slice_set olds k x) j ≡ trace_at olds j
  others x j apart = by (set_other olds k j x)
    where
      by : (j ≡ k) ⊎ (slice_get (slice_set olds k x) j ≡ slice_get olds j) → trace_at (slice_set olds k x) j ≡ trace_at olds j
      by (inl is) = absurd (eqb-false j k apart is)
      by (inr same) = ap trace_by same

module _ {D : Type 0} (told : Type 0) (state : D → DiskState) (own size : D → ℕ) (o : Opening) (plans : ℕ → ℕ → List LinkFault) (t : told) (opens : IsOpening o) (olds : List (Cast D)) (k : ℕ) (site after : Cast D)
    (got : slice_get olds k ≡ Some site) (was : AreSitesIn told state o plans olds) (brings : TookWhatWasPut o.size (λ n. observed_by (journal_at (slice_set olds k after) n) (trace_at (slice_set olds k after) n)))
    (began : Began) where
  -- ---- all sites, that one as far as the visit has come

  abbrev mid_site : Seat D → Cast D
  mid_site seat = record site { node = record site.node { seat = seat } }

  abbrev mids : Seat D → List (Cast D)
  mids seat = slice_set olds k (mid_site seat)

  there_amid : (seat : Seat D) → PostInWorld told state o k seat site.clients → IsFront (trace_of site.node) (steps_in seat.node) → IsFront (steps_in seat.node) (trace_of after.node) → AreThere told state o (mids seat)
  there_amid seat there since till = record {
    count = set_length olds k (mid_site seat) ∙ was.count;
    each = each;
    took = amid o.size k (trace_at olds) (trace_at (mids seat)) (trace_at (slice_set olds k after)) (others olds k site got (mid_site seat)) (others olds k site got after)
        (subst (λ (l : List Step). IsFront l (trace_at (mids seat) k)) (sym (ap trace_by got)) (subst (IsFront (trace_of site.node)) (sym (ap trace_by (here olds k site got (mid_site seat)))) since))
        (subst (λ (l : List Step). IsFront l (trace_at (slice_set olds k after) k)) (sym (ap trace_by (here olds k site got (mid_site seat)))) (subst (IsFront (steps_in seat.node)) (sym (ap trace_by (here olds k site got after))) till))
        (took_in told state o plans olds was) brings;
  }
    where
      each : (n : ℕ) (b : Cast D) → slice_get (mids seat) n ≡ Some b → PostInWorld told state o n b.node.seat b.clients
      each n b is = by (set_other olds k n (mid_site seat))
        where
          by : (n ≡ k) ⊎ (slice_get (mids seat) n ≡ slice_get olds n) → PostInWorld told state o n b.node.seat b.clients
          by (inl e) = subst (λ (j : ℕ). PostInWorld told state o j b.node.seat b.clients) (sym e)
              (subst (λ (c : Cast D). PostInWorld told state o k c.node.seat c.clients) (same_some (mid_site seat) b (sym (here olds k site got (mid_site seat)) ∙ (ap (slice_get (mids seat)) (sym e) ∙ is))) there)
          by (inr e) = (was.each n b (sym e ∙ is)).there.there

  -- so what begins there is new, as far as the visit has come
  fresh : (running : Up D) (ends : List NodeEnds) → IsInWorld told state o k (states.Up running) ends site.clients → IsFront (trace_of site.node) (steps_in (states.Up running)) → IsFront (steps_in (states.Up running)) (trace_of after.node) → IsFresh running
  fresh running ends there since till = node_fresh told state o opens (mids seat) (there_amid seat there since till) k (mid_site seat) (here olds k site got (mid_site seat)) running ends site.clients refl there
    where
      seat : Seat D
      seat = record { node = states.Up running; ends = ends }

  abbrev Keep : CellState D → Type 0
  Keep node = Keeps told state own size o k site.clients began t (trace_of site.node) (trace_of after.node) fresh node

  abbrev Way : CellState D → List NodeEnds → Type 0
  Way node ends = OnWay told state own size o k site.clients began t (trace_of site.node) (trace_of after.node) fresh node ends

  abbrev Stand : CellState D → List NodeEnds → Type 0
  Stand node ends = Stands told state own size o k site.clients began t (trace_of site.node) (trace_of after.node) fresh node ends

  -- ---- the packets that were carried

  module _ (begun heard : Post D) (begins : HasBegun (post_of site.node) begun) (hears : HearsBelow told state own size site.node.links.size begun heard) (of_post : IsPostOf o.size k (post_of site.node)) (room : IsRoomyCell state size began site.node.seat.node) where
    begun_adds : Adds o.size k [] site.node.seat.node begun.seat.node
    begun_adds = adds_seen o.size k in_round_as (λ s. refl) site.node.seat.node begun.seat.node begins.round of_post.node

    of_begun : IsPostOf o.size k begun
    of_begun = post_of_node o.size k (post_of site.node) begun of_post (record { size = ap (λ (l : LinksValue). l.size) begins.links; me = ap (λ (l : LinksValue). l.me) begins.links }) begun_adds.node

    took_heard : Took o.size k begun heard
    took_heard = links.all_hear o.size k told state own size site.node.links.size begun heard hears of_begun

    heard_keeps : Keep heard.seat.node
    heard_keeps = record {
      of = took_heard.adds.node;
      since = front_then (adds_front begun_adds) (adds_front took_heard.adds);
      room = λ till. below_roomy told state own size began t site.node.links.size begun heard hears (seen_roomy in_round_as state size began site.node.seat.node begun.seat.node begins.round room);
    }

    heard_there : IsGranted heard.seat.node → PostInWorld told state o k heard.seat site.clients
    heard_there granted = world_hears told state own size o k site.clients site.node.links.size begun heard hears granted
        (subst (λ (l : List NodeEnds). IsInWorld told state o k begun.seat.node l site.clients) (sym begins.ends)
        (each_visit_begins told state o k site.node.seat.node begun.seat.node site.node.seat.ends site.clients begins.round (was.each k site got).there.there))

  -- the node's sources, by its clients
  turns : AreTurns told state own size site.clients due left_by (sources_of site.node.seat.ends)
  turns = its_turns told state own size o k site.clients site.node.seat.ends (was.each k site got).lanes

  -- ---- the visit

  module _ (visits : Visits told state own size (post_of site.node) (post_of after.node)) (granted : IsGranted after.node.seat.node) (of_post : IsPostOf o.size k (post_of site.node)) (room : IsRoomyCell state size began site.node.seat.node) where
    granted_heard : IsGranted visits.heard.seat.node
    granted_heard = granted_before told state own size visits.heard.seat.node after.node.seat.node (turns_stay told state own size (sources_of site.node.seat.ends) visits.heard.seat after.node.seat visits.turns) granted

    on_heard : Way visits.heard.seat.node visits.heard.seat.ends
    on_heard = record {
      there = heard_there visits.begun visits.heard visits.begins visits.hears of_post room granted_heard;
      keeps = heard_keeps visits.begun visits.heard visits.begins visits.hears of_post room;
    }

    pub visit_roomy : IsRoomyCell state size began after.node.seat.node
    visit_roomy = (all_turn told state own size site.clients Way (ready_on told state own size o k site.clients began t (trace_of site.node) (trace_of after.node) fresh)
        (turn_on told state own size o k site.clients began t (trace_of site.node) (trace_of after.node) fresh) (sources_of site.node.seat.ends) visits.heard.seat after.node.seat visits.turns granted turns on_heard).keeps.room (whole_front (trace_of after.node))

  -- ---- where memory was refused in it

  module _ (of_post : IsPostOf o.size k (post_of site.node)) (room : IsRoomyCell state size began site.node.seat.node) where
    heard_stands : (begun heard : Post D) → HasBegun (post_of site.node) begun → HearsBelow told state own size site.node.links.size begun heard → Stand heard.seat.node heard.seat.ends
    heard_stands begun heard begins hears = record { there = there_of told state own size o k site.clients began t (trace_of site.node) (trace_of after.node) fresh heard.seat (heard_there begun heard begins hears of_post room); keeps = heard_keeps begun heard begins hears of_post room }

    visit_keeps : (heard : Seat D) → TurnsAll told state own size (sources_of site.node.seat.ends) heard after.node.seat → Stand heard.node heard.ends → IsRoomyCell state size began after.node.seat.node
    visit_keeps heard all s = (turns_stand told state own size o k site.clients began t (trace_of site.node) (trace_of after.node) fresh (sources_of site.node.seat.ends) heard after.node.seat all turns s).keeps.room (whole_front (trace_of after.node))

    pub refused_roomy : NodeRefusedIf true told state own size site.node after.node → IsRoomyCell state size began after.node.seat.node
    refused_roomy (inr (visits, refused)) = visit_keeps visits.heard.seat visits.turns (heard_stands visits.begun visits.heard visits.begins visits.hears)
    refused_roomy (inl breaks) = elim breaks.within [
      | inl below ↦ broken_roomy told state own size began t site.node.links.size breaks.begun (post_of after.node) below (seen_roomy in_round_as state size began site.node.seat.node breaks.begun.seat.node breaks.begins.round room)
      | inr it ↦ elim it.turns [
        | inl some ↦ (some_keep told state own size o k site.clients began t (trace_of site.node) (trace_of after.node) fresh (sources_of site.node.seat.ends) it.heard.seat after.node.seat some turns (heard_stands breaks.begun it.heard breaks.begins it.hears)).room (whole_front (trace_of after.node))
        | inr all ↦ visit_keeps it.heard.seat all.0 (heard_stands breaks.begun it.heard breaks.begins it.hears)
      ]
    ]
