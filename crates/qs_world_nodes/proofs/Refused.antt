-- Where memory was refused in a round, the cells still are where their nodes have come to, and the links keep their plans.
use Rattle.std.proofs.Common.{◌≡◌, ◌⊎◌, ◌∙◌, ap, inl, inr, refl, subst, sym, ℕ, zero, suc, ◌<◌, Bool, true, false, List, [], ◌∷◌, length, Option, Some, None, Err, append-nil, arith, slice_get, slice_set}
use Rattle.qs_cell.specs.Hearing.{Post}
use Rattle.qs_cell.specs.Starts.{CellValue, post_of}
use Rattle.qs_cell.specs.State.{carried_of}
use Rattle.qs_cell.specs.declared.state.CellState.{CellState}
use Rattle.qs_cell.specs.declared.state.RestartFault.TheVariants as restart_faults
use Rattle.qs_cell_peers.specs.Links.{into_of}
use Rattle.qs_disk.specs.Disk.{DiskState}
use Rattle.qs_link.specs.declared.outgoing.LinkFault.{LinkFault}
use Rattle.qs_node_step.specs.declared.trace.Step.{Step}
use Rattle.qs_world.specs.World.{Opening}
use Rattle.qs_world_links.proofs.Keeping.{each_took}
use Rattle.qs_world_links.proofs.Refused.{each_break, each_restart_takes, each_visit_takes}
use Rattle.qs_world_links.specs.Posts.{IsPostOf, TellsOfTakes, trace_in}
use Rattle.qs_world_nodes.proofs.Carrying.{each_carries, each_of}
use Rattle.qs_world_nodes.proofs.Keeping.{each_cells, keep_at}
use Rattle.qs_world_nodes.proofs.Places.{found, post_there, posts_at, same_some, set_length, set_other}
use Rattle.qs_world_nodes.proofs.Visiting.{each_visit}
use Rattle.qs_world_nodes.proofs.Visiting as visiting
use Rattle.qs_world_nodes.specs.Nodes.{AreCellsIn, AreSitesIn, post_at, trace_at, trace_by}
use Rattle.qs_world_nodes.specs.Running.{RefusedRoundLeaves}
use Rattle.qs_world_rounds.specs.Breaks as one
use Rattle.qs_world_rounds.specs.Rounds.{Cast, is_up}
use Rattle.qs_world_seats.proofs.Cellular.{each_site_cell}
use Rattle.qs_world_seats.proofs.Refused as seats
use Rattle.qs_world_seats.specs.Cells.{IsCellIn}
use Rattle.qs_world_sites.specs.Breaks.{OfSite, OfTurn, RefusedAt, VisitsUntil}
use Rattle.qs_world_sites.specs.Sites.{Each, HasSameCell, SitesValue}
use Rattle.qs_world_sites.specs.declared.turn.Turn.{Turn}
use Rattle.qs_world_traces.specs.Links.{IsTakenByPlan, KeepPlans, put_to, took_from}

module _ {D : Type 0} (told : Type 0) (state : D → DiskState) (own size : D → ℕ) (o : Opening) (plans : ℕ → ℕ → List LinkFault) where
  abbrev Cells : List (Cast D) → Type 0
  Cells sites = AreCellsIn told state o plans sites

  abbrev CellAt : ℕ → Cast D → Type 0
  CellAt n a = IsCellIn told state o n a.node.seat.node

  -- ---- at one site

  -- what its trace tells of what was taken, by what was refused there
  module _ (k : ℕ) (old new : Cast D) (of : IsPostOf o.size k (post_of old.node)) where
    abbrev Tells : CellValue D → Type 0
    Tells cell = TellsOfTakes o.size k (post_of old.node) (post_of cell)

    of_none : Tells old.node
    of_none = record { steps = []; trace = sym (append-nil (trace_in (post_of old.node))); took = λ named m peer. record { rest = (into_of old.node.links m).inbox; is = refl } }

    of_node : (up : Bool) → one.NodeRefusedIf up told state own size old.node new.node → Tells new.node
    of_node true (inl breaks) = each_break told state own size o.size k (post_of old.node) (post_of new.node) breaks of
    of_node true (inr (visits, refused)) = each_visit_takes told state own size o.size k (post_of old.node) (post_of new.node) visits of
    of_node false starts = each_restart_takes told state own size old.node.alloc o.size k (post_of old.node) (post_of new.node) (Err restart_faults.NoMemory) starts of

    of_place : (place : ℕ) → one.RefusedAt told state own size place old new → Tells new.node
    of_place zero refused = of_node (is_up old.node) refused
    of_place (suc at) same = subst Tells (sym same) of_none

  -- all others are as they were
  module _ (old : List (Cast D)) (k : ℕ) (site after : Cast D) (got : slice_get old k ≡ Some site) (was : AreSitesIn told state o plans old) where
    abbrev later : List (Cast D)
    later = slice_set old k after

    low : k < o.size
    low = visiting.low told state own size o plans old k site after got was

    at_k : slice_get later k ≡ Some after
    at_k = visiting.at_k told state own size o plans old k site after got was

    other : Post D
    other = post_of site.node

    of : IsPostOf o.size k (post_of site.node)
    of = subst (λ (p : Post D). IsPostOf o.size k p) (post_there other old k site got) ((was.links other).of k low)

    count : length later ≡ o.size
    count = set_length old k after ∙ was.count

    pub site_refused : (place : ℕ) → told → one.RefusedAt told state own size place site after → Cells later
    site_refused place t refused = record { count = count; each = each; keep = keep_at o.size later count other plans kept }
      where
        each : (n : ℕ) (b : Cast D) → slice_get later n ≡ Some b → CellAt n b
        each n b is = by (set_other old k n after)
          where
            by : (n ≡ k) ⊎ (slice_get later n ≡ slice_get old n) → CellAt n b
            by (inl e) = subst (λ (j : ℕ). CellAt j b) (sym e) (subst (CellAt k) (same_some after b (sym at_k ∙ (ap (slice_get later) (sym e) ∙ is))) (seats.each_refused told state own size o k place site after t refused (was.each k site got)))
            by (inr e) = each_site_cell told state o n b (was.each n b (sym e ∙ is))

        kept : KeepPlans o.size plans (λ n. trace_in (post_at other later n))
        kept = each_took o.size plans k (post_at other old) (post_at other later) low
            (posts_at (λ (p q : Post D). TellsOfTakes o.size k p q) other old later k site after got at_k (of_place k site after of place refused))
            (visiting.others told state own size o plans old k site after got was other) (was.links other)

  -- ---- in a visit

  of_site : (turn : Turn) (c : Option (Cast D)) (olds news : List (Cast D)) → slice_get olds turn.site ≡ c → told → OfSite (one.RefusedAt told state own size) turn c olds news → AreSitesIn told state o plans olds → Cells news
  of_site turn None olds news got t refused was = absurd refused
  of_site turn (Some site) olds news got t (after, (refused, is)) was = subst Cells (sym is)
      (site_refused olds turn.site site after got was turn.place t refused)

  of_turn : (turn : Option Turn) (olds news : List (Cast D)) → told → OfTurn (one.RefusedAt told state own size) turn olds news → AreSitesIn told state o plans olds → Cells news
  of_turn None olds news t refused was = absurd refused
  of_turn (Some turn) olds news t refused was = of_site turn (slice_get olds turn.site) olds news refl t refused was

  until : (places : List ℕ) (old new : SitesValue D) → told → VisitsUntil told state own size (RefusedAt told state own size) places old new → AreSitesIn told state o plans old.sites → Cells new.sites
  until [] old new t visits was = absurd visits
  until (place ∷ places) old new t (inl (refused, turns)) was = of_turn (slice_get old.turns place) old.sites new.sites t refused was
  until (place ∷ places) old new t (inr (mid, (did, (visit, rest)))) was = until places mid new t rest (each_visit told state own size o plans place old mid did t visit was)

  -- ---- nothing happens at any node, whatever becomes of the links

  module _ (old new : List (Cast D)) (same : Each HasSameCell old new) (was : Cells old) where
    same_at : (n : ℕ) → n < length old → trace_at new n ≡ trace_at old n
    same_at n low = by (found old n low) (found new n (omega (arith, same.count, low)))
      where
        by : (a : Cast D) × (slice_get old n ≡ Some a) → (b : Cast D) × (slice_get new n ≡ Some b) → trace_at new n ≡ trace_at old n
        by (a, a_is) (b, b_is) = ap trace_by b_is ∙ (ap (λ (x : CellState D). (carried_of x).chronicle.told.trace) (same.each n a b a_is b_is).node ∙ sym (ap trace_by a_is))

    pub same_cells : Cells new
    same_cells = record {
      count = same.count ∙ was.count;
      each = each_of HasSameCell CellAt old new same (λ n a b has there. subst (λ (x : CellState D). IsCellIn told state o n x) (sym has.node) there) was.each;
      keep = λ n m low_n low_m apart. subst (λ (l : List Step). IsTakenByPlan (plans m n) (put_to n l) (took_from m (trace_at new n))) (sym (same_at m (omega (arith, was.count, low_m))))
          (subst (λ (l : List Step). IsTakenByPlan (plans m n) (put_to n (trace_at old m)) (took_from m l)) (sym (same_at n (omega (arith, was.count, low_n)))) (was.keep n m low_n low_m apart));
    }

  pub each_refused : (order : List ℕ) (old new : SitesValue D) → RefusedRoundLeaves told state own size o plans order old new
  each_refused order old new t (inl same) was = same_cells old.sites new.sites same (each_cells told state o plans old.sites was)
  each_refused order old new t (inr it) was = until order it.carried new t it.visits (each_carries told state o plans old.sites it.carried.sites it.carries was)
