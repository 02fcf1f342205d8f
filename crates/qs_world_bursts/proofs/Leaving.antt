-- Where memory was refused in a burst, each cell is where its node has come to, whatever became of the clients.
use Rattle.std.proofs.Common.{◌≡◌, ◌≢◌, ◌∙◌, ap, inl, inr, refl, subst, sym, ℕ, ◌<◌, List, length, arith, drop, take, slice_get, Some}
use Rattle.qs_cell.proofs.Acting.{BreaksOne, MakesOne, breaks_one, one_of}
use Rattle.qs_cell.specs.Acts.{BreaksAct, in_act_as}
use Rattle.qs_cell.specs.Hearing.{Post}
use Rattle.qs_cell.specs.Starts.{CellValue, post_of}
use Rattle.qs_cell.specs.State.{IsSeenAs}
use Rattle.qs_cell.specs.Visits.{Seat, due, left_by, sources_of}
use Rattle.qs_client.specs.declared.cell.ClientCell.{ClientCell}
use Rattle.qs_disk.specs.Disk.{DiskState}
use Rattle.qs_link.specs.Lane.{IsFifo}
use Rattle.qs_link.specs.declared.ends.NodeEnds.{NodeEnds}
use Rattle.qs_link.specs.declared.outgoing.LinkFault.{LinkFault}
use Rattle.qs_cell_peers.specs.Links.{into_of, out_of}
use Rattle.qs_world.specs.World.{Opening}
use Rattle.qs_world_bursts.proofs.Refusing.{each_keeps_after, each_refused_act, some_behind, some_of_acts}
use Rattle.qs_world_bursts.proofs.Told.{each_act, tells_none}
use Rattle.qs_world_bursts.proofs.Turning.{clients_alone, each_turns, turns_one, turns_tell}
use Rattle.qs_world_bursts.specs.Refused.{RefusedBurstLeaves, TellsOfSome}
use Rattle.qs_world_bursts.specs.Telling.{AreFifo, TellsOfActs}
use Rattle.qs_world_links.specs.Posts.{IsPostOf}
use Rattle.qs_world_nodes.proofs.Carrying.{IsSamePost, same_cell}
use Rattle.qs_world_nodes.proofs.Keeping.{keep_at}
use Rattle.qs_world_nodes.proofs.Places.{found, low_of, posts_of_each}
use Rattle.qs_world_nodes.proofs.Refused.{same_cells}
use Rattle.qs_world_nodes.specs.Nodes.{AreCellsIn, AreSitesIn, post_at, trace_at}
use Rattle.qs_world_rounds.specs.Rounds.{Cast}
use Rattle.qs_world_rounds.specs.Turns.{TakesSome, TurnIsRefused, client_places}
use Rattle.qs_world_seats.proofs.Alike.{seen_as}
use Rattle.qs_world_seats.proofs.Cellular.{each_site_cell}
use Rattle.qs_world_seats.proofs.Refused.{Stands, cell_left, hearing_leaves, hearing_stands, some_leave, turns_stand}
use Rattle.qs_world_seats.proofs.SitesGoOn.{each_site_carries, each_visit_all}
use Rattle.qs_world_seats.proofs.Visiting.{its_turns}
use Rattle.qs_world_seats.specs.Cells.{IsCellIn}
use Rattle.qs_world_seats.specs.Reached.{IsInWorld}
use Rattle.qs_world_seats.specs.Sites.{IsSiteIn}
use Rattle.qs_world_seats.specs.Visiting.{AreOfClients, PostInWorld}
use Rattle.qs_world_sites.specs.Bursts.{AreFifoSites}
use Rattle.qs_world_sites.specs.Sites.{Each, links_of}
use Rattle.qs_world_traces.specs.Links.{IsTakenByPlan, KeepPlans, put_to, took_from}

module _ {D : Type 0} (told : Type 0) (state : D → DiskState) (own size : D → ℕ) (o : Opening) (n : ℕ) where
  -- ---- the node acts

  module _ (clients : List ClientCell) where
    abbrev Stand : Seat D → Type 0
    Stand seat = Stands told state own size o n clients seat

    -- as it begins
    begun_stands : (old begun : Post D) → IsSeenAs in_act_as old.seat.node begun.seat.node → begun.seat.ends ≡ old.seat.ends → PostInWorld told state o n old.seat clients → Stand begun.seat
    begun_stands old begun act ends was = inl (subst (λ (l : List NodeEnds). IsInWorld told state o n begun.seat.node l clients) (sym ends)
        (seen_as told state o n old.seat.ends clients in_act_as (λ s. record { node = refl; stamp = refl; journal = refl; trace = refl; commands = refl }) old.seat.node begun.seat.node act was))

    made_stands : (old new : Post D) → MakesOne told state own size old new → AreOfClients old.seat.ends clients → Stand old.seat → Stand new.seat
    made_stands old new (inl same) of s = subst (λ (p : Post D). Stand p.seat) (sym same) s
    made_stands old new (inr (inl (m, (peer, hears)))) of s = hearing_stands told state own size o n clients m old new hears s
    made_stands old new (inr (inr (k, (low, (turns, same))))) of s = turns_stand told state own size o n clients (take 1 (drop k (sources_of old.seat.ends))) old.seat new.seat turns
        (turns_one told state own size clients due left_by (sources_of old.seat.ends) k (its_turns told state own size o n clients old.seat.ends of)) s

    broken_leaves : (old new : Post D) → BreaksOne told state own size old new → AreOfClients old.seat.ends clients → Stand old.seat → IsCellIn told state o n new.seat.node
    broken_leaves old new (inl (m, (peer, breaks))) of s = hearing_leaves told state own size o n clients m old new breaks s
    broken_leaves old new (inr (k, (low, turns))) of s = some_leave told state own size o n clients (take 1 (drop k (sources_of old.seat.ends))) old.seat new.seat turns
        (turns_one told state own size clients due left_by (sources_of old.seat.ends) k (its_turns told state own size o n clients old.seat.ends of)) s

    act_leaves : (old new : Post D) → BreaksAct told state own size old new → AreOfClients old.seat.ends clients → PostInWorld told state o n old.seat clients → IsCellIn told state o n new.seat.node
    act_leaves old new a of was = elim a.within [
      | inl same ↦ subst (λ (p : Post D). IsCellIn told state o n p.seat.node) (sym same) (cell_left told state own size o n clients a.begun.seat begun)
      | inr (inl breaks) ↦ broken_leaves a.begun new (breaks_one told state own size a.begun new breaks).0 of_begun begun
      | inr (inr p) ↦ subst (λ (s : Seat D). IsCellIn told state o n s.node) (sym p.seat) (cell_left told state own size o n clients p.made.seat (made_stands a.begun p.made (one_of told state own size a.begun p.made p.makes) of_begun begun))
    ]
      where
        begun : Stand a.begun.seat
        begun = begun_stands old a.begun a.act a.ends was

        of_begun : AreOfClients a.begun.seat.ends clients
        of_begun = subst (λ (l : List NodeEnds). AreOfClients l clients) (sym a.ends) of

  -- ---- a turn

  turn_leaves : (old new : Cast D) → told → TurnIsRefused told state own size old new → IsSiteIn told state o n old → IsCellIn told state o n new.node.seat.node
  turn_leaves old new t (inl (node, links)) was = subst (IsCellIn told state o n) (sym node) (each_site_cell told state o n old was)
  turn_leaves old new t (inr r) was = elim r.refused [
    | inl breaks ↦ act_leaves r.visited.clients (post_of r.visited.node) (post_of new.node) breaks visited.lanes visited.there.there
    | inr (acts, refused) ↦ subst (λ (s : Seat D). IsCellIn told state o n s.node) (sym acts.seat) (cell_left told state own size o n r.visited.clients acts.made.seat
        (made_stands r.visited.clients acts.begun acts.made (one_of told state own size acts.begun acts.made acts.makes) (subst (λ (l : List NodeEnds). AreOfClients l r.visited.clients) (sym acts.ends) visited.lanes)
        (begun_stands r.visited.clients (post_of r.visited.node) acts.begun acts.act acts.ends visited.there.there)))
  ]
    where
      visited : IsSiteIn told state o n r.visited
      visited = each_visit_all told state own size o n (client_places r.carried.clients) r.carried r.visited r.did t r.visits (each_site_carries told state o n old r.carried r.carries was)

  pub some_leaves : (turns : ℕ) (old new : Cast D) → told → TakesSome told state own size turns old new → IsSiteIn told state o n old → IsCellIn told state o n new.node.seat.node
  some_leaves turns old new t (inl all) was = each_site_cell told state o n new (each_turns told state own size o n turns old new t all was)
  some_leaves turns old new t (inr (few, (mid, (before, refused)))) was = turn_leaves mid new t refused (each_turns told state own size o n few old mid t before was)

-- ---- what its trace tells

module _ {D : Type 0} (told : Type 0) (state : D → DiskState) (own size : D → ℕ) (nodes n : ℕ) where
  turn_some : (old new : Cast D) → TurnIsRefused told state own size old new → IsPostOf nodes n (post_of old.node) → TellsOfSome nodes n (post_of old.node) (post_of new.node)
  turn_some old new (inl (node, links)) of = some_of_acts nodes n (post_of old.node) (post_of new.node) (tells_none nodes n (post_of old.node) (post_of new.node) node links of)
  turn_some old new (inr r) of = some_behind nodes n (post_of old.node) (post_of r.visited.node) (post_of new.node) before (elim r.refused [
    | inl breaks ↦ each_refused_act told state own size nodes n (post_of r.visited.node) (post_of new.node) breaks before.post
    | inr (acts, refused) ↦ some_of_acts nodes n (post_of r.visited.node) (post_of new.node) (each_act told state own size nodes n (post_of r.visited.node) (post_of new.node) acts before.post)
  ])
    where
      carried : IsSamePost (post_of old.node) (post_of r.carried.node)
      carried = same_cell old.node r.carried.node old.clients r.carried.clients r.carries

      alone : r.visited.node ≡ r.carried.node
      alone = clients_alone told state own size r.carried.clients r.carried r.visited r.did r.visits

      before : TellsOfActs nodes n (post_of old.node) (post_of r.visited.node)
      before = tells_none nodes n (post_of old.node) (post_of r.visited.node) (ap (λ (c : CellValue D). c.seat.node) alone ∙ carried.0) (ap (λ (c : CellValue D). c.links) alone ∙ carried.1) of

  pub some_tells : (turns : ℕ) (old new : Cast D) → TakesSome told state own size turns old new → IsPostOf nodes n (post_of old.node) → TellsOfSome nodes n (post_of old.node) (post_of new.node)
  some_tells turns old new (inl all) of = some_of_acts nodes n (post_of old.node) (post_of new.node) (turns_tell told state own size nodes n turns old new all of)
  some_tells turns old new (inr (few, (mid, (before, refused)))) of =
      let first : TellsOfActs nodes n (post_of old.node) (post_of mid.node) = turns_tell told state own size nodes n few old mid before of in
      some_behind nodes n (post_of old.node) (post_of mid.node) (post_of new.node) first (turn_some mid new refused first.post)

-- ---- each ring was looked at from both ends

pub fifo_at : {D : Type 0} (size : ℕ) (new : List (Cast D)) → length new ≡ size → AreFifoSites new → (other : Post D) → AreFifo size (post_at other new)
fifo_at size new count fifo other m n low_m low_n apart = posts_of_each (λ k p q. (k ≢ n) → IsFifo (out_of p.links n).feed (into_of (post_at other new n).links k)) other new new refl
    (λ k a b a_is b_is k_apart. posts_of_each (λ j r s. (k ≢ j) → IsFifo (out_of (links_of a) j).feed (into_of r.links k)) other new new refl
    (λ j d f d_is f_is j_apart. fifo k j a d a_is d_is j_apart) n (omega (arith, count, low_n)) k_apart)
    m (omega (arith, count, low_m)) apart

-- ---- all sites

module _ {D : Type 0} (told : Type 0) (state : D → DiskState) (own size : D → ℕ) (o : Opening) (plans : ℕ → ℕ → List LinkFault) (turns : ℕ) (old new : List (Cast D)) (t : told) (e : Each (TakesSome told state own size turns) old new) (fifo : AreFifoSites new) (was : AreSitesIn told state o plans old) where
  count : length new ≡ o.size
  count = e.count ∙ was.count

  module _ (other : Post D) where
    tells : (n : ℕ) → n < o.size → TellsOfSome o.size n (post_at other old n) (post_at other new n)
    tells n low = posts_of_each (λ k p q. IsPostOf o.size k p → TellsOfSome o.size k p q) other old new e.count
        (λ k a b a_is b_is of. some_tells told state own size o.size k turns a b (e.each k a b a_is b_is) of) n (omega (arith, was.count, low)) ((was.links other).of n low)

    keeps : KeepPlans o.size plans (trace_at new)
    keeps = keep_at o.size new count other plans (each_keeps_after o.size plans (post_at other old) (post_at other new) tells (fifo_at o.size new count fifo other) (was.links other))

  -- where there are two nodes there is a post
  keeps_all : KeepPlans o.size plans (trace_at new)
  keeps_all n m low_n low_m apart = by (found new n (omega (arith, count, low_n)))
    where
      by : (a : Cast D) × (slice_get new n ≡ Some a) → IsTakenByPlan (plans m n) (put_to n (trace_at new m)) (took_from m (trace_at new n))
      by (a, is) = keeps (post_of a.node) n m low_n low_m apart

  each_cell : (n : ℕ) (b : Cast D) → slice_get new n ≡ Some b → IsCellIn told state o n b.node.seat.node
  each_cell n b is = by (found old n (omega (arith, low_of new n b is, e.count)))
    where
      by : (a : Cast D) × (slice_get old n ≡ Some a) → IsCellIn told state o n b.node.seat.node
      by (a, a_is) = some_leaves told state own size o n turns a b t (e.each n a b a_is is) (was.each n a a_is)

  pub leaves : AreCellsIn told state o plans new
  leaves = record { count = count; each = each_cell; keep = keeps_all }

pub each_refused_burst : {D : Type 0} (told : Type 0) (state : D → DiskState) (own size : D → ℕ) (o : Opening) (plans : ℕ → ℕ → List LinkFault) (turns : ℕ) (old new : List (Cast D)) → RefusedBurstLeaves told state own size o plans turns old new
each_refused_burst told state own size o plans turns old new t it was = same_cells told state own size o plans it.burst new it.same (leaves told state own size o plans turns old it.burst t it.some it.joined was)
