-- The visit of one actor, as it is of all sites.
use Rattle.std.proofs.Common.{◌≡◌, ◌∙◌, ◌≤◌, ◌<◌, ◌+◌, ap, subst, sym, refl, ℕ, zero, suc, Bool, true, false, List, length, get_or, arith}
use Rattle.std.proofs.lemmas.Option.{slice_get-get_or, slice_get_past}
use Rattle.std.specs.Prelude.{Option, Some, None, Result, Ok, Err, IfOk, OnOk, slice_get, slice_set}
use Rattle.qs_base.specs.Causes.{Rose}
use Rattle.qs_base.specs.declared.identifiers.NodeNo.{NodeNo}
use Rattle.qs_cell.proofs.VisitRounds.{start_rounds, visit_rounds}
use Rattle.qs_cell.specs.Starts.{CellValue, post_of}
use Rattle.qs_cell.specs.State.{rounds_of}
use Rattle.qs_cell.specs.declared.state.CellState.{CellState}
use Rattle.qs_cell_chronicle.specs.Chronicle.{counted}
use Rattle.qs_disk.specs.Disk.{DiskState}
use Rattle.qs_world_rounds.specs.Breaks as one
use Rattle.qs_world_rounds.specs.Breaks.{own_faults}
use Rattle.qs_world_rounds.specs.Rounds as visits
use Rattle.qs_world_rounds.specs.Rounds.{Cast, NodeVisitIf, is_up, visits_of}
use Rattle.qs_world_rounds.specs.declared.faults.RoundFault.{RoundFault}
use Rattle.qs_world_sites.proofs.Staying.{Got, each_set, got_at, got_below, set_here}
use Rattle.qs_world_sites.specs.Breaks.{HasRisen, OfSite, OfTurn}
use Rattle.qs_world_sites.specs.Late.{IsLate, RisesBy}
use Rattle.qs_world_sites.specs.Rounds.{VisitAt, VisitOfSite, VisitOfTurn}
use Rattle.qs_world_sites.specs.Sites.{AreLinked, Each, GoesOn, HasSameCell, SitesValue, links_of}
use Rattle.qs_world_sites.specs.declared.turn.Turn.{Turn}

-- ---- a visit is one visit or restart of the node, or none

module _ {D : Type 0} (told : Type 0) (state : D → DiskState) (own size : D → ℕ) where
  node_rises : (up : Bool) (old new : CellValue D) (did : Bool) → NodeVisitIf up told state own size old new did → rounds_of new.seat.node ≤ rounds_of old.seat.node + 1
  node_rises true old new did visit =
      let one_more : rounds_of new.seat.node ≡ counted (rounds_of old.seat.node) = visit_rounds told state own size (post_of old) (post_of new) visit.visits in
      omega (arith, one_more)
  node_rises false old new did visit = start_rounds told state own size old.alloc old.seat.node new.seat.node (Ok did) visit.starts

  site_rises : (place : ℕ) (old new : Cast D) (did : Bool) → visits.VisitAt told state own size place old new did → visits_of new ≤ visits_of old + 1
  site_rises zero old new did visit = node_rises (is_up old.node) old.node new.node did visit.0
  site_rises (suc at) old new did visit =
      let same : visits_of new ≡ visits_of old = ap (λ (c : CellValue D). rounds_of c.seat.node) visit.0 in
      omega (arith, same)

-- the disk that failed is that of the node
fails_rose : {D : Type 0} (told : Type 0) (state : D → DiskState) (own size : D → ℕ) (place : ℕ) (old new : Cast D) → one.FailsAt told state own size place old new → Rose old.node.faults (own_faults own new.node)
fails_rose told state own size zero old new fails = fails.0.rose
fails_rose told state own size (suc at) old new fails = absurd fails

rises_none : {D : Type 0} (a : Cast D) → RisesBy 1 a a
rises_none a = record { most = omega arith }

-- ---- of all sites

module _ {D : Type 0} (told : Type 0) (state : D → DiskState) (own size : D → ℕ) (turn : Turn) (sites : List (Cast D)) (d here new : Cast D) (less : turn.site < length sites) (is : here ≡ get_or sites turn.site d) where
  pub got_here : slice_get sites turn.site ≡ Some here
  got_here = slice_get-get_or sites turn.site d less ∙ ap (λ (c : Cast D). Some c) (sym is)

  pub visited : (result : Result Bool RoundFault) → IfOk result (visits.VisitAt told state own size turn.place here new)
      → IfOk result (VisitOfSite told state own size turn (slice_get sites turn.site) sites (slice_set sites turn.site new))
  visited (Ok did) visit = subst (λ (c : Option (Cast D)). VisitOfSite told state own size turn c sites (slice_set sites turn.site new) did) (sym got_here) (new, (visit, refl))
  visited (Err e) visit = tt

  pub came : (P : ℕ → Cast D → Cast D → Type 0) → P turn.place here new → OfSite P turn (slice_get sites turn.site) sites (slice_set sites turn.site new)
  came P holds = subst (λ (c : Option (Cast D)). OfSite P turn c sites (slice_set sites turn.site new)) (sym got_here) (new, (holds, refl))

  pub risen : (node : NodeNo) → AreLinked sites → node ≡ (links_of here).me → one.FailsAt told state own size turn.place here new → HasRisen own node sites (slice_set sites turn.site new)
  risen node linked named fails = record {
    before = here;
    after = new;
    before_is = ap (slice_get sites) number ∙ got_here;
    after_is = ap (slice_get (slice_set sites turn.site new)) number ∙ set_here sites turn.site new less;
    rose = fails_rose told state own size turn.place here new fails;
  }
    where
      number : node.0 ≡ turn.site
      number = ap (λ (k : NodeNo). k.0) named ∙ linked.numbers turn.site here got_here

  pub rises : (result : Result Bool RoundFault) → IfOk result (visits.VisitAt told state own size turn.place here new) → OnOk result (Each (RisesBy 1) sites (slice_set sites turn.site new))
  rises (Ok did) visit = each_set (RisesBy 1) rises_none sites turn.site here new got_here (record { most = site_rises told state own size turn.place here new did visit })
  rises (Err e) visit = tt

pub visited_none : {D : Type 0} (told : Type 0) (state : D → DiskState) (own size : D → ℕ) (turn : Turn) (sites : List (Cast D)) → length sites ≤ turn.site → VisitOfSite told state own size turn (slice_get sites turn.site) sites sites false
visited_none told state own size turn sites most = subst (λ (c : Option (Cast _)). VisitOfSite told state own size turn c sites sites false) (sym (slice_get_past sites turn.site most)) (refl, refl)

-- ---- by the place of a round's order

pub at_turn : (turns : List Turn) (place : ℕ) (d turn : Turn) → place < length turns → turn ≡ get_or turns place d → slice_get turns place ≡ Some turn
at_turn turns place d turn less is = slice_get-get_or turns place d less ∙ ap (λ (t : Turn). Some t) (sym is)

pub no_turn : (turns : List Turn) (place : ℕ) → length turns ≤ place → slice_get turns place ≡ None
no_turn turns place most = slice_get_past turns place most

module _ {D : Type 0} (told : Type 0) (state : D → DiskState) (own size : D → ℕ) (old new : SitesValue D) (place : ℕ) (turn : Turn) (got : slice_get old.turns place ≡ Some turn) (turns : new.turns ≡ old.turns) where
  pub visit_by : (result : Result Bool RoundFault) → IfOk result (VisitOfSite told state own size turn (slice_get old.sites turn.site) old.sites new.sites) → IfOk result (VisitAt told state own size place old new)
  visit_by (Ok did) visit = (subst (λ (t : Option Turn). VisitOfTurn told state own size t old.sites new.sites did) (sym got) visit, turns)
  visit_by (Err e) visit = tt

  pub came_by : (P : ℕ → Cast D → Cast D → Type 0) → OfSite P turn (slice_get old.sites turn.site) old.sites new.sites → OfTurn P (slice_get old.turns place) old.sites new.sites × (new.turns ≡ old.turns)
  came_by P holds = (subst (λ (t : Option Turn). OfTurn P t old.sites new.sites) (sym got) holds, turns)

pub visit_nobody : {D : Type 0} (told : Type 0) (state : D → DiskState) (own size : D → ℕ) (turns : List Turn) (place : ℕ) (sites : List (Cast D)) → length turns ≤ place → VisitOfTurn told state own size (slice_get turns place) sites sites false
visit_nobody told state own size turns place sites most = subst (λ (t : Option Turn). VisitOfTurn told state own size t sites sites false) (sym (no_turn turns place most)) (refl, refl)

-- ---- one change behind another

module _ {D : Type 0} where
  pub rises_on : (j k : ℕ) (a b c : Cast D) → RisesBy j a b → RisesBy k b c → RisesBy (j + k) a c
  rises_on j k a b c first second = record { most = let before = first.most in let behind = second.most in omega arith }

  pub rises_behind : (k : ℕ) (a b c : Cast D) → RisesBy 0 a b → RisesBy k b c → RisesBy k a c
  rises_behind k a b c first second = record { most = let before = first.most in let behind = second.most in omega arith }

  pub rises_zero : (a : Cast D) → RisesBy 0 a a
  rises_zero a = record { most = omega arith }

  pub same_rises : (a b : Cast D) → HasSameCell a b → RisesBy 0 a b
  same_rises a b same = record { most = let is = ap (λ (n : CellState D). rounds_of n) same.node in omega arith }

  pub risen_on : (own : D → ℕ) (node : NodeNo) (xs ys zs : List (Cast D)) → Each GoesOn xs ys → HasRisen own node ys zs → HasRisen own node xs zs
  risen_on own node xs ys zs goes risen = record {
    before = first.item;
    after = risen.after;
    before_is = first.is;
    after_is = risen.after_is;
    rose = subst (λ (f : ℕ). Rose f (own_faults own risen.after.node)) (goes.each node.0 first.item risen.before first.is risen.before_is).start.faults risen.rose;
  }
    where
      first : Got xs node.0
      first = got_at xs node.0 (let less = got_below ys node.0 risen.before risen.before_is in let same = goes.count in omega arith)

  pub late_on : (i k all : ℕ) (xs ys : List (Cast D)) → Each (RisesBy i) xs ys → i + k ≤ all → IsLate k ys → IsLate all xs
  late_on i k all xs ys rises le late = record {
    node = late.node;
    site = first.item;
    is = first.is;
    late = let before = (rises.each late.node first.item late.site first.is late.is).most in let past = late.late in omega arith;
  }
    where
      first : Got xs late.node
      first = got_at xs late.node (let less = got_below ys late.node late.site late.is in let same = rises.count in omega arith)
