-- The packets of a visit: each that is taken stands in the trace, and all else that stands on the links is left there.
use Rattle.std.proofs.Common.{◌≡◌, ◌∙◌, ap, refl, subst, sym, ℕ, zero, suc, ◌==◌, Bool, true, false, not, List, [], ◌∷◌, ◌++◌, append_assoc, if◌then◌else◌}
use Rattle.std.specs.Prelude.{Option, None, Some, length}
use Rattle.std.specs.List.{filter}
use Rattle.std.proofs.lemmas.Bool.{eqb-false, eqb-true, ne_eqb}
use Rattle.std.proofs.lemmas.List.Elements.{All-head, All-same, filter-append}
use Rattle.qs_base.specs.declared.identifiers.NodeNo.{NodeNo}
use Rattle.qs_cell.specs.Hearing.{HasTaken, Hears, HearsBelow, HearsFrom, HearsIn, HearsTimes, Post}
use Rattle.qs_cell.specs.State.{Up}
use Rattle.qs_cell.specs.WholeVisits.{steps_in}
use Rattle.qs_cell.specs.declared.state.CellState.{CellState}
use Rattle.qs_cell.specs.declared.state.CellState.TheVariants as states
use Rattle.qs_cell_peers.specs.Links.{IsSameNode, LinksValue, into_of, is_peer_of, out_of}
use Rattle.qs_cell_peers.specs.Peers.{is_peer}
use Rattle.qs_disk.specs.Disk.{DiskState}
use Rattle.qs_link.specs.Lane.{DrawValue}
use Rattle.qs_packet.specs.declared.packet.Packet.{Packet}
use Rattle.qs_world_links.proofs.Adding.{Adds, adds_more, adds_none, adds_seen}
use Rattle.qs_world_links.proofs.Coming.{AddsPacket, comes_of, takes_in_adds}
use Rattle.qs_world_links.proofs.Ends.{all_behind, was_carried}
use Rattle.qs_world_links.specs.Between.{Goes}
use Rattle.qs_world_links.specs.Posts.{AreCarriedNamed, IsOfNode, IsPostOf}
use Rattle.qs_world_traces.specs.Links.{is_from}

-- ---- one packet of node k was drawn

module _ (nodes n k : ℕ) (old left : LinksValue) (peers : (m : ℕ) → is_peer nodes n m ≡ true → is_peer_of old m ≡ true) where
  out_left : (taken : Option Packet) → HasTaken k taken old left → (m : ℕ) → is_peer nodes n m ≡ true → out_of left m ≡ out_of old m
  out_left taken t m peer = t.out m (peers m peer) refl

  -- the link from node m is the one, or another
  rings_left : (taken : Option Packet) → HasTaken k taken old left → (m : ℕ) → is_peer nodes n m ≡ true → (into_of left m).ring ≡ (into_of old m).ring
  rings_left taken t m peer = by (m == k) refl
    where
      by : (b : Bool) → (m == k) ≡ b → (into_of left m).ring ≡ (into_of old m).ring
      by true is = subst (λ (j : ℕ). (into_of left j).ring ≡ (into_of old j).ring) (sym (eqb-true m k is)) t.ring
      by false is = ap (λ (d : DrawValue Packet). d.ring) (t.others m (peers m peer) (ap not is))

  none_left : HasTaken k None old left → (m : ℕ) → is_peer nodes n m ≡ true → (into_of old m).inbox ≡ (into_of left m).inbox
  none_left t m peer = by (m == k) refl
    where
      by : (b : Bool) → (m == k) ≡ b → (into_of old m).inbox ≡ (into_of left m).inbox
      by true is = subst (λ (j : ℕ). (into_of old j).inbox ≡ (into_of left j).inbox) (sym (eqb-true m k is)) (was_carried [] (into_of old k) (into_of left k) t.ring t.took)
      by false is = ap (λ (d : DrawValue Packet). d.inbox) (sym (t.others m (peers m peer) (ap not is)))

  one_left : (packet : Packet) → HasTaken k (Some packet) old left → packet.from.0 ≡ k → (m : ℕ) → is_peer nodes n m ≡ true → (into_of old m).inbox ≡ filter (is_from m) (packet ∷ []) ++ (into_of left m).inbox
  one_left packet t from m peer = by (packet.from.0 == m) refl
    where
      by : (b : Bool) → (packet.from.0 == m) ≡ b → (into_of old m).inbox ≡ (if b then packet ∷ [] else []) ++ (into_of left m).inbox
      by true is = subst (λ (j : ℕ). (into_of old j).inbox ≡ packet ∷ (into_of left j).inbox) (sym from ∙ eqb-true packet.from.0 m is) (was_carried (packet ∷ []) (into_of old k) (into_of left k) t.ring t.took)
      by false is = ap (λ (d : DrawValue Packet). d.inbox) (sym (t.others m (peers m peer) (ap not (ne_eqb m k (λ same. eqb-false packet.from.0 m is (from ∙ sym same))))))

-- ---- a stretch of a visit

-- the trace names what was taken, and nothing else was done with the links
pub record Took {D : Type 0} (nodes n : ℕ) (old new : Post D) : Type 0 where
  pub takes : List Packet
  pub adds : Adds nodes n takes old.seat.node new.seat.node
  pub same : IsSameNode old.links new.links
  pub out : (m : ℕ) → is_peer nodes n m ≡ true → out_of new.links m ≡ out_of old.links m
  pub rings : (m : ℕ) → is_peer nodes n m ≡ true → (into_of new.links m).ring ≡ (into_of old.links m).ring
  pub took : AreCarriedNamed nodes n old.links → (m : ℕ) → is_peer nodes n m ≡ true → (into_of old.links m).inbox ≡ filter (is_from m) takes ++ (into_of new.links m).inbox

module _ {D : Type 0} (nodes n : ℕ) where
  -- a post is of its node as its cell and its links are
  pub post_of_node : (old new : Post D) → IsPostOf nodes n old → IsSameNode old.links new.links → IsOfNode nodes n new.seat.node → IsPostOf nodes n new
  post_of_node old new of same node = record { node = node; size = same.size ∙ of.size; me = ap (λ (m : NodeNo). m.0) same.me ∙ of.me }

  pub post_then : (old new : Post D) → IsPostOf nodes n old → Took nodes n old new → IsPostOf nodes n new
  post_then old new of t = post_of_node old new of t.same t.adds.node

  -- it is a peer to the links where it is one of the node
  pub peer_there : (post : Post D) → IsPostOf nodes n post → (m : ℕ) → is_peer nodes n m ≡ true → is_peer_of post.links m ≡ true
  peer_there post of m peer = subst (λ (k : ℕ). is_peer post.links.size k m ≡ true) (sym of.me) (subst (λ (k : ℕ). is_peer k n m ≡ true) (sym of.size) peer)

  -- what is left is named as it was
  pub named_then : (old new : Post D) → Took nodes n old new → AreCarriedNamed nodes n old.links → AreCarriedNamed nodes n new.links
  named_then old new t named m peer = all_behind (Goes m n) (filter (is_from m) t.takes) (into_of new.links m).inbox
      (All-same (Goes m n) (filter (is_from m) t.takes ++ (into_of new.links m).inbox) (into_of old.links m).inbox (sym (t.took named m peer)) (named m peer))

  -- ---- nothing is taken, and one after the other

  pub took_none : (old new : Post D) → Adds nodes n [] old.seat.node new.seat.node → new.links ≡ old.links → Took nodes n old new
  took_none old new adds same = record {
    takes = [];
    adds = adds;
    same = record { size = ap (λ (l : LinksValue). l.size) same; me = ap (λ (l : LinksValue). l.me) same };
    out = λ m peer. ap (λ (l : LinksValue). out_of l m) same;
    rings = λ m peer. ap (λ (l : LinksValue). (into_of l m).ring) same;
    took = λ named m peer. ap (λ (l : LinksValue). (into_of l m).inbox) (sym same);
  }

  nothing_heard : (old new : Post D) → new ≡ old → IsPostOf nodes n old → Took nodes n old new
  nothing_heard old new same of = took_none old new
      (adds_none nodes n old.seat.node new.seat.node (ap (λ (p : Post D). steps_in p.seat.node) same) (subst (λ (p : Post D). IsOfNode nodes n p.seat.node) (sym same) of.node)) (ap (λ (p : Post D). p.links) same)

  pub took_more : (old mid new : Post D) → Took nodes n old mid → Took nodes n mid new → Took nodes n old new
  took_more old mid new a b = record {
    takes = a.takes ++ b.takes;
    adds = adds_more nodes n a.takes b.takes old.seat.node mid.seat.node new.seat.node a.adds b.adds;
    same = record { size = b.same.size ∙ a.same.size; me = b.same.me ∙ a.same.me };
    out = λ m peer. b.out m peer ∙ a.out m peer;
    rings = λ m peer. b.rings m peer ∙ a.rings m peer;
    took = λ named m peer. a.took named m peer
        ∙ (ap (λ (l : List Packet). filter (is_from m) a.takes ++ l) (b.took (named_then old mid a named) m peer)
        ∙ (sym (append_assoc (filter (is_from m) a.takes) (filter (is_from m) b.takes) (into_of new.links m).inbox)
        ∙ ap (λ (l : List Packet). l ++ (into_of new.links m).inbox) (sym (filter-append (is_from m) a.takes b.takes))));
  }

  -- ---- a turn

  module _ (told : Type 0) (state : D → DiskState) (own size : D → ℕ) (k : ℕ) (peer_k : is_peer nodes n k ≡ true) where
    -- of one that is up, which has no packet of that node, or has one
    hears_none : (ready : Up D) (old : Post D) (left : LinksValue) (new : Post D) → IsPostOf nodes n old → HasTaken k None old.links left → new ≡ record { seat = record old.seat { node = states.Up ready }; links = left }
        → Adds nodes n [] old.seat.node (states.Up ready) → Took nodes n old new
    hears_none ready old left new of taken same adds = subst (λ (p : Post D). Took nodes n old p) (sym same) (record {
      takes = [];
      adds = adds;
      same = taken.same;
      out = out_left nodes n k old.links left (peer_there old of) None taken;
      rings = rings_left nodes n k old.links left (peer_there old of) None taken;
      took = λ named. none_left nodes n k old.links left (peer_there old of) taken;
    })

    pub hears_one : (packet : Packet) (ready : Up D) (old : Post D) (left : LinksValue) (new : Post D) → IsPostOf nodes n old → HasTaken k (Some packet) old.links left → new.links ≡ left
        → Adds nodes n [] old.seat.node (states.Up ready) → AddsPacket nodes n packet (states.Up ready) new.seat.node → Took nodes n old new
    hears_one packet ready old left new of taken links adds more = record {
      takes = more.takes;
      adds = adds_more nodes n [] more.takes old.seat.node (states.Up ready) new.seat.node adds more.adds;
      same = subst (λ (l : LinksValue). IsSameNode old.links l) (sym links) taken.same;
      out = λ m peer. subst (λ (l : LinksValue). out_of l m ≡ out_of old.links m) (sym links) (out_left nodes n k old.links left (peer_there old of) (Some packet) taken m peer);
      rings = λ m peer. subst (λ (l : LinksValue). (into_of l m).ring ≡ (into_of old.links m).ring) (sym links) (rings_left nodes n k old.links left (peer_there old of) (Some packet) taken m peer);
      took = λ named m peer. subst (λ (l : LinksValue). (into_of old.links m).inbox ≡ filter (is_from m) more.takes ++ (into_of l m).inbox) (sym links)
          (subst (λ (ps : List Packet). (into_of old.links m).inbox ≡ filter (is_from m) ps ++ (into_of left m).inbox) (sym (more.is (comes_of nodes k n packet peer_k (goes named))))
          (one_left nodes n k old.links left (peer_there old of) packet taken (goes named).0 m peer));
    }
      where
        goes : AreCarriedNamed nodes n old.links → Goes k n packet
        goes named = All-head (Goes k n) packet (into_of left k).inbox
            (All-same (Goes k n) (packet ∷ (into_of left k).inbox) (into_of old.links k).inbox (sym (was_carried (packet ∷ []) (into_of old.links k) (into_of left k) taken.ring taken.took)) (named k peer_k))

    hears_in : (ready : CellState D) (old new : Post D) → HearsIn told state own size k ready old new → IsPostOf nodes n old → Adds nodes n [] old.seat.node ready → Took nodes n old new
    hears_in (states.Down stopped) old new turn of adds = took_none old new
        (subst (λ (p : Post D). Adds nodes n [] old.seat.node p.seat.node) (sym turn) adds) (ap (λ (p : Post D). p.links) turn)
    hears_in (states.Up ready) old new (None, (left, (taken, heard))) of adds = hears_none ready old left new of taken heard adds
    hears_in (states.Up ready) old new (Some packet, (left, (taken, (links, (answers, (takes, ends)))))) of adds =
        hears_one packet ready old left new of taken links adds (takes_in_adds told state own size nodes n packet ready new.seat.node answers takes adds.node)

    hears : (old new : Post D) → Hears told state own size k old new → IsPostOf nodes n old → Took nodes n old new
    hears old new h of = hears_in h.ready old new h.turn of (adds_seen nodes n (λ s. s) (λ s. refl) old.seat.node h.ready h.same of.node)

    pub times_hear : (count : ℕ) (old new : Post D) → HearsTimes told state own size k count old new → IsPostOf nodes n old → Took nodes n old new
    times_hear zero old new same of = nothing_heard old new same of
    times_hear (suc count) old new (mid, (before, h)) of = let first = times_hear count old mid before of in took_more old mid new first (hears mid new h (post_then old mid of first))

  -- ---- the packets of all

  module _ (told : Type 0) (state : D → DiskState) (own size : D → ℕ) where
    from_hear : (k : ℕ) (old new : Post D) → HearsFrom told state own size k old new → IsPostOf nodes n old → Took nodes n old new
    from_hear k old new heard of = by (is_peer_of old.links k) refl heard
      where
        by : (b : Bool) → is_peer_of old.links k ≡ b → HearsTimes told state own size k (if b then length (into_of old.links k).inbox else 0) old new → Took nodes n old new
        by true is h = times_hear told state own size k (subst (λ (m : ℕ). is_peer nodes m k ≡ true) of.me (subst (λ (s : ℕ). is_peer s old.links.me.0 k ≡ true) of.size is)) (length (into_of old.links k).inbox) old new h of
        by false is h = nothing_heard old new h of

    pub all_hear : (below : ℕ) (old new : Post D) → HearsBelow told state own size below old new → IsPostOf nodes n old → Took nodes n old new
    all_hear zero old new same of = nothing_heard old new same of
    all_hear (suc k) old new (mid, (before, h)) of = let first = all_hear k old mid before of in took_more old mid new first (from_hear k mid new h (post_then old mid of first))
