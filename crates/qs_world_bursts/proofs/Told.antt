-- What an act of a node does with its links stands in its trace; and so what acts do, one after the other.
use Rattle.std.proofs.Common.{◌≡◌, ◌∙◌, ap, inl, inr, refl, subst, sym, ℕ, zero, suc, true, List, [], ◌∷◌, ◌++◌, append-nil, append_assoc, drop, length, take}
use Rattle.std.specs.Prelude.{Option}
use Rattle.std.specs.List.{filter, flat_map}
use Rattle.std.proofs.Math.Seq.{drop-append_seam}
use Rattle.std.proofs.lemmas.List.Concat.{flat_map-append}
use Rattle.std.proofs.lemmas.List.Elements.{All-append, All-nil, All-same}
use Rattle.qs_cell.proofs.Acting.{MakesOne, one_of}
use Rattle.qs_cell.specs.Acts.{Acts, in_act_as}
use Rattle.qs_cell.specs.Hearing.{Post}
use Rattle.qs_cell.specs.Visits.{due, sources_of}
use Rattle.qs_cell.specs.WholeVisits.{steps_in}
use Rattle.qs_cell.specs.declared.state.CellState.{CellState}
use Rattle.qs_cell_chronicle.specs.declared.occasion.Occasion.{Occasion}
use Rattle.qs_cell_peers.proofs.Putting.{all_more}
use Rattle.qs_cell_peers.specs.Links.{LinksValue, into_of, is_peer_of, out_of}
use Rattle.qs_cell_peers.specs.Peers.{is_peer, is_to}
use Rattle.qs_disk.specs.Disk.{DiskState}
use Rattle.qs_link.specs.Lane.{DrawValue}
use Rattle.qs_link.specs.Plan.{OutgoingValue, PutNone}
use Rattle.qs_link.specs.Planned.{PutAll}
use Rattle.qs_link.specs.declared.ends.NodeEnds.{NodeEnds}
use Rattle.qs_node_step.specs.declared.trace.Step.{Step}
use Rattle.qs_packet.specs.declared.packet.Packet.{Packet}
use Rattle.rtrb.specs.Ring.{SameConsumer, received}
use Rattle.qs_world_bursts.proofs.Ends.{consumer_on, inbox_on, none_behind, on_of, received_on}
use Rattle.qs_world_bursts.specs.Telling.{ActTells, ActsTellOn, ComeNamed, TellsOfActs}
use Rattle.qs_world_links.proofs.Adding.{Adds, adds_more, adds_none, adds_seen}
use Rattle.qs_world_links.proofs.Ends.{all_behind, all_front, none_put}
use Rattle.qs_world_links.proofs.Hearing.{Took, peer_there, post_of_node, post_then, times_hear, took_none}
use Rattle.qs_world_links.proofs.Linking.{put_to_more, took_from_more}
use Rattle.qs_world_links.proofs.Visiting.{BringNone, all_turn, sources_none}
use Rattle.qs_world_links.specs.Between.{BearsStamp, Goes, IsFrom}
use Rattle.qs_world_links.specs.Posts.{AreCarriedNamed, IsOfNode, IsPostOf}
use Rattle.qs_world_traces.specs.Links.{is_from, put_to, puts_of, took_from}

-- one of the sources that bring no packet
pub brings_one : {D S : Type 0} (is_due : S → CellState D → List NodeEnds → Option Occasion) (sources : List S) (k : ℕ) → BringNone is_due sources → BringNone is_due (take 1 (drop k sources))
brings_one is_due [] zero none = tt
brings_one is_due [] (suc k) none = tt
brings_one is_due (source ∷ sources) zero none = (none.0, tt)
brings_one is_due (source ∷ sources) (suc k) none = brings_one is_due sources k none.1

module _ {D : Type 0} (told : Type 0) (state : D → DiskState) (own size : D → ℕ) (nodes n : ℕ) where
  -- the event: of each link only the inbox may have changed
  pub made_one : (old new : Post D) → MakesOne told state own size old new → IsPostOf nodes n old → Took nodes n old new
  made_one old new (inl same) of = took_none nodes n old new
      (adds_none nodes n old.seat.node new.seat.node (ap (λ (p : Post D). steps_in p.seat.node) same) (subst (λ (p : Post D). IsOfNode nodes n p.seat.node) (sym same) of.node))
      (ap (λ (p : Post D). p.links) same)
  made_one old new (inr (inl (m, (peer, hears)))) of = times_hear nodes n told state own size m
      (subst (λ (k : ℕ). is_peer nodes k m ≡ true) of.me (subst (λ (s : ℕ). is_peer s old.links.me.0 m ≡ true) of.size peer)) (suc zero) old new (old, (refl, hears)) of
  made_one old new (inr (inr (k, (low, (turns, same))))) of = took_none nodes n old new
      (all_turn nodes n told state own size (take 1 (drop k (sources_of old.seat.ends))) old.seat new.seat turns (brings_one due (sources_of old.seat.ends) k (sources_none D old.seat.ends)) of.node) same

  -- an act
  module _ (old new : Post D) (a : Acts told state own size old new) (of : IsPostOf nodes n old) where
    begun : Adds nodes n [] old.seat.node a.begun.seat.node
    begun = adds_seen nodes n in_act_as (λ s. refl) old.seat.node a.begun.seat.node a.act of.node

    of_begun : IsPostOf nodes n a.begun
    of_begun = post_of_node nodes n old a.begun of a.pulls.same begun.node

    made : Took nodes n a.begun a.made
    made = made_one a.begun a.made (one_of told state own size a.begun a.made a.makes) of_begun

    of_made : IsPostOf nodes n a.made
    of_made = post_then nodes n a.begun a.made of_begun made

    of_put : IsPostOf nodes n (record { seat = a.made.seat; links = a.put })
    of_put = post_of_node nodes n a.made (record { seat = a.made.seat; links = a.put }) of_made a.puts.same of_made.node

    adds : Adds nodes n ([] ++ made.takes) old.seat.node a.made.seat.node
    adds = adds_more nodes n [] made.takes old.seat.node a.begun.seat.node a.made.seat.node begun made.adds

    since : flat_map puts_of (drop (length (steps_in old.seat.node)) (steps_in a.made.seat.node)) ≡ flat_map puts_of adds.steps
    since = ap (λ (l : List Step). flat_map puts_of (drop (length (steps_in old.seat.node)) l)) adds.trace ∙ ap (flat_map puts_of) (drop-append_seam (steps_in old.seat.node) adds.steps)

    peer_old : (m : ℕ) → is_peer nodes n m ≡ true → is_peer_of old.links m ≡ true
    peer_old m peer = peer_there nodes n old of m peer

    -- what was popped of the link from each node
    abbrev on : ℕ → List Packet
    on m = on_of (into_of old.links m) (into_of a.begun.links m)

    inbox : (m : ℕ) → is_peer nodes n m ≡ true → (into_of a.begun.links m).inbox ≡ (into_of old.links m).inbox ++ on m
    inbox m peer = inbox_on (into_of old.links m) (into_of a.begun.links m) (a.pulls.into m (peer_old m peer))

    -- what was put went to the links, and the ends of the others stayed
    puts : (m : ℕ) → is_peer nodes n m ≡ true → PutAll (put_to m adds.steps) (out_of old.links m) (out_of new.links m)
    puts m peer = subst (λ (o : OutgoingValue). PutAll (put_to m adds.steps) o (out_of new.links m)) (made.out m peer ∙ a.pulls.out m (peer_old m peer) refl)
        (none_behind (put_to m adds.steps) (out_of a.made.links m) (out_of a.put m) (out_of new.links m)
        (subst (λ (l : List Packet). PutAll (filter (is_to m) l) (out_of a.made.links m) (out_of a.put m)) since (a.puts.put m (peer_there nodes n a.made of_made m peer)))
        (a.pushes.out m (peer_there nodes n (record { seat = a.made.seat; links = a.put }) of_put m peer)))

    into : (m : ℕ) → is_peer nodes n m ≡ true → into_of new.links m ≡ into_of a.made.links m
    into m peer = a.pushes.into m (peer_there nodes n (record { seat = a.made.seat; links = a.put }) of_put m peer) refl ∙ a.puts.into m (peer_there nodes n a.made of_made m peer) refl

    rings : (m : ℕ) → is_peer nodes n m ≡ true → (into_of new.links m).ring ≡ (into_of a.begun.links m).ring
    rings m peer = ap (λ (d : DrawValue Packet). d.ring) (into m peer) ∙ made.rings m peer

    popped : (m : ℕ) → is_peer nodes n m ≡ true → received (into_of new.links m).ring ≡ received (into_of old.links m).ring ++ on m
    popped m peer = ap (λ r. received r) (rings m peer) ∙ received_on (into_of old.links m) (into_of a.begun.links m) (a.pulls.into m (peer_old m peer))

    came : ComeNamed nodes n old.links on → AreCarriedNamed nodes n a.begun.links
    came named m peer = All-same (Goes m n) (into_of a.begun.links m).inbox ((into_of old.links m).inbox ++ on m) (inbox m peer) (named m peer)

    took : ComeNamed nodes n old.links on → (m : ℕ) → is_peer nodes n m ≡ true → (into_of old.links m).inbox ++ on m ≡ took_from m adds.steps ++ (into_of new.links m).inbox
    took named m peer = sym (inbox m peer)
        ∙ (made.took (came named) m peer
        ∙ (ap (λ (l : List Packet). filter (is_from m) l ++ (into_of a.made.links m).inbox) (sym adds.takes_are)
        ∙ ap (λ (d : DrawValue Packet). took_from m adds.steps ++ d.inbox) (sym (into m peer))))

  pub each_act : (old new : Post D) → ActTells told state own size nodes n old new
  each_act old new a of = record {
    steps = (adds old new a of).steps;
    trace = ap (λ s. steps_in s.node) a.seat ∙ (adds old new a of).trace;
    from = (adds old new a of).from;
    bears = (adds old new a of).bears;
    put = puts old new a of;
    on = on old new a of;
    received = popped old new a of;
    ring = λ m peer. subst (λ r. SameConsumer (into_of old.links m).ring r) (sym (rings old new a of m peer)) (a.pulls.into m (peer_there nodes n old of m peer)).ring;
    took = took old new a of;
    post = post_of_node nodes n (record { seat = a.made.seat; links = a.put }) new (of_put old new a of) a.pushes.same
        (subst (λ s. IsOfNode nodes n s.node) (sym a.seat) (of_made old new a of).node);
  }

-- ---- one after the other

module _ {D : Type 0} (nodes n : ℕ) where
  -- nothing is done with the node and its links
  pub tells_none : (old new : Post D) → new.seat.node ≡ old.seat.node → new.links ≡ old.links → IsPostOf nodes n old → TellsOfActs nodes n old new
  tells_none old new node links of = record {
    steps = [];
    trace = ap steps_in node ∙ sym (append-nil (steps_in old.seat.node));
    from = All-nil (IsFrom n);
    bears = All-nil BearsStamp;
    put = λ m peer. subst (λ (l : LinksValue). PutNone (out_of old.links m) (out_of l m)) (sym links) (none_put (out_of old.links m));
    on = λ m. [];
    received = λ m peer. ap (λ (l : LinksValue). received (into_of l m).ring) links ∙ sym (append-nil (received (into_of old.links m).ring));
    ring = λ m peer. subst (λ (l : LinksValue). SameConsumer (into_of old.links m).ring (into_of l m).ring) (sym links) ((refl, refl, refl, refl), refl);
    took = λ named m peer. append-nil (into_of old.links m).inbox ∙ ap (λ (l : LinksValue). (into_of l m).inbox) (sym links);
    post = record {
      node = subst (IsOfNode nodes n) (sym node) of.node;
      size = ap (λ (l : LinksValue). l.size) links ∙ of.size;
      me = ap (λ (l : LinksValue). l.me.0) links ∙ of.me;
    };
  }

  module _ (old mid new : Post D) (a : TellsOfActs nodes n old mid) (b : TellsOfActs nodes n mid new) where
    -- what came by the second stood there behind the first, or came since
    named_first : ComeNamed nodes n old.links (λ m. a.on m ++ b.on m) → ComeNamed nodes n old.links a.on
    named_first named m peer = all_front (Goes m n) ((into_of old.links m).inbox ++ a.on m) (b.on m)
        (All-same (Goes m n) (((into_of old.links m).inbox ++ a.on m) ++ b.on m) ((into_of old.links m).inbox ++ (a.on m ++ b.on m)) (append_assoc (into_of old.links m).inbox (a.on m) (b.on m)) (named m peer))

    -- all that came, in order
    whole : ComeNamed nodes n old.links (λ m. a.on m ++ b.on m) → (m : ℕ) → is_peer nodes n m ≡ true
        → (into_of old.links m).inbox ++ (a.on m ++ b.on m) ≡ took_from m a.steps ++ ((into_of mid.links m).inbox ++ b.on m)
    whole named m peer = sym (append_assoc (into_of old.links m).inbox (a.on m) (b.on m))
        ∙ (ap (λ (l : List Packet). l ++ b.on m) (a.took (named_first named) m peer)
        ∙ append_assoc (took_from m a.steps) (into_of mid.links m).inbox (b.on m))

    named_then : ComeNamed nodes n old.links (λ m. a.on m ++ b.on m) → ComeNamed nodes n mid.links b.on
    named_then named m peer = all_behind (Goes m n) (took_from m a.steps) ((into_of mid.links m).inbox ++ b.on m)
        (All-same (Goes m n) (took_from m a.steps ++ ((into_of mid.links m).inbox ++ b.on m)) ((into_of old.links m).inbox ++ (a.on m ++ b.on m)) (sym (whole named m peer)) (named m peer))

  pub tells_on : (old mid new : Post D) → ActsTellOn nodes n old mid new
  tells_on old mid new a b = record {
    steps = a.steps ++ b.steps;
    trace = b.trace ∙ (ap (λ (l : List Step). l ++ b.steps) a.trace ∙ append_assoc (steps_in old.seat.node) a.steps b.steps);
    from = All-same (IsFrom n) (flat_map puts_of (a.steps ++ b.steps)) (flat_map puts_of a.steps ++ flat_map puts_of b.steps) (flat_map-append puts_of a.steps b.steps)
        (All-append (IsFrom n) (flat_map puts_of a.steps) (flat_map puts_of b.steps) a.from b.from);
    bears = All-append BearsStamp a.steps b.steps a.bears b.bears;
    put = λ m peer. subst (λ (l : List Packet). PutAll l (out_of old.links m) (out_of new.links m)) (sym (put_to_more m a.steps b.steps))
        (all_more (put_to m a.steps) (put_to m b.steps) (out_of old.links m) (out_of mid.links m) (out_of new.links m) (a.put m peer) (b.put m peer));
    on = λ m. a.on m ++ b.on m;
    received = λ m peer. b.received m peer ∙ (ap (λ (l : List Packet). l ++ b.on m) (a.received m peer) ∙ append_assoc (received (into_of old.links m).ring) (a.on m) (b.on m));
    ring = λ m peer. consumer_on (into_of old.links m) (into_of mid.links m) (into_of new.links m) (a.ring m peer) (b.ring m peer);
    took = λ named m peer. whole old mid new a b named m peer
        ∙ (ap (λ (l : List Packet). took_from m a.steps ++ l) (b.took (named_then old mid new a b named) m peer)
        ∙ (sym (append_assoc (took_from m a.steps) (took_from m b.steps) (into_of new.links m).inbox)
        ∙ ap (λ (l : List Packet). l ++ (into_of new.links m).inbox) (sym (took_from_more m a.steps b.steps))));
    post = b.post;
  }
