-- Where memory was refused in an act: the trace tells what was taken of each link, and what was put to it is a front of what it tells. So the links still keep their plans.
use Rattle.std.proofs.Common.{◌≡◌, ◌≢◌, ◌∙◌, ap, inl, inr, refl, subst, sym, ℕ, ◌<◌, true, List, [], ◌∷◌, ◌++◌, append-nil, append_assoc, drop, length, take}
use Rattle.std.specs.Prelude.{All, None}
use Rattle.std.specs.List.{filter, flat_map}
use Rattle.std.proofs.Math.Seq.{drop-append_seam}
use Rattle.std.proofs.lemmas.List.Concat.{flat_map-append}
use Rattle.std.proofs.lemmas.List.Elements.{All-append, All-filter, All-same, filter-append}
use Rattle.qs_cell.proofs.Acting.{BreaksOne, breaks_one, one_of}
use Rattle.qs_cell.specs.Acts.{BreaksAct, PutsSome, in_act_as}
use Rattle.qs_cell.specs.Hearing.{Post}
use Rattle.qs_cell.specs.Visits.{due, sources_of}
use Rattle.qs_cell.specs.WholeVisits.{steps_in}
use Rattle.qs_cell_peers.proofs.Places.{is_peer_from, peer_is}
use Rattle.qs_cell_peers.proofs.Putting.{all_more}
use Rattle.qs_cell_peers.specs.Links.{KeepsEnds, LinksValue, into_of, is_peer_of, out_of}
use Rattle.qs_cell_peers.specs.Peers.{is_peer, is_to}
use Rattle.qs_disk.specs.Disk.{DiskState}
use Rattle.qs_link.specs.Lane.{DrawValue}
use Rattle.qs_link.specs.Plan.{OutgoingValue, PutNone}
use Rattle.qs_link.specs.Planned.{PutAll}
use Rattle.qs_link.specs.declared.outgoing.LinkFault.{LinkFault}
use Rattle.qs_node_step.specs.declared.trace.Did.TheVariants as dids
use Rattle.qs_node_step.specs.declared.trace.Step.{Step}
use Rattle.qs_packet.specs.declared.packet.Packet.{Packet}
use Rattle.rtrb.specs.Ring.{SameConsumer, received, sent}
use Rattle.qs_world_bursts.proofs.Ends.{consumer_on, inbox_on, on_of, received_on}
use Rattle.qs_world_bursts.proofs.Told.{brings_one, made_one}
use Rattle.qs_world_bursts.specs.Refused.{KeepAfterSome, RefusedActTells, TellsOfSome}
use Rattle.qs_world_bursts.specs.Telling.{AreFifo, ComeNamed, TellsOfActs}
use Rattle.qs_world_links.proofs.Adding.{Adds, adds_more, adds_none, adds_seen}
use Rattle.qs_world_links.proofs.Ends.{all_behind, all_front, none_put}
use Rattle.qs_world_links.proofs.Hearing.{Took, peer_there, post_of_node, post_then}
use Rattle.qs_world_links.proofs.Keeping.{taken_still}
use Rattle.qs_world_links.proofs.Linking.{each_link_goes_on, each_link_is_named, each_link_keeps_plan, put_to_more, took_from_more}
use Rattle.qs_world_links.proofs.Refused.{TookSome, in_hearing, some_none, some_turn}
use Rattle.qs_world_links.proofs.Visiting.{sources_none}
use Rattle.qs_world_links.specs.Between.{BearsStamp, Goes, IsFrom, IsLinkOf}
use Rattle.qs_world_links.specs.Everywhere.{LinksAreTold}
use Rattle.qs_world_links.specs.Posts.{AreCarriedNamed, AreInFront, IsOfNode, IsPostOf, trace_in}
use Rattle.qs_world_traces.specs.Links.{IsTakenByPlan, is_from, put_to, puts_of, took_from}

-- ---- acts that were made tell as much

pub some_of_acts : {D : Type 0} (nodes n : ℕ) (old new : Post D) → TellsOfActs nodes n old new → TellsOfSome nodes n old new
some_of_acts nodes n old new a = record {
  steps = a.steps;
  bears = a.bears;
  trace = a.trace;
  out = flat_map puts_of a.steps;
  rest = [];
  puts = sym (append-nil (flat_map puts_of a.steps));
  from = a.from;
  put = a.put;
  on = a.on;
  received = a.received;
  ring = a.ring;
  took = λ named m peer. record { rest = (into_of new.links m).inbox; is = a.took named m peer };
}

-- and what was refused behind them
module _ {D : Type 0} (nodes n : ℕ) (old mid new : Post D) (a : TellsOfActs nodes n old mid) (b : TellsOfSome nodes n mid new) where
  abbrev on : ℕ → List Packet
  on m = a.on m ++ b.on m

  named_first : ComeNamed nodes n old.links on → ComeNamed nodes n old.links a.on
  named_first named m peer = all_front (Goes m n) ((into_of old.links m).inbox ++ a.on m) (b.on m)
      (All-same (Goes m n) (((into_of old.links m).inbox ++ a.on m) ++ b.on m) ((into_of old.links m).inbox ++ (a.on m ++ b.on m)) (append_assoc (into_of old.links m).inbox (a.on m) (b.on m)) (named m peer))

  whole : ComeNamed nodes n old.links on → (m : ℕ) → is_peer nodes n m ≡ true → (into_of old.links m).inbox ++ (a.on m ++ b.on m) ≡ took_from m a.steps ++ ((into_of mid.links m).inbox ++ b.on m)
  whole named m peer = sym (append_assoc (into_of old.links m).inbox (a.on m) (b.on m))
      ∙ (ap (λ (l : List Packet). l ++ b.on m) (a.took (named_first named) m peer)
      ∙ append_assoc (took_from m a.steps) (into_of mid.links m).inbox (b.on m))

  named_then : ComeNamed nodes n old.links on → ComeNamed nodes n mid.links b.on
  named_then named m peer = all_behind (Goes m n) (took_from m a.steps) ((into_of mid.links m).inbox ++ b.on m)
      (All-same (Goes m n) (took_from m a.steps ++ ((into_of mid.links m).inbox ++ b.on m)) ((into_of old.links m).inbox ++ (a.on m ++ b.on m)) (sym (whole named m peer)) (named m peer))

  in_front : (m : ℕ) → (into_of old.links m).inbox ++ (a.on m ++ b.on m) ≡ took_from m a.steps ++ ((into_of mid.links m).inbox ++ b.on m) → AreInFront (took_from m b.steps) ((into_of mid.links m).inbox ++ b.on m)
      → AreInFront (took_from m (a.steps ++ b.steps)) ((into_of old.links m).inbox ++ (a.on m ++ b.on m))
  in_front m all more = record {
    rest = more.rest;
    is = all
        ∙ (ap (λ (l : List Packet). took_from m a.steps ++ l) more.is
        ∙ (sym (append_assoc (took_from m a.steps) (took_from m b.steps) more.rest)
        ∙ ap (λ (l : List Packet). l ++ more.rest) (sym (took_from_more m a.steps b.steps))));
  }

  pub some_behind : TellsOfSome nodes n old new
  some_behind = record {
    steps = a.steps ++ b.steps;
    bears = All-append BearsStamp a.steps b.steps a.bears b.bears;
    trace = b.trace ∙ (ap (λ (l : List Step). l ++ b.steps) a.trace ∙ append_assoc (steps_in old.seat.node) a.steps b.steps);
    out = flat_map puts_of a.steps ++ b.out;
    rest = b.rest;
    puts = flat_map-append puts_of a.steps b.steps ∙ (ap (λ (l : List Packet). flat_map puts_of a.steps ++ l) b.puts ∙ sym (append_assoc (flat_map puts_of a.steps) b.out b.rest));
    from = All-append (IsFrom n) (flat_map puts_of a.steps) b.out a.from b.from;
    put = λ m peer. subst (λ (l : List Packet). PutAll l (out_of old.links m) (out_of new.links m)) (sym (filter-append (is_to m) (flat_map puts_of a.steps) b.out))
        (all_more (put_to m a.steps) (filter (is_to m) b.out) (out_of old.links m) (out_of mid.links m) (out_of new.links m) (a.put m peer) (b.put m peer));
    on = on;
    received = λ m peer. b.received m peer ∙ (ap (λ (l : List Packet). l ++ b.on m) (a.received m peer) ∙ append_assoc (received (into_of old.links m).ring) (a.on m) (b.on m));
    ring = λ m peer. consumer_on (into_of old.links m) (into_of mid.links m) (into_of new.links m) (a.ring m peer) (b.ring m peer);
    took = λ named m peer. in_front m (whole named m peer) (b.took (named_then named) m peer);
  }

-- ---- an act in which it was

module _ {D : Type 0} (told : Type 0) (state : D → DiskState) (own size : D → ℕ) (nodes n : ℕ) (old new : Post D) (a : BreaksAct told state own size old new) (of : IsPostOf nodes n old) where
  begun : Adds nodes n [] old.seat.node a.begun.seat.node
  begun = adds_seen nodes n in_act_as (λ s. refl) old.seat.node a.begun.seat.node a.act of.node

  of_begun : IsPostOf nodes n a.begun
  of_begun = post_of_node nodes n old a.begun of a.pulls.same begun.node

  peer_old : (m : ℕ) → is_peer nodes n m ≡ true → is_peer_of old.links m ≡ true
  peer_old m peer = peer_there nodes n old of m peer

  abbrev popped : ℕ → List Packet
  popped m = on_of (into_of old.links m) (into_of a.begun.links m)

  inbox : (m : ℕ) → is_peer nodes n m ≡ true → (into_of a.begun.links m).inbox ≡ (into_of old.links m).inbox ++ popped m
  inbox m peer = inbox_on (into_of old.links m) (into_of a.begun.links m) (a.pulls.into m (peer_old m peer))

  came : ComeNamed nodes n old.links popped → AreCarriedNamed nodes n a.begun.links
  came named m peer = All-same (Goes m n) (into_of a.begun.links m).inbox ((into_of old.links m).inbox ++ popped m) (inbox m peer) (named m peer)

  -- all steps of it
  all : (some : TookSome nodes n a.begun new) → Adds nodes n ([] ++ some.takes) old.seat.node new.seat.node
  all some = adds_more nodes n [] some.takes old.seat.node a.begun.seat.node new.seat.node begun some.adds

  -- what they took stood in front of what had come
  taken : (some : TookSome nodes n a.begun new) → ComeNamed nodes n old.links popped → (m : ℕ) → is_peer nodes n m ≡ true → AreInFront (took_from m (all some).steps) ((into_of old.links m).inbox ++ popped m)
  taken some named m peer = subst (λ (l : List Packet). AreInFront (took_from m (all some).steps) l) (inbox m peer)
      (subst (λ (l : List Packet). AreInFront l (into_of a.begun.links m).inbox) (ap (filter (is_from m)) (sym (all some).takes_are)) (some.took (came named) m peer))

  -- of what they put these packets went out
  tells : (some : TookSome nodes n a.begun new) (out rest : List Packet) → flat_map puts_of (all some).steps ≡ out ++ rest → ((m : ℕ) → is_peer nodes n m ≡ true → PutAll (filter (is_to m) out) (out_of a.begun.links m) (out_of new.links m))
      → ((m : ℕ) → is_peer nodes n m ≡ true → (into_of new.links m).ring ≡ (into_of a.begun.links m).ring) → TellsOfSome nodes n old new
  tells some out rest puts put ring = record {
    steps = (all some).steps;
    bears = (all some).bears;
    trace = (all some).trace;
    out = out;
    rest = rest;
    puts = puts;
    from = all_front (IsFrom n) out rest (All-same (IsFrom n) (out ++ rest) (flat_map puts_of (all some).steps) (sym puts) (all some).from);
    put = λ m peer. subst (λ (o : OutgoingValue). PutAll (filter (is_to m) out) o (out_of new.links m)) (a.pulls.out m (peer_old m peer) refl) (put m peer);
    on = popped;
    received = λ m peer. ap (λ r. received r) (ring m peer) ∙ received_on (into_of old.links m) (into_of a.begun.links m) (a.pulls.into m (peer_old m peer));
    ring = λ m peer. subst (λ r. SameConsumer (into_of old.links m).ring r) (sym (ring m peer)) (a.pulls.into m (peer_old m peer)).ring;
    took = taken some;
  }

  -- nothing of it went out
  unput : TookSome nodes n a.begun new → KeepsEnds a.begun.links new.links → TellsOfSome nodes n old new
  unput some ends = tells some [] (flat_map puts_of (all some).steps) refl
      (λ m peer. subst (λ (o : OutgoingValue). PutNone (out_of a.begun.links m) o) (sym (ends.out m (peer_there nodes n a.begun of_begun m peer) refl)) (none_put (out_of a.begun.links m)))
      (λ m peer. ends.ring m (peer_there nodes n a.begun of_begun m peer))

  same_ends : (links : LinksValue) → links ≡ a.begun.links → KeepsEnds a.begun.links links
  same_ends links same = subst (λ (l : LinksValue). KeepsEnds a.begun.links l) (sym same) (record { same = record { size = refl; me = refl }; out = λ m peer but. refl; ring = λ m peer. refl })

  broken : BreaksOne told state own size a.begun new → TookSome nodes n a.begun new
  broken (inl (m, (peer, breaks))) = in_hearing nodes n told state own size m
      (subst (λ (k : ℕ). is_peer nodes k m ≡ true) of_begun.me (subst (λ (s : ℕ). is_peer s a.begun.links.me.0 m ≡ true) of_begun.size peer)) a.begun new breaks of_begun
  broken (inr (k, (low, turns))) = some_none nodes n a.begun new
      (some_turn nodes n told state own size (take 1 (drop k (sources_of a.begun.seat.ends))) a.begun.seat new.seat turns (brings_one due (sources_of a.begun.seat.ends) k (sources_none D a.begun.seat.ends)) of_begun.node)

  -- the event was made, and its packets went out in part
  module _ (p : PutsSome told state own size old a.begun new) where
    made : Took nodes n a.begun p.made
    made = made_one told state own size nodes n a.begun p.made (one_of told state own size a.begun p.made p.makes) of_begun

    of_made : IsPostOf nodes n p.made
    of_made = post_then nodes n a.begun p.made of_begun made

    some : TookSome nodes n a.begun new
    some = record {
      takes = made.takes;
      adds = subst (λ s. Adds nodes n made.takes a.begun.seat.node s.node) (sym p.seat) made.adds;
      took = λ named m peer. record { rest = (into_of p.made.links m).inbox; is = made.took named m peer };
    }

    since : flat_map puts_of (drop (length (steps_in old.seat.node)) (steps_in p.made.seat.node)) ≡ flat_map puts_of (all some).steps
    since = ap (λ s. flat_map puts_of (drop (length (steps_in old.seat.node)) (steps_in s.node))) (sym p.seat)
        ∙ (ap (λ (l : List Step). flat_map puts_of (drop (length (steps_in old.seat.node)) l)) (all some).trace ∙ ap (flat_map puts_of) (drop-append_seam (steps_in old.seat.node) (all some).steps))

    peer_made : (m : ℕ) → is_peer nodes n m ≡ true → is_peer_of p.made.links m ≡ true
    peer_made m peer = peer_there nodes n p.made of_made m peer

    puts_some : TellsOfSome nodes n old new
    puts_some = tells some p.puts.front p.puts.rest (sym since ∙ p.puts.is)
        (λ m peer. subst (λ (o : OutgoingValue). PutAll (filter (is_to m) p.puts.front) o (out_of new.links m)) (made.out m peer) (p.puts.put.put m (peer_made m peer)))
        (λ m peer. ap (λ (d : DrawValue Packet). d.ring) (p.puts.put.into m (peer_made m peer) refl) ∙ made.rings m peer)

  act_tells : TellsOfSome nodes n old new
  act_tells = elim a.within [
    | inl same ↦ unput (some_none nodes n a.begun new (adds_none nodes n a.begun.seat.node new.seat.node (ap (λ (q : Post D). steps_in q.seat.node) same) (subst (λ (q : Post D). IsOfNode nodes n q.seat.node) (sym same) begun.node)))
        (same_ends new.links (ap (λ (q : Post D). q.links) same))
    | inr (inl breaks) ↦ unput (broken (breaks_one told state own size a.begun new breaks).0) (breaks_one told state own size a.begun new breaks).1
    | inr (inr p) ↦ puts_some p
  ]

pub each_refused_act : {D : Type 0} (told : Type 0) (state : D → DiskState) (own size : D → ℕ) (nodes n : ℕ) (old new : Post D) → RefusedActTells told state own size nodes n old new
each_refused_act told state own size nodes n old new a of = act_tells told state own size nodes n old new a of

-- ---- where the threads have joined

-- a step that put these
abbrev fake : List Packet → Step
fake packets = record { stamp = 0; node = record { 0 = 0 }; acts = 0; rounds = 0; did = dids.Nothing; put = packets; crash = None }

fake_puts : (n : ℕ) (packets : List Packet) → put_to n (fake packets ∷ []) ≡ filter (is_to n) packets
fake_puts n packets = ap (filter (is_to n)) (append-nil packets)

module _ {D : Type 0} (nodes : ℕ) (plans : ℕ → ℕ → List LinkFault) (old new : ℕ → Post D) (tells : (n : ℕ) → n < nodes → TellsOfSome nodes n (old n) (new n)) (fifo : AreFifo nodes new) (linked : LinksAreTold nodes plans old) where
  -- of the link from node m to node n
  module _ (m n : ℕ) (low_m : m < nodes) (low_n : n < nodes) (apart : m ≢ n) where
    abbrev sender : TellsOfSome nodes m (old m) (new m)
    sender = tells m low_m

    abbrev receiver : TellsOfSome nodes n (old n) (new n)
    receiver = tells n low_n

    abbrev out : Step
    out = fake sender.out

    from : All (IsFrom m) (put_to n (out ∷ []))
    from = All-same (IsFrom m) (put_to n (out ∷ [])) (filter (is_to n) sender.out) (fake_puts n sender.out) (All-filter (is_to n) (IsFrom m) sender.out sender.from)

    put : PutAll (put_to n (out ∷ [])) (out_of (old m).links n) (out_of (new m).links n)
    put = subst (λ (l : List Packet). PutAll l (out_of (old m).links n) (out_of (new m).links n)) (sym (fake_puts n sender.out)) (sender.put n (is_peer_from nodes m n low_n (λ same. apart (sym same))))

    peer : is_peer nodes n m ≡ true
    peer = is_peer_from nodes n m low_m apart

    -- its receiving end with all that came, before any of it was taken
    abbrev arrived : DrawValue Packet
    arrived = record { ring = (into_of (new n).links m).ring; inbox = (into_of (old n).links m).inbox ++ receiver.on m }

    untaken : IsLinkOf (plans m n) m n (trace_in (old m) ++ out ∷ []) (trace_in (old n) ++ []) (out_of (new m).links n) arrived
    untaken = each_link_goes_on (plans m n) m n (trace_in (old m)) (out ∷ []) (trace_in (old n)) [] (out_of (old m).links n) (out_of (new m).links n) (into_of (old n).links m) arrived
        (linked.links m n low_m low_n apart) from put
        (record { on = receiver.on m; inbox = refl; received = receiver.received m peer; ring = receiver.ring m peer }) (fifo m n low_m low_n apart)

    named : All (Goes m n) ((into_of (old n).links m).inbox ++ receiver.on m)
    named = all_front (Goes m n) arrived.inbox (drop (length (received arrived.ring)) (sent (out_of (new m).links n).feed.ring))
        (all_front (Goes m n) (arrived.inbox ++ drop (length (received arrived.ring)) (sent (out_of (new m).links n).feed.ring)) (out_of (new m).links n).feed.outbox
        (each_link_is_named (plans m n) m n (trace_in (old m) ++ out ∷ []) (trace_in (old n) ++ []) (out_of (new m).links n) arrived untaken))

  come_named : (n : ℕ) (low : n < nodes) → ComeNamed nodes n (old n).links (tells n low).on
  come_named n low m other = named m n (peer_is nodes n m other).0 low (peer_is nodes n m other).1

  module _ (n m : ℕ) (low_n : n < nodes) (low_m : m < nodes) (apart : m ≢ n) where
    front : AreInFront (took_from m (tells n low_n).steps) ((into_of (old n).links m).inbox ++ (tells n low_n).on m)
    front = (tells n low_n).took (come_named n low_n) m (peer m n low_m low_n apart)

    -- by what went out, and by all that the steps put
    taken_of : IsTakenByPlan (plans m n) (put_to n (trace_in (old m) ++ out m n low_m low_n apart ∷ [])) (took_from m (trace_in (old n) ++ (tells n low_n).steps))
    taken_of = each_link_keeps_plan (plans m n) m n (trace_in (old m) ++ out m n low_m low_n apart ∷ []) (trace_in (old n) ++ (tells n low_n).steps) (out_of (new m).links n) (record { ring = (into_of (new n).links m).ring; inbox = front.rest })
        (each_link_goes_on (plans m n) m n (trace_in (old m)) (out m n low_m low_n apart ∷ []) (trace_in (old n)) (tells n low_n).steps (out_of (old m).links n) (out_of (new m).links n) (into_of (old n).links m)
        (record { ring = (into_of (new n).links m).ring; inbox = front.rest }) (linked.links m n low_m low_n apart) (from m n low_m low_n apart) (put m n low_m low_n apart)
        (record { on = (tells n low_n).on m; inbox = front.is; received = (tells n low_n).received m (peer m n low_m low_n apart); ring = (tells n low_n).ring m (peer m n low_m low_n apart) }) (fifo m n low_m low_n apart))

    all_puts : put_to n (trace_in (new m)) ≡ put_to n (trace_in (old m) ++ out m n low_m low_n apart ∷ []) ++ filter (is_to n) (tells m low_m).rest
    all_puts = ap (put_to n) (tells m low_m).trace
        ∙ (put_to_more n (trace_in (old m)) (tells m low_m).steps
        ∙ (ap (λ (l : List Packet). put_to n (trace_in (old m)) ++ filter (is_to n) l) (tells m low_m).puts
        ∙ (ap (λ (l : List Packet). put_to n (trace_in (old m)) ++ l) (filter-append (is_to n) (tells m low_m).out (tells m low_m).rest)
        ∙ (sym (append_assoc (put_to n (trace_in (old m))) (filter (is_to n) (tells m low_m).out) (filter (is_to n) (tells m low_m).rest))
        ∙ ap (λ (l : List Packet). l ++ filter (is_to n) (tells m low_m).rest)
        (sym (put_to_more n (trace_in (old m)) (out m n low_m low_n apart ∷ []) ∙ ap (λ (l : List Packet). put_to n (trace_in (old m)) ++ l) (fake_puts n (tells m low_m).out)))))))

    keeps : IsTakenByPlan (plans m n) (put_to n (trace_in (new m))) (took_from m (trace_in (new n)))
    keeps = subst (λ (l : List Step). IsTakenByPlan (plans m n) (put_to n (trace_in (new m))) (took_from m l)) (sym (tells n low_n).trace)
        (subst (λ (l : List Packet). IsTakenByPlan (plans m n) l (took_from m (trace_in (old n) ++ (tells n low_n).steps))) (sym all_puts)
        (taken_still (plans m n) (put_to n (trace_in (old m) ++ out m n low_m low_n apart ∷ [])) (took_from m (trace_in (old n) ++ (tells n low_n).steps)) (filter (is_to n) (tells m low_m).rest) taken_of))

pub each_keeps_after : {D : Type 0} (nodes : ℕ) (plans : ℕ → ℕ → List LinkFault) (old new : ℕ → Post D) → KeepAfterSome nodes plans old new
each_keeps_after nodes plans old new tells fifo linked n m low_n low_m apart = keeps nodes plans old new tells fifo linked n m low_n low_m apart
