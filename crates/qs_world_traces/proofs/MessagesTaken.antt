-- A step in which a packet brings the message in turn makes the node's local run longer.
use Rattle.std.proofs.Common.{◌≡◌, ◌≢◌, ℕ, ◌<◌, Bool, List, [], ◌∷◌, ◌++◌, Option, Some, None, refl, sym, ap, subst, ◌∙◌, arith, inl, if◌then◌else◌}
use Rattle.std.specs.Prelude.{is_some, map, reverse}
use Rattle.std.specs.List.{filter, flat_map}
use Rattle.std.proofs.lemmas.Bool.{lt-ltb}
use Rattle.std.proofs.lemmas.List.{flat_map_more, map-append}
use Rattle.std.proofs.lemmas.List.Elements.{filter-append}
use Rattle.qs_base_lemmas.proofs.Tests.{eqb-self}
use Rattle.qs_session_channels.specs.End as end
use Rattle.qs_session_channels.specs.End.{Answer, answer}
use Rattle.qs_session_channels.specs.Network.{Among, Network}
use Rattle.qs_book_journal.specs.declared.entry.Entry.{Entry}
use Rattle.qs_world_merge.specs.StepMoves.{StepMoves, moves_in, seen}
use Rattle.qs_world_merge.specs.Reaching.{HasStampsUpTo}
use Rattle.qs_world_merge.specs.LocalRuns.{LocalRun, TimedMove, AnswersOnly, answers_with, client_at}
use Rattle.qs_world_merge.specs.Observed.{ArePut}
use Rattle.qs_world_merge.proofs.Reaches.{each_goes_on, each_reached_up_to}
use Rattle.qs_world_merge.proofs.MayMoves.{may_steps}
use Rattle.qs_world_merge.proofs.Members.{among_back, among_front}
use Rattle.qs_world_merge.proofs.NetworkSame.{at_place}
use Rattle.qs_packet.specs.declared.message.Message.{Message}
use Rattle.qs_packet.specs.declared.packet.Packet.{Packet}
use Rattle.qs_world_packets.specs.PacketMoves.{Brought, Step, answer_at, event_by, event_of, moved, received_by, send_all, send_next, step_with}
use Rattle.qs_world_packets.specs.PacketSessions.{plain_answer, plain_packet}
use Rattle.qs_world_packets.specs.PacketWorld.{PacketWorld}
use Rattle.qs_node_step.specs.declared.event.Event.{Event}
use Rattle.qs_node_step.specs.declared.event.Sending.{Sending}
use Rattle.qs_node_step.specs.declared.trace.Step as trace
use Rattle.qs_world.specs.Posting.{entries_of}
use Rattle.qs_world.specs.World.{Opening, Parcel}
use Rattle.qs_cell_peers.specs.Peers.{is_peer, is_to}
use Rattle.qs_cell_peers.specs.Sessions.{Ends, taken_in}
use Rattle.qs_cell_peers.proofs.Places.{is_peer_from, peer_is}
use Rattle.qs_world_traces.specs.Links.{is_from, put_to, puts_of, took_from, takes_of}
use Rattle.qs_world_traces.specs.Sessions.{AreEnds, SendsAsEnds}
use Rattle.qs_world_traces.specs.Steps.{EachTakesMessage, HasTakenMessage, TakesMessage, comes, out_at, message_step}
use Rattle.qs_world_traces.proofs.PutsOn.{each_puts_on}
use Rattle.qs_world_traces.proofs.SessionsAre.{each_receives, each_sends}
use Rattle.qs_world_packets.proofs.SessionsPlain.{is_plain}

-- ---- lists

-- what a test keeps of all that steps give, with one more step
pub one_more : {B : Type 0} (f : trace.Step → List Packet) (test : Packet → Bool) (g : Packet → B) (steps : List trace.Step) (step : trace.Step)
    → map g (filter test (flat_map f (steps ++ step ∷ []))) ≡ map g (filter test (flat_map f steps)) ++ map g (filter test (f step))
one_more {B} f test g steps step = ap (λ (l : List Packet). map g (filter test l)) (sym (flat_map_more f [] steps step))
    ∙ (ap (λ (l : List Packet). map g l) (filter-append test (flat_map f steps) (f step)) ∙ map-append g (filter test (flat_map f steps)) (filter test (f step)))

-- ---- the packet

-- a packet of the world that is the one that was taken
abbrev pub as_brought : Packet → end.Packet Parcel
as_brought p = record { inc = p.inc; to_inc = p.to_inc; number = p.number; ack = p.ack; stamp = p.stamp; message = record { stamp = 0; message = p.message } }

-- an answer with a message comes of one with a parcel of it
record IsParcel (a : Answer Parcel) (x : Message) : Type 0 where
  parcel : Parcel
  is : a ≡ end.Message parcel
  message : parcel.message ≡ x

of_plain : (a : Answer Parcel) (x : Message) → plain_answer a ≡ end.Message x → IsParcel a x
of_plain (end.OldPeer known got) x is = absurd (cc is)
of_plain (end.NewPeer old new) x is = absurd (cc is)
of_plain (end.OldSelf mine got) x is = absurd (cc is)
of_plain end.Hello x is = absurd (cc is)
of_plain (end.Repeat number) x is = absurd (cc is)
of_plain (end.Early number expected) x is = absurd (cc is)
of_plain (end.Message parcel) x is = record { parcel = parcel; is = refl; message = cc is }

pub up_sends : (n stamp k : ℕ) (sendings : List Sending) (net : Network Parcel) → (send_all n stamp sendings net).up k ≡ net.up k
up_sends n stamp k [] net = refl
up_sends n stamp k (s ∷ sendings) net = up_sends n stamp k sendings (send_next n stamp net s)

pub inc_sends : (n stamp k : ℕ) (sendings : List Sending) (net : Network Parcel) → (send_all n stamp sendings net).inc k ≡ net.inc k
inc_sends n stamp k [] net = refl
inc_sends n stamp k (s ∷ sendings) net = inc_sends n stamp k sendings (send_next n stamp net s)

module _ (o : Opening) (n : ℕ) (journal : List Entry) (steps : List trace.Step) (stamp : ℕ) (world : PacketWorld) (ends : Ends) (packet : Packet) (x : Message) (s free acts rounds : ℕ) (put : List Packet) (c : TakesMessage o n journal steps stamp world ends packet x s free put) where
  low : HasStampsUpTo o.size n stamp world
  low = each_reached_up_to o n _ stamp world c.reached

  is : IsParcel (answer_at world n packet.from.0 (as_brought packet)) x
  is = of_plain (answer_at world n packet.from.0 (as_brought packet)) x
      (sym (is_plain.answers (world.network.end n packet.from.0) (as_brought packet)) ∙ (ap (λ (e : end.End Message). answer e (seen packet)) (sym (c.sessions packet.from.0 c.peer)) ∙ c.answered))

  event : event_of world n s (Brought packet.from.0 (as_brought packet)) ≡ Some (comes packet x)
  event = ap (λ (b : Bool). if b then event_by packet.from.0 (answer_at world n packet.from.0 (as_brought packet)) else None) (lt-ltb packet.stamp s c.after_it)
      ∙ (ap (λ (a : Answer Parcel). event_by packet.from.0 a) is.is ∙ ap (λ (m : Message). Some (comes packet m)) is.message)

  abbrev new : PacketWorld
  new = step_with world n s free (Brought packet.from.0 (as_brought packet)) (Some (comes packet x))

  abbrev first : TimedMove
  first = record { stamp = s; move = Step n s free (Brought packet.from.0 (as_brought packet)); event = Some (comes packet x) }

  abbrev step_moves : StepMoves
  step_moves = record { step = message_step n s acts rounds packet put; first = first; more = [] }

  moved_is : moved first.move world ≡ new
  moved_is = ap (λ (o : Option Event). step_with world n s free (Brought packet.from.0 (as_brought packet)) o) event

  run : LocalRun (client_at o) n stamp world (moves_in step_moves) new
  run = (
    record {
      of_node = refl;
      rises = omega (arith, c.later);
      made_at = refl;
      may = may_steps o.size n stamp world s free (Brought packet.from.0 (as_brought packet)) low (record { in_run = c.in_run; later = c.later; low = c.low; up = c.up; some = ap (λ (o : Option Event). is_some o) event; serves = refl });
      event_is = event;
      own = subst (λ (e : Option Event). AnswersOnly (client_at o) n (answers_with world n free e)) (sym event) c.own;
    },
    sym moved_is,
  )

  -- the sessions once the packet was taken
  taken : AreEnds (is_peer o.size n) n (received_by world n packet.from.0 (as_brought packet)) (taken_in ends packet)
  taken = each_receives (is_peer o.size n) n packet.from.0 world ends (as_brought packet) c.peer c.sessions

  sends : SendsAsEnds (is_peer o.size n) n s (received_by world n packet.from.0 (as_brought packet)) (taken_in ends packet) (out_at world n packet x free).messages
  sends = each_sends (is_peer o.size n) n s (received_by world n packet.from.0 (as_brought packet)) (taken_in ends packet) (out_at world n packet x free).messages taken

  puts : (m : ℕ) → m < o.size → m ≢ n → ArePut (map seen (put_to m (steps ++ message_step n s acts rounds packet put ∷ []))) (new.network.packets n m)
  puts m lt other = subst (λ (l : List (end.Packet Message)). ArePut l (new.network.packets n m)) (sym (one_more puts_of (is_to m) seen steps (message_step n s acts rounds packet put)))
      (each_puts_on (map seen (put_to m steps)) (map seen (filter (is_to m) put)) (world.network.packets n m) (new.network.packets n m) (c.reached.puts m lt other)
      (sends.packets m (is_peer_from o.size n m lt other) ∙ ap (λ (l : List (end.Packet Message)). reverse l ++ map plain_packet (world.network.packets n m)) (sym (c.puts m (is_peer_from o.size n m lt other)))))

  took_more : (m : ℕ) (p : end.Packet Message) → Among (map seen (took_from m steps)) p → Among (map seen (took_from m (steps ++ message_step n s acts rounds packet put ∷ []))) p
  took_more m p h = subst (λ (l : List (end.Packet Message)). Among l p) (sym (one_more takes_of (is_from m) seen steps (message_step n s acts rounds packet put))) (among_front (map seen (took_from m steps)) _ p h)

  took_it : Among (map seen (took_from packet.from.0 (steps ++ message_step n s acts rounds packet put ∷ []))) (plain_packet (as_brought packet))
  took_it = subst (λ (l : List (end.Packet Message)). Among l (plain_packet (as_brought packet))) (sym (one_more takes_of (is_from packet.from.0) seen steps (message_step n s acts rounds packet put)))
      (among_back (map seen (took_from packet.from.0 steps)) (map seen (filter (is_from packet.from.0) (packet ∷ []))) (plain_packet (as_brought packet)) here)
    where
      here : Among (map seen (filter (is_from packet.from.0) (packet ∷ []))) (plain_packet (as_brought packet))
      here = rw (eqb-self packet.from.0) (inl refl)

  has_taken : HasTakenMessage o n journal steps world ends packet x s free acts rounds put
  has_taken = record {
    new = new;
    reached = each_goes_on o n _ stamp world step_moves _ new c.reached (record {
      are = record { does = record { brought = as_brought packet; plain = refl; event = Some (comes packet x); how = inl (record { free = free; is = refl }) }; at = (refl, refl, tt) };
      run = run;
      journal_is = ap (λ (es : List Entry). es ++ entries_of n s (out_at world n packet x free).entries) c.reached.journal_is;
      trace_is = refl;
      puts = puts;
      takes = (record { in_run = (peer_is o.size n packet.from.0 c.peer).0; other = (peer_is o.size n packet.from.0 c.peer).1; among = took_it }, tt);
      took = took_more;
    });
    sessions = sends.ends_are;
    host = at_place world.hosts n _;
    up = up_sends n s n (out_at world n packet x free).messages (received_by world n packet.from.0 (as_brought packet)) ∙ c.up;
  }

pub each_takes_message : EachTakesMessage
each_takes_message o n journal steps stamp world ends packet x s free acts rounds put c = has_taken o n journal steps stamp world ends packet x s free acts rounds put c
