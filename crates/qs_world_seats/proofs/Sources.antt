-- Where an event of a cell comes from in the world; and what its sessions make of a packet, the node's ends make of it there.
use Rattle.std.proofs.Common.{◌≡◌, ◌≢◌, ◌⊎◌, ◌∙◌, ap, inl, inr, refl, subst, sym, ℕ, ◌==◌, ◌<◌, Bool, true, false, List, [], ◌∷◌, ◌++◌, Some, None, ◌&&◌, map, if◌then◌else◌}
use Rattle.std.proofs.lemmas.Bool.{eqb-true, lt-ltb}
use Rattle.std.specs.List.{filter}
use Rattle.std.specs.Prelude.{⊤}
use Rattle.qs_base.specs.declared.identifiers.NodeNo.{NodeNo}
use Rattle.qs_base_lemmas.proofs.Tests.{eqb-self}
use Rattle.qs_cell_chronicle.specs.Occasions.{event_of as event_for, stamp_in}
use Rattle.qs_cell_chronicle.specs.declared.occasion.Occasion.{Occasion}
use Rattle.qs_cell_chronicle.specs.declared.occasion.Occasion.TheVariants as occasions
use Rattle.qs_cell_peers.proofs.Places.{peer_is}
use Rattle.qs_cell_peers.specs.Hears.{heard_as}
use Rattle.qs_cell_peers.specs.Peers.{comes_to, is_peer}
use Rattle.qs_cell_peers.specs.Sessions.{SessionsValue, ends_of, taken_in}
use Rattle.qs_cell_peers.specs.declared.heard.Heard.{Heard}
use Rattle.qs_cell_peers.specs.declared.heard.Heard.TheVariants as heards
use Rattle.qs_node_step.specs.declared.event.Event.{Event}
use Rattle.qs_node_step.specs.declared.event.Event.TheVariants as events
use Rattle.qs_node_step.specs.declared.trace.Step as trace
use Rattle.qs_packet.specs.declared.message.Message.{Message}
use Rattle.qs_packet.specs.declared.packet.Packet.{Packet}
use Rattle.qs_session_channels.proofs.ReceiveShown.{answers}
use Rattle.qs_session_channels.specs.End as end
use Rattle.qs_session_channels.specs.End.{Answer, Answers, answer}
use Rattle.qs_session_channels.specs.Network.{Among, Network}
use Rattle.qs_world.specs.Moves.{node_no}
use Rattle.qs_world.specs.World.{Parcel}
use Rattle.qs_world_merge.proofs.Members.{among_back}
use Rattle.qs_world_merge.specs.Observed.{TookOf}
use Rattle.qs_world_merge.specs.StepMoves.{seen}
use Rattle.qs_world_packets.proofs.SessionsPlain.{is_plain}
use Rattle.qs_world_packets.specs.PacketMoves.{Source, Commanded, Queues, Clock, Brought, answer_at, event_by, event_of, is_aside, received_by, taken_by}
use Rattle.qs_world_packets.specs.PacketSessions.{plain_answer, plain_packet}
use Rattle.qs_world_packets.specs.PacketWorld.{PacketWorld}
use Rattle.qs_world_traces.proofs.MessagesTaken.{as_brought, one_more}
use Rattle.qs_world_traces.proofs.SessionsAre.{each_receives}
use Rattle.qs_world_traces.specs.Links.{is_from, took_from, takes_of}
use Rattle.qs_world_traces.specs.Sessions.{AreEnds}
use Rattle.qs_world_seats.specs.Events.{Comes, IsHeard}

abbrev pub source_of : Occasion → Source
source_of (occasions.Command line) = Commanded line.client.0
source_of occasions.Queues = Queues
source_of occasions.Clock = Clock
source_of (occasions.Message packet) = Brought packet.from.0 (as_brought packet)
source_of (occasions.Restarted packet known) = Brought packet.from.0 (as_brought packet)

-- ---- an answer of the cell's session, and that of the end in the world

module _ (e : end.End Parcel) (packet : Packet) where
  abbrev p : end.Packet Parcel
  p = as_brought packet

  brings : (a : Answer Parcel) → Answers e p a → heard_as (plain_answer a) ≡ heards.Message → event_by packet.from.0 a ≡ Some (events.Received packet.from packet.message)
  brings (end.OldPeer known got) given is = absurd (cc is)
  brings (end.OldSelf mine got) given is = absurd (cc is)
  brings end.Hello given is = absurd (cc is)
  brings (end.Repeat number) given is = absurd (cc is)
  brings (end.Early number expected) given is = absurd (cc is)
  brings (end.Message parcel) given is = ap (λ (x : Parcel). Some (events.Received packet.from x.message)) given.0
  brings (end.NewPeer old new) given is = by (old == 0) is
    where
      by : (b : Bool) → (if b then heards.Aside else heards.Restarted old) ≡ heards.Message → event_by packet.from.0 (end.NewPeer old new) ≡ Some (events.Received packet.from packet.message)
      by true e = absurd (cc e)
      by false e = absurd (cc e)

  notices : (known : ℕ) (a : Answer Parcel) → Answers e p a → heard_as (plain_answer a) ≡ heards.Restarted known → event_by packet.from.0 a ≡ Some (events.PeerRestarted packet.from known packet.inc)
  notices known (end.OldPeer had got) given is = absurd (cc is)
  notices known (end.OldSelf mine got) given is = absurd (cc is)
  notices known end.Hello given is = absurd (cc is)
  notices known (end.Repeat number) given is = absurd (cc is)
  notices known (end.Early number expected) given is = absurd (cc is)
  notices known (end.Message parcel) given is = absurd (cc is)
  notices known (end.NewPeer old new) given is = by (old == 0) is
    where
      one : heards.Restarted old ≡ heards.Restarted known → old ≡ known
      one same = cc same

      by : (b : Bool) → (if b then heards.Aside else heards.Restarted old) ≡ heards.Restarted known → (if b then None else Some (events.PeerRestarted (node_no packet.from.0) old new)) ≡ Some (events.PeerRestarted packet.from known packet.inc)
      by true same = absurd (cc same)
      by false same = ap (λ (k : ℕ). Some (events.PeerRestarted packet.from k new)) (one same) ∙ ap (λ (k : ℕ). Some (events.PeerRestarted packet.from known k)) given.1

  -- it changes the end alone, or is of a first incarnation
  pub left_aside : (a : Answer Parcel) → Answers e p a → heard_as (plain_answer a) ≡ heards.Aside → (is_aside a ≡ true) ⊎ (e.known ≡ 0)
  left_aside (end.OldPeer had got) given is = inl refl
  left_aside (end.OldSelf mine got) given is = inl refl
  left_aside end.Hello given is = inl refl
  left_aside (end.Repeat number) given is = inl refl
  left_aside (end.Early number expected) given is = inl refl
  left_aside (end.Message parcel) given is = absurd (cc is)
  left_aside (end.NewPeer old new) given is = by (old == 0) refl is
    where
      by : (b : Bool) → (old == 0) ≡ b → (if b then heards.Aside else heards.Restarted old) ≡ heards.Aside → (is_aside (end.NewPeer old new) ≡ true) ⊎ (e.known ≡ 0)
      by true first same = inr (sym given.0 ∙ eqb-true old 0 first)
      by false other same = absurd (cc same)

-- ---- the packet comes to the node, and its session takes it in

pub record IsTakenIn (size n : ℕ) (packet : Packet) (heard : Heard) (world : PacketWorld) (sessions : SessionsValue) : Type 0 where
  pub peer : is_peer size n packet.from.0 ≡ true
  pub answered : heard_as (plain_answer (answer_at world n packet.from.0 (as_brought packet))) ≡ heard
  pub size_is : sessions.size ≡ size
  pub me : sessions.me ≡ node_no n
  pub ends : AreEnds (is_peer size n) n (received_by world n packet.from.0 (as_brought packet)) (ends_of sessions)

-- what is heard as something comes from a peer to the node
heard_if : (b : Bool) (x heard : Heard) → (if b then x else heards.Strange) ≡ heard → heard ≢ heards.Strange → (b ≡ true) × (x ≡ heard)
heard_if true x heard is other = (refl, is)
heard_if false x heard is other = absurd (other (sym is))

behind : (a b : Bool) → (a && b) ≡ true → b ≡ true
behind true b is = is
behind false b is = absurd (cc is)

-- of sessions of node n
module _ (size n : ℕ) (packet : Packet) (heard : Heard) (world : PacketWorld) (given : SessionsValue) where
  abbrev old : SessionsValue
  old = record { size = size; me = node_no n; sessions = given.sessions }

  taken_here : heard ≢ heards.Strange → AreEnds (is_peer size n) n world.network (ends_of old) → (new : SessionsValue) → IsHeard heard packet old new → IsTakenIn size n packet heard world new
  taken_here other are new is = record {
    peer = peer;
    answered = ap heard_as (sym (is_plain.answers (world.network.end n packet.from.0) (as_brought packet)) ∙ ap (λ (e : end.End Message). answer e (seen packet)) (sym (are packet.from.0 peer))) ∙ here.1;
    size_is = is.ends.size;
    me = is.ends.me;
    ends = λ m is_one. is.ends.ends_are m is_one ∙ (ap (λ (b : Bool). (if b then taken_in (ends_of old) packet else ends_of old) m) here.0 ∙ received m is_one);
  }
    where
      here : (comes_to size n packet ≡ true) × (heard_as (answer (ends_of old packet.from.0) (seen packet)) ≡ heard)
      here = heard_if (comes_to size n packet) (heard_as (answer (ends_of old packet.from.0) (seen packet))) heard is.heard_as other

      peer : is_peer size n packet.from.0 ≡ true
      peer = behind (packet.to.0 == n) (is_peer size n packet.from.0) here.0

      received : AreEnds (is_peer size n) n (received_by world n packet.from.0 (as_brought packet)) (taken_in (ends_of old) packet)
      received = each_receives (is_peer size n) n packet.from.0 world (ends_of old) (as_brought packet) peer are

pub same_sessions : (sessions : SessionsValue) (size : ℕ) (n : ℕ) → sessions.size ≡ size → sessions.me ≡ node_no n → sessions ≡ record { size = size; me = node_no n; sessions = sessions.sessions }
same_sessions sessions size n size_is me = ap (λ (s : ℕ). record { size = s; me = sessions.me; sessions = sessions.sessions }) size_is
    ∙ ap (λ (k : NodeNo). record { size = size; me = k; sessions = sessions.sessions }) me

pub taken_in_by : (size n : ℕ) (packet : Packet) (heard : Heard) (world : PacketWorld) (old new : SessionsValue) → heard ≢ heards.Strange → old.size ≡ size → old.me ≡ node_no n
    → AreEnds (is_peer size n) n world.network (ends_of old) → IsHeard heard packet old new → IsTakenIn size n packet heard world new
taken_in_by size n packet heard world old new other size_is me are is =
    let same = same_sessions old size n size_is me in
    taken_here size n packet heard world old other (subst (λ (s : SessionsValue). AreEnds (is_peer size n) n world.network (ends_of s)) same are) new (subst (λ (s : SessionsValue). IsHeard heard packet s new) same is)

-- ---- what comes

-- a packet that comes is of another node of the run
abbrev pub IsOfPeer : ℕ → ℕ → Occasion → Type 0
IsOfPeer size n (occasions.Command line) = ⊤
IsOfPeer size n occasions.Queues = ⊤
IsOfPeer size n occasions.Clock = ⊤
IsOfPeer size n (occasions.Message packet) = is_peer size n packet.from.0 ≡ true
IsOfPeer size n (occasions.Restarted packet known) = is_peer size n packet.from.0 ≡ true

pub record IsIn (size n : ℕ) (occasion : Occasion) (world : PacketWorld) (sessions : SessionsValue) : Type 0 where
  pub comes : (stamp : ℕ) → stamp_in occasion < stamp → event_of world n stamp (source_of occasion) ≡ Some (event_for occasion)
  pub of_peer : IsOfPeer size n occasion
  pub size_is : sessions.size ≡ size
  pub me : sessions.me ≡ node_no n
  pub ends : AreEnds (is_peer size n) n (taken_by world n (source_of occasion)) (ends_of sessions)

module _ (size n : ℕ) (world : PacketWorld) (old new : SessionsValue) (size_is : old.size ≡ size) (me : old.me ≡ node_no n) (are : AreEnds (is_peer size n) n world.network (ends_of old)) where
  still : (occasion : Occasion) → ((stamp : ℕ) → stamp_in occasion < stamp → event_of world n stamp (source_of occasion) ≡ Some (event_for occasion)) → IsOfPeer size n occasion
      → taken_by world n (source_of occasion) ≡ world.network → new ≡ old → IsIn size n occasion world new
  still occasion comes of_peer none same = record {
    comes = comes;
    of_peer = of_peer;
    size_is = ap (λ (s : SessionsValue). s.size) same ∙ size_is;
    me = ap (λ (s : SessionsValue). s.me) same ∙ me;
    ends = subst (λ (s : SessionsValue). AreEnds (is_peer size n) n (taken_by world n (source_of occasion)) (ends_of s)) (sym same)
        (subst (λ (net : Network Parcel). AreEnds (is_peer size n) n net (ends_of old)) (sym none) are);
  }

  brought : (packet : Packet) (heard : Heard) (event : Event) → heard ≢ heards.Strange → IsHeard heard packet old new
      → ((a : Answer Parcel) → Answers (world.network.end n packet.from.0) (as_brought packet) a → heard_as (plain_answer a) ≡ heard → event_by packet.from.0 a ≡ Some event)
      → IsTakenIn size n packet heard world new × ((stamp : ℕ) → packet.stamp < stamp → event_of world n stamp (Brought packet.from.0 (as_brought packet)) ≡ Some event)
  brought packet heard event other is gives = (
    it,
    λ stamp later. ap (λ (b : Bool). if b then event_by packet.from.0 (answer_at world n packet.from.0 (as_brought packet)) else None) (lt-ltb packet.stamp stamp later)
        ∙ gives (answer_at world n packet.from.0 (as_brought packet)) (answers (world.network.end n packet.from.0) (as_brought packet) (answer_at world n packet.from.0 (as_brought packet)) refl) it.answered,
  )
    where
      it : IsTakenIn size n packet heard world new
      it = taken_in_by size n packet heard world old new other size_is me are is

  pub is_in : (occasion : Occasion) → Comes n occasion old new world → IsIn size n occasion world new
  is_in (occasions.Command line) is = still (occasions.Command line) (λ stamp later. is.1) tt refl is.0
  is_in occasions.Queues is = still occasions.Queues (λ stamp later. refl) tt refl is
  is_in occasions.Clock is = still occasions.Clock (λ stamp later. refl) tt refl is
  is_in (occasions.Message packet) is =
      let it = brought packet heards.Message (events.Received packet.from packet.message) (λ same. cc same) is (brings (world.network.end n packet.from.0) packet) in
      record { comes = it.1; of_peer = it.0.peer; size_is = it.0.size_is; me = it.0.me; ends = it.0.ends }
  is_in (occasions.Restarted packet known) is =
      let it = brought packet (heards.Restarted known) (events.PeerRestarted packet.from known packet.inc) (λ same. cc same) is (notices (world.network.end n packet.from.0) packet known) in
      record { comes = it.1; of_peer = it.0.peer; size_is = it.0.size_is; me = it.0.me; ends = it.0.ends }

-- ---- and was taken of its link, in a step that names it

module _ (size n : ℕ) (packet : Packet) (steps : List trace.Step) (step : trace.Step) where
  pub took_it : takes_of step ≡ packet ∷ [] → is_peer size n packet.from.0 ≡ true → TookOf size n (λ m. map seen (took_from m (steps ++ step ∷ []))) packet.from.0 (as_brought packet)
  took_it names peer = record {
    in_run = (peer_is size n packet.from.0 peer).0;
    other = (peer_is size n packet.from.0 peer).1;
    among = subst (λ (l : List (end.Packet Message)). Among l (plain_packet (as_brought packet))) (sym (one_more takes_of (is_from packet.from.0) seen steps step))
        (among_back (map seen (took_from packet.from.0 steps)) (map seen (filter (is_from packet.from.0) (takes_of step))) (plain_packet (as_brought packet)) here);
  }
    where
      its : Among (map seen (filter (is_from packet.from.0) (packet ∷ []))) (plain_packet (as_brought packet))
      its = rw (eqb-self packet.from.0) (inl refl)

      here : Among (map seen (filter (is_from packet.from.0) (takes_of step))) (plain_packet (as_brought packet))
      here = subst (λ (l : List Packet). Among (map seen (filter (is_from packet.from.0) l)) (plain_packet (as_brought packet))) (sym names) its
