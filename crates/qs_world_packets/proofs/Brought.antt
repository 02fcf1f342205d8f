-- What a packet brings to a step, the channels bring: the next message that was posted, or a later incarnation.
use Rattle.std.proofs.Common.{◌≡◌, ℕ, ◌==◌, ◌≤◌, ◌<◌, Bool, true, false, List, [], ◌∷◌, ◌++◌, length, Option, Some, None, nat_lt, refl, sym, ap, subst, ◌∙◌, arith, if◌then◌else◌}
use Rattle.std.specs.Prelude.{is_some, slice_get}
use Rattle.std.proofs.lemmas.Bool.Decides.{nat_tests}
use Rattle.qs_session_channels.specs.Channels as channel
use Rattle.qs_session_channels.specs.Channels.{Channels}
use Rattle.qs_session_channels.specs.End.{Packet, Answer, Answers, OldPeer, NewPeer, OldSelf, Hello, Repeat, Early, Message}
use Rattle.qs_session_channels.specs.Network.{Among, Receive, stepped}
use Rattle.qs_session_channels.specs.Shown.{Shows}
use Rattle.qs_session_channels.proofs.ReceiveShown.{answers}
use Rattle.qs_session_channels.proofs.RunShown.{goes}
use Rattle.qs_node_step.specs.declared.event.Event.{Event}
use Rattle.qs_node_step.specs.declared.event.Event.TheVariants as events
use Rattle.qs_world.specs.Moves as channelled
use Rattle.qs_world.specs.Moves.{hand_next, message_from, node_no, notice_of}
use Rattle.qs_world.specs.Posting.{next_parcel}
use Rattle.qs_world.specs.World.{Client, Parcel}
use Rattle.qs_world_packets.specs.PacketMoves.{Source, Commanded, Queues, Clock, Brought, SourceSent, answer_at, event_by, event_of, handed_by, may_serve, taken_by}
use Rattle.qs_world_packets.specs.PacketWorld.{PacketWorld, hello, over}
use Rattle.qs_world_packets.specs.WorldShown.{ShowsWorld, Stamped, source_by, source_in, stamps_in}
use Rattle.qs_world_packets.proofs.StampsKept.{stamped_receive}

-- a step takes the same there
pub record Takes (world : PacketWorld) (n stamp : ℕ) (source : Source) (c : Channels Parcel) : Type 0 where
  pub event : channelled.event_of (over world c) n stamp (source_in world n source) ≡ event_of world n stamp source
  pub shows : Shows (taken_by world n source) (channelled.taken_by (over world c) n (source_in world n source))
  pub stamped : Stamped world.born (stamps_in world.hosts) (taken_by world n source)
  pub up : (taken_by world n source).up n ≡ true
  pub lines : ◌≡◌ {A = ℕ → Client} (channelled.handed_by (source_in world n source) world.clients) (handed_by source world.clients)
  pub serves : channelled.may_serve (world.hosts n).node (source_in world n source) ≡ may_serve (world.hosts n).node source

-- ---- a packet with a given answer

record Brings (world : PacketWorld) (n stamp m : ℕ) (p : Packet Parcel) (a : Answer Parcel) (c : Channels Parcel) : Type 0 where
  event : channelled.event_of (over world c) n stamp (source_by m a) ≡ (if nat_lt p.stamp stamp then event_by m a else None)
  shows : Shows (stepped hello (Receive n m p a) world.network) (channelled.taken_by (over world c) n (source_by m a))
  lines : ◌≡◌ {A = ℕ → Client} (channelled.handed_by (source_by m a) world.clients) world.clients
  serves : channelled.may_serve (world.hosts n).node (source_by m a) ≡ true

-- where an event is there, the packet's stamp is the lesser one
is_less : (less : Bool) (o : Option Event) → is_some (if less then o else None) ≡ true → (less ≡ true) × (is_some o ≡ true)
is_less true o some = (refl, some)
is_less false o some = absurd (cc some)

next_of : {A : Type 0} (handed posted rest : List A) (x : A) → posted ≡ handed ++ x ∷ rest → slice_get posted (length handed) ≡ Some x
next_of [] posted rest x is = rw is refl
next_of (h ∷ handed) posted rest x is = rw is (next_of handed (handed ++ x ∷ rest) rest x refl)

message_is : (next : Option Parcel) (m stamp : ℕ) (parcel : Parcel) → next ≡ Some parcel → nat_lt parcel.stamp stamp ≡ true
    → ◌≡◌ {A = Option Event} (elim next [ None ↦ None | Some parcel ↦ if nat_lt parcel.stamp stamp then Some (events.Received (node_no m) parcel.message) else None ]) (Some (events.Received (node_no m) parcel.message))
message_is next m stamp parcel is less = rw (is, less) refl

module _ (world : PacketWorld) (n stamp m : ℕ) (p : Packet Parcel) (c : Channels Parcel) (s : ShowsWorld world c) (on : world.network.up n ≡ true) (was : Among (world.network.packets m n) p) where
  -- the message in turn
  hands : (parcel : Parcel) → answer_at world n m p ≡ Message parcel → nat_lt p.stamp stamp ≡ true → Brings world n stamp m p (Message parcel) c
  hands parcel is less = record {
    event = message_is (next_parcel (over world c) n m) m stamp parcel next early ∙ sym (ap (λ (b : Bool). if b then Some (events.Received (node_no m) parcel.message) else None) less);
    shows = subst (λ (d : Channels Parcel). Shows (stepped hello (Receive n m p (Message parcel)) world.network) d) (g.1.1 ∙ ap (λ (o : Option Parcel). hand_next n m o c) (sym next)) g.2;
    lines = refl;
    serves = refl;
  }
    where
      g : (d : Channels Parcel) × channel.MovesOn c (channel.Hand n m parcel ∷ []) d × Shows (stepped hello (Receive n m p (Message parcel)) world.network) d
      g = goes hello (Receive n m p (Message parcel)) world.network c s.shows (on, was, is)

      next : next_parcel (over world c) n m ≡ Some parcel
      next = next_of (c.handed m n (c.peer n m) (c.inc n)) (c.posted m n (c.peer n m) (c.inc n)) g.1.0.2.0 parcel g.1.0.2.1

      early : nat_lt parcel.stamp stamp ≡ true
      early = grind (arith, nat_tests, less, ap (λ (x : Parcel). x.stamp) (answers (world.network.end n m) p (Message parcel) is).0, (s.stamped.packets m n p was).posted)

  -- a later incarnation of one that was known
  notices : (old new : ℕ) → answer_at world n m p ≡ NewPeer old new → nat_lt p.stamp stamp ≡ true → (old == 0) ≡ false → Brings world n stamp m p (NewPeer old new) c
  notices old new is less known = record {
    event = noticed ∙ sym (ap (λ (b : Bool). if b then event_by m (NewPeer old new) else None) less ∙ ap (λ (b : Bool). if b then None else Some (events.PeerRestarted (node_no m) old new)) known);
    shows = subst (λ (d : Channels Parcel). Shows (stepped hello (Receive n m p (NewPeer old new)) world.network) d) (g.1.1 ∙ ap (λ (b : Bool). channel.moved (if b then channel.Meet n m new else channel.Notice n m new) c) known) g.2;
    lines = refl;
    serves = refl;
  }
    where
      g : (d : Channels Parcel) × channel.MovesOn c ((if old == 0 then channel.Meet n m new else channel.Notice n m new) ∷ []) d × Shows (stepped hello (Receive n m p (NewPeer old new)) world.network) d
      g = goes hello (Receive n m p (NewPeer old new)) world.network c s.shows (on, was, is)

      facts : Answers (world.network.end n m) p (NewPeer old new)
      facts = answers (world.network.end n m) p (NewPeer old new) is

      peer : c.peer n m ≡ old
      peer = (s.shows.own n m on).peer ∙ sym facts.0

      above : old < new
      above = grind (arith, facts)

      there : new ≤ c.inc m
      there = grind (arith, facts, (s.shows.packets m n p was).from, s.shows.inc)

      risen : channelled.has_begun (over world c) stamp m new ≡ true
      risen = let b = (s.stamped.packets m n p was).began in grind (arith, nat_tests, there, facts, b.is, b.by, less)

      noticed : notice_of (over world c) n stamp m new ≡ Some (events.PeerRestarted (node_no m) old new)
      noticed = grind (arith, nat_tests, peer, above, known, risen)

  brings : (a : Answer Parcel) → answer_at world n m p ≡ a → is_some (if nat_lt p.stamp stamp then event_by m a else None) ≡ true → Brings world n stamp m p a c
  brings (OldPeer known got) is some = absurd (cc ((is_less (nat_lt p.stamp stamp) None some).1))
  brings (NewPeer old new) is some = let t = is_less (nat_lt p.stamp stamp) (event_by m (NewPeer old new)) some in notices old new is t.0 (known (old == 0) t.1)
    where
      known : (b : Bool) → is_some (if b then None else Some (events.PeerRestarted (node_no m) old new)) ≡ true → b ≡ false
      known true none = absurd (cc none)
      known false there = refl
  brings (OldSelf mine got) is some = absurd (cc ((is_less (nat_lt p.stamp stamp) None some).1))
  brings Hello is some = absurd (cc ((is_less (nat_lt p.stamp stamp) None some).1))
  brings (Repeat number) is some = absurd (cc ((is_less (nat_lt p.stamp stamp) None some).1))
  brings (Early number expected) is some = absurd (cc ((is_less (nat_lt p.stamp stamp) None some).1))
  brings (Message parcel) is some = hands parcel is (is_less (nat_lt p.stamp stamp) (event_by m (Message parcel)) some).0

-- ---- whatever makes the step

pub takes : (world : PacketWorld) (n stamp : ℕ) (source : Source) (c : Channels Parcel) → ShowsWorld world c → world.network.up n ≡ true → SourceSent world n source → is_some (event_of world n stamp source) ≡ true → Takes world n stamp source c
takes world n stamp (Commanded k) c s on was some = record { event = refl; shows = s.shows; stamped = s.stamped; up = on; lines = refl; serves = refl }
takes world n stamp Queues c s on was some = record { event = refl; shows = s.shows; stamped = s.stamped; up = on; lines = refl; serves = refl }
takes world n stamp Clock c s on was some = record { event = refl; shows = s.shows; stamped = s.stamped; up = on; lines = refl; serves = refl }
takes world n stamp (Brought m p) c s on was some =
    let b = brings world n stamp m p c s on was (answer_at world n m p) refl some in
    record { event = b.event; shows = b.shows; stamped = stamped_receive world.born (stamps_in world.hosts) world.network n m p (answer_at world n m p) s.stamped; up = on; lines = b.lines; serves = b.serves }
