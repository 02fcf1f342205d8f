-- A step of the world over packets, whole or cut off, is that step of the world of channels.
use Rattle.std.proofs.Common.{◌≡◌, ℕ, ◌≤◌, Bool, true, false, List, Option, Some, None, refl, sym, ap, ◌∙◌, arith}
use Rattle.std.specs.Prelude.{◌&&◌, is_some}
use Rattle.std.proofs.lemmas.Bool.Decides.{nat_tests}
use Rattle.qs_session_channels.specs.Channels as channel
use Rattle.qs_session_channels.specs.Channels.{Channels}
use Rattle.qs_session_channels.specs.Network as network
use Rattle.qs_session_channels.specs.Network.{with_at}
use Rattle.qs_session_channels.proofs.CrashShown.{by_crash}
use Rattle.qs_book_journal.specs.declared.entry.CrashCause.{CrashCause}
use Rattle.qs_book_machine.specs.Clauses.{is_crash}
use Rattle.qs_record.specs.declared.record.Record.{Record}
use Rattle.qs_node_step.specs.declared.event.Effects.{Effects}
use Rattle.qs_node_step.specs.declared.event.Event.{Event}
use Rattle.qs_node_step.specs.Step.{after_step, effects_of}
use Rattle.qs_world.specs.Moves as channelled
use Rattle.qs_world.specs.Moves.{cut_log, stepped_host, stopped_host}
use Rattle.qs_world.specs.Posting.{clients_after, post_all}
use Rattle.qs_world.specs.World.{Client, Host, Parcel, World}
use Rattle.qs_world_packets.specs.PacketMoves.{Source, Step, Cut, MayMove, cut_with, event_of, is_in_order, is_later, may_serve, may_step, step_with, stopped, taken_by}
use Rattle.qs_world_packets.specs.PacketWorld.{PacketWorld, hello, over}
use Rattle.qs_world_packets.specs.WorldShown.{Goes, ShowsWorld, source_in, stamps_in}
use Rattle.qs_world_packets.proofs.Brought.{Takes, takes}
use Rattle.qs_world_packets.proofs.SendsShown.{sends_shown, sends_stamped}
use Rattle.qs_world_packets.proofs.StampsKept.{raised, stamped_crash}

-- ---- what may be

pub both : (a b : Bool) → (a && b) ≡ true → (a ≡ true) × (b ≡ true)
both true true is = (refl, refl)
both true false is = absurd (cc is)
both false b is = absurd (cc is)

-- the stamp of a node is its step's after it, and no node's is less
pub stamps_at : (hosts : ℕ → Host) (n : ℕ) (host : Host) → stamps_in (with_at hosts n host) n ≡ host.stamp
stamps_at hosts n host = grind (arith, nat_tests)

pub stamps_rise : (hosts : ℕ → Host) (n : ℕ) (host : Host) → (hosts n).stamp ≤ host.stamp → (k : ℕ) → stamps_in hosts k ≤ stamps_in (with_at hosts n host) k
stamps_rise hosts n host low k = grind (arith, nat_tests, low)

pub in_order_low : (world : PacketWorld) (n stamp : ℕ) → is_in_order world n stamp ≡ true → (world.hosts n).stamp ≤ stamp
in_order_low world n stamp is = grind (arith, nat_tests, is)

pub later_low : (world : PacketWorld) (n stamp : ℕ) → is_later world n stamp ≡ true → (world.hosts n).stamp ≤ stamp
later_low world n stamp is = in_order_low world n stamp (both (is_in_order world n stamp) _ is).0

pub record MaysStep (world : PacketWorld) (n stamp : ℕ) (source : Source) : Type 0 where
  pub up : world.network.up n ≡ true
  pub low : (world.hosts n).stamp ≤ stamp
  pub some : is_some (event_of world n stamp source) ≡ true

pub mays_step : (world : PacketWorld) (n stamp : ℕ) (source : Source) → may_step world n stamp source ≡ true → MaysStep world n stamp source
mays_step world n stamp source may =
    let a = both (world.network.up n) _ may in
    let b = both (is_later world n stamp) _ a.1 in
    let d = both (is_some (event_of world n stamp source)) _ b.1 in
    record { up = a.0; low = later_low world n stamp b.0; some = d.0 }

-- it may be there too
may_there : (world : PacketWorld) (n stamp : ℕ) (source : Source) (c : Channels Parcel) → ShowsWorld world c → Takes world n stamp source c → may_step world n stamp source ≡ true → channelled.may_step (over world c) n stamp (source_in world n source) ≡ true
may_there world n stamp source c s t may = alike (world.network.up n) (c.up n) (event_of world n stamp source) _ (may_serve (world.hosts n).node source) _ (ap (λ (f : ℕ → Bool). f n) (sym s.shows.up)) (sym t.event) (sym t.serves) may
  where
    alike : (a b : Bool) (o p : Option Event) (x y : Bool) → a ≡ b → o ≡ p → x ≡ y → (a && (is_later world n stamp && (is_some o && x))) ≡ true → (b && (is_later world n stamp && (is_some p && y))) ≡ true
    alike a b o p x y e f g may = rw (sym e, sym f, sym g) may

-- ---- a whole step

record Works (world : PacketWorld) (n stamp free : ℕ) (source : Source) (c : Channels Parcel) (o : Option Event) : Type 0 where
  left : Channels Parcel
  same : over (step_with world n stamp free source o) left ≡ channelled.step_with (over world c) n stamp free (source_in world n source) o
  shown : ShowsWorld (step_with world n stamp free source o) left

works : (world : PacketWorld) (n stamp free : ℕ) (source : Source) (c : Channels Parcel) → Takes world n stamp source c → (world.hosts n).stamp ≤ stamp → (o : Option Event) → is_some o ≡ true → Works world n stamp free source c o
works world n stamp free source c t low None none = absurd (cc none)
works world n stamp free source c t low (Some event) some = record {
  left = post_all n stamp out.messages there;
  same = ap with_clients (sym t.lines);
  shown = record {
    shows = sends_shown n stamp out.messages (taken_by world n source) there t.shows t.up;
    stamped = sends_stamped n stamp out.messages world.born (stamps_in (with_at world.hosts n host)) (taken_by world n source) there t.shows t.up (stamps_at world.hosts n host)
        (raised world.born (stamps_in world.hosts) (stamps_in (with_at world.hosts n host)) (taken_by world n source) (stamps_rise world.hosts n host low) t.stamped);
  };
}
  where
    out : Effects
    out = effects_of (world.hosts n).node event free

    host : Host
    host = stepped_host stamp (after_step (world.hosts n).node event free) out (world.hosts n)

    there : Channels Parcel
    there = channelled.taken_by (over world c) n (source_in world n source)

    with_clients : (ℕ → Client) → World
    with_clients clients = record (over (step_with world n stamp free source (Some event)) (post_all n stamp out.messages there)) { clients = clients_after out.answers clients }

pub step_goes : (world : PacketWorld) (n stamp free : ℕ) (source : Source) (c : Channels Parcel) → ShowsWorld world c → MayMove world (Step n stamp free source) → Goes world (Step n stamp free source) c
step_goes world n stamp free source c s may = record { left = w.left; run = (may_there world n stamp source c s t may.may, w.same ∙ ap (λ (o : Option Event). channelled.step_with (over world c) n stamp free (source_in world n source) o) (sym t.event)); shown = w.shown }
  where
    mays : MaysStep world n stamp source
    mays = mays_step world n stamp source may.may

    t : Takes world n stamp source c
    t = takes world n stamp source c s mays.up may.sent mays.some

    w : Works world n stamp free source c (event_of world n stamp source)
    w = works world n stamp free source c t mays.low (event_of world n stamp source) mays.some

-- ---- a crash, in place of a step or in one

pub stops_shown : (world : PacketWorld) (n stamp : ℕ) (cause : CrashCause) (log : List Record) (c : Channels Parcel) → ShowsWorld world c → world.network.up n ≡ true → (world.hosts n).stamp ≤ stamp → ShowsWorld (stopped world n stamp cause log) (channel.moved (channel.Crash n) c)
stops_shown world n stamp cause log c s up low = record {
  shows = by_crash hello n world.network c s.shows up;
  stamped = raised world.born (stamps_in world.hosts) (stamps_in (with_at world.hosts n (stopped_host stamp log (world.hosts n)))) (network.stepped hello (network.Crash n) world.network) (stamps_rise world.hosts n (stopped_host stamp log (world.hosts n)) low)
      (stamped_crash world.born (stamps_in world.hosts) world.network n up s.stamped);
}

record CutsOff (world : PacketWorld) (n stamp free : ℕ) (is_kept : Bool) (cause : CrashCause) (c : Channels Parcel) (o : Option Event) : Type 0 where
  left : Channels Parcel
  same : over (cut_with world n stamp free is_kept cause o) left ≡ channelled.cut_with (over world c) n stamp free is_kept cause o
  shown : ShowsWorld (cut_with world n stamp free is_kept cause o) left

cuts_off : (world : PacketWorld) (n stamp free : ℕ) (is_kept : Bool) (cause : CrashCause) (c : Channels Parcel) → ShowsWorld world c → world.network.up n ≡ true → (world.hosts n).stamp ≤ stamp → (o : Option Event) → is_some o ≡ true → CutsOff world n stamp free is_kept cause c o
cuts_off world n stamp free is_kept cause c s up low None none = absurd (cc none)
cuts_off world n stamp free is_kept cause c s up low (Some event) some = record {
  left = channel.moved (channel.Crash n) c;
  same = refl;
  shown = stops_shown world n stamp cause (cut_log (world.hosts n) is_kept (effects_of (world.hosts n).node event free)) c s up low;
}

pub cut_goes : (world : PacketWorld) (n stamp free : ℕ) (source : Source) (is_kept : Bool) (cause : CrashCause) (c : Channels Parcel) → ShowsWorld world c → MayMove world (Cut n stamp free source is_kept cause) → Goes world (Cut n stamp free source is_kept cause) c
cut_goes world n stamp free source is_kept cause c s may = record {
  left = w.left;
  run = (and (channelled.may_step (over world c) n stamp (source_in world n source)) (is_crash cause) (may_there world n stamp source c s t can.0) can.1, w.same ∙ ap (λ (o : Option Event). channelled.cut_with (over world c) n stamp free is_kept cause o) (sym t.event));
  shown = w.shown;
}
  where
    can : (may_step world n stamp source ≡ true) × (is_crash cause ≡ true)
    can = both (may_step world n stamp source) (is_crash cause) may.may

    mays : MaysStep world n stamp source
    mays = mays_step world n stamp source can.0

    t : Takes world n stamp source c
    t = takes world n stamp source c s mays.up may.sent mays.some

    w : CutsOff world n stamp free is_kept cause c (event_of world n stamp source)
    w = cuts_off world n stamp free is_kept cause c s mays.up mays.low (event_of world n stamp source) mays.some

    and : (a b : Bool) → a ≡ true → b ≡ true → (a && b) ≡ true
    and a b x y = rw (x, y) refl
