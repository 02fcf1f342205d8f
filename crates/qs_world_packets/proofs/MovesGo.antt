-- Each move of the world over packets is a list of moves of the world of channels.
use Rattle.std.proofs.Common.{◌≡◌, ℕ, ◌==◌, ◌≤◌, ◌<◌, Bool, true, false, [], ◌∷◌, nat_lt, refl, sym, ap, subst, ◌∙◌, arith}
use Rattle.std.specs.Prelude.{◌&&◌, nat_le, not}
use Rattle.std.proofs.lemmas.Bool.Decides.{nat_tests}
use Rattle.qs_session_channels.specs.Channels as channel
use Rattle.qs_session_channels.specs.Channels.{Channels}
use Rattle.qs_session_channels.specs.End.{End, Packet, Answer, answer, OldPeer, NewPeer, OldSelf, Hello, Repeat, Early, Message}
use Rattle.qs_session_channels.specs.Network as network
use Rattle.qs_session_channels.specs.Network.{Among, with_at}
use Rattle.qs_session_channels.specs.Shown.{Shows}
use Rattle.qs_session_channels.proofs.CrashShown.{by_restart}
use Rattle.qs_session_channels.proofs.RunShown.{goes}
use Rattle.qs_book_journal.specs.declared.entry.CrashCause.{CrashCause}
use Rattle.qs_book_machine.specs.Clauses.{is_crash}
use Rattle.qs_node_step.specs.Opening.{recovered_of}
use Rattle.qs_world.specs.Moves as channelled
use Rattle.qs_world.specs.Moves.{risen_host}
use Rattle.qs_world.specs.World.{Host, Parcel}
use Rattle.qs_world_packets.specs.PacketLaws.{EachMoveGoes}
use Rattle.qs_world_packets.specs.PacketMoves.{Step, Cut, Stop, Rise, Meet, Take, Tick, MayMove, answer_at, is_aside, is_in_order, is_later, received_by}
use Rattle.qs_world_packets.specs.PacketWorld.{PacketWorld, hello, over}
use Rattle.qs_world_packets.specs.WorldShown.{Goes, ShowsWorld, stamps_in}
use Rattle.qs_world_packets.proofs.StampsKept.{raised, stamped_receive, stamped_restart, stamped_tick}
use Rattle.qs_world_packets.proofs.StepsGo.{both, cut_goes, in_order_low, later_low, stamps_rise, step_goes, stops_shown}

-- ---- a crash between steps, and a restart

stop_goes : (world : PacketWorld) (n stamp : ℕ) (cause : CrashCause) (c : Channels Parcel) → ShowsWorld world c → MayMove world (Stop n stamp cause) → Goes world (Stop n stamp cause) c
stop_goes world n stamp cause c s may = record {
  left = channel.moved (channel.Crash n) c;
  run = (subst (λ (up : ℕ → Bool). (up n && (is_in_order world n stamp && is_crash cause)) ≡ true) (sym s.shows.up) may.may, refl);
  shown = stops_shown world n stamp cause (world.hosts n).log c s can.0 (in_order_low world n stamp (both (is_in_order world n stamp) _ can.1).0);
}
  where
    can : (world.network.up n ≡ true) × ((is_in_order world n stamp && is_crash cause) ≡ true)
    can = both (world.network.up n) _ may.may

rise_goes : (world : PacketWorld) (n stamp inc : ℕ) (c : Channels Parcel) → ShowsWorld world c → MayMove world (Rise n stamp inc) → Goes world (Rise n stamp inc) c
rise_goes world n stamp inc c s may = record {
  left = channel.moved (channel.Restart n inc) c;
  run = (subst (λ (up : ℕ → Bool). (not (up n) && (is_in_order world n stamp && nat_lt (c.inc n) inc)) ≡ true) (sym s.shows.up) (subst (λ (f : ℕ → ℕ). (not (world.network.up n) && (is_in_order world n stamp && nat_lt (f n) inc)) ≡ true) (sym s.shows.inc) may.may), refl);
  shown = record {
    shows = by_restart hello n inc world.network c s.shows (down (world.network.up n) can.0, above);
    stamped = raised _ (with_at (stamps_in world.hosts) n stamp) (stamps_in (with_at world.hosts n host)) _ same
        (stamped_restart world.born (stamps_in world.hosts) world.network n inc stamp above (in_order_low world n stamp more.0) (λ k m p among. (s.shows.packets k m p among).from) s.stamped);
  };
}
  where
    host : Host
    host = risen_host stamp inc (recovered_of (world.hosts n).log) (world.hosts n)

    can : (not (world.network.up n) ≡ true) × ((is_in_order world n stamp && nat_lt (world.network.inc n) inc) ≡ true)
    can = both (not (world.network.up n)) _ may.may

    more : (is_in_order world n stamp ≡ true) × (nat_lt (world.network.inc n) inc ≡ true)
    more = both (is_in_order world n stamp) _ can.1

    above : world.network.inc n < inc
    above = grind (arith, nat_tests, more.1)

    down : (b : Bool) → not b ≡ true → b ≡ false
    down true is = absurd (cc is)
    down false is = refl

    same : (k : ℕ) → with_at (stamps_in world.hosts) n stamp k ≤ stamps_in (with_at world.hosts n host) k
    same k = grind (arith, nat_tests)

-- ---- a first meeting

-- where no incarnation is known a packet is of a later one
first : (e : End Parcel) (p : Packet Parcel) → e.known ≡ 0 → 1 ≤ p.inc → answer e p ≡ NewPeer 0 p.inc
first e p unmet born = grind (arith, nat_tests, unmet, born)

meet_goes : (world : PacketWorld) (n stamp m : ℕ) (p : Packet Parcel) (c : Channels Parcel) → ShowsWorld world c → MayMove world (Meet n stamp m p) → Goes world (Meet n stamp m p) c
meet_goes world n stamp m p c s may = record {
  left = channel.moved (channel.Meet n m p.inc) c;
  run = (may_there, refl);
  shown = record {
    shows = subst (λ (a : Answer Parcel). Shows (network.stepped hello (network.Receive n m p a) world.network) (channel.moved (channel.Meet n m p.inc) c)) (sym is) (subst (λ (d : Channels Parcel). Shows (network.stepped hello (network.Receive n m p (NewPeer 0 p.inc)) world.network) d) g.1.1 g.2);
    stamped = raised world.born (stamps_in world.hosts) (stamps_in (with_at world.hosts n host)) (received_by world n m p) (stamps_rise world.hosts n host (later_low world n stamp b.0)) (stamped_receive world.born (stamps_in world.hosts) world.network n m p (answer_at world n m p) s.stamped);
  };
}
  where
    host : Host
    host = record (world.hosts n) { stamp = stamp }

    a : (world.network.up n ≡ true) × ((is_later world n stamp && ((not (m == n) && nat_lt m world.size) && (((world.network.end n m).known == 0) && nat_lt p.stamp stamp))) ≡ true)
    a = both (world.network.up n) _ may.may

    b : (is_later world n stamp ≡ true) × (((not (m == n) && nat_lt m world.size) && (((world.network.end n m).known == 0) && nat_lt p.stamp stamp)) ≡ true)
    b = both (is_later world n stamp) _ a.1

    d : ((not (m == n) && nat_lt m world.size) ≡ true) × ((((world.network.end n m).known == 0) && nat_lt p.stamp stamp) ≡ true)
    d = both (not (m == n) && nat_lt m world.size) _ b.1

    e : (((world.network.end n m).known == 0) ≡ true) × (nat_lt p.stamp stamp ≡ true)
    e = both ((world.network.end n m).known == 0) _ d.1

    unmet : (world.network.end n m).known ≡ 0
    unmet = grind (arith, nat_tests, e.0)

    is : answer_at world n m p ≡ NewPeer 0 p.inc
    is = first (world.network.end n m) p unmet (s.shows.packets m n p may.sent).born

    g : (d : Channels Parcel) × channel.MovesOn c (channel.Meet n m p.inc ∷ []) d × Shows (network.stepped hello (network.Receive n m p (NewPeer 0 p.inc)) world.network) d
    g = goes hello (network.Receive n m p (NewPeer 0 p.inc)) world.network c s.shows (a.0, may.sent, is)

    up : c.up n ≡ true
    up = ap (λ (f : ℕ → Bool). f n) s.shows.up ∙ a.0

    unknown : (c.peer n m == 0) ≡ true
    unknown = ap (λ (k : ℕ). k == 0) (s.shows.own n m a.0).peer ∙ e.0

    some : nat_lt 0 p.inc ≡ true
    some = grind (arith, nat_tests, (s.shows.packets m n p may.sent).born)

    there : p.inc ≤ c.inc m
    there = grind (arith, (s.shows.packets m n p may.sent).from, s.shows.inc)

    risen : channelled.has_begun (over world c) stamp m p.inc ≡ true
    risen = let b = (s.stamped.packets m n p may.sent).began in grind (arith, nat_tests, there, b.is, b.by, e.1)

    may_there : channelled.may_move (over world c) (channelled.Meet n stamp m p.inc) ≡ true
    may_there = all (c.up n) (is_later world n stamp) (not (m == n) && nat_lt m world.size) (c.peer n m == 0) (nat_lt 0 p.inc) (channelled.has_begun (over world c) stamp m p.inc) up b.0 d.0 unknown some risen
      where
        all : (a b c d e f : Bool) → a ≡ true → b ≡ true → c ≡ true → d ≡ true → e ≡ true → f ≡ true → (a && (b && (c && (d && (e && f))))) ≡ true
        all a b c d e f p q r s t u = rw (p, q, r, s, t, u) refl

-- ---- a packet that changes an end alone, and a tick of a session

aside_shown : (world : PacketWorld) (n m : ℕ) (p : Packet Parcel) (c : Channels Parcel) → ShowsWorld world c → world.network.up n ≡ true → Among (world.network.packets m n) p → (a : Answer Parcel) → answer_at world n m p ≡ a → is_aside a ≡ true
    → Shows (network.stepped hello (network.Receive n m p a) world.network) c
aside_shown world n m p c s on was (OldPeer known got) is aside = let g = goes hello (network.Receive n m p (OldPeer known got)) world.network c s.shows (on, was, is) in subst (λ (d : Channels Parcel). Shows (network.stepped hello (network.Receive n m p (OldPeer known got)) world.network) d) g.1 g.2
aside_shown world n m p c s on was (NewPeer old new) is aside = absurd (cc aside)
aside_shown world n m p c s on was (OldSelf mine got) is aside = let g = goes hello (network.Receive n m p (OldSelf mine got)) world.network c s.shows (on, was, is) in subst (λ (d : Channels Parcel). Shows (network.stepped hello (network.Receive n m p (OldSelf mine got)) world.network) d) g.1 g.2
aside_shown world n m p c s on was Hello is aside = let g = goes hello (network.Receive n m p Hello) world.network c s.shows (on, was, is) in subst (λ (d : Channels Parcel). Shows (network.stepped hello (network.Receive n m p Hello) world.network) d) g.1 g.2
aside_shown world n m p c s on was (Repeat number) is aside = let g = goes hello (network.Receive n m p (Repeat number)) world.network c s.shows (on, was, is) in subst (λ (d : Channels Parcel). Shows (network.stepped hello (network.Receive n m p (Repeat number)) world.network) d) g.1 g.2
aside_shown world n m p c s on was (Early number expected) is aside = let g = goes hello (network.Receive n m p (Early number expected)) world.network c s.shows (on, was, is) in subst (λ (d : Channels Parcel). Shows (network.stepped hello (network.Receive n m p (Early number expected)) world.network) d) g.1 g.2
aside_shown world n m p c s on was (Message parcel) is aside = absurd (cc aside)

take_goes : (world : PacketWorld) (n m : ℕ) (p : Packet Parcel) (c : Channels Parcel) → ShowsWorld world c → MayMove world (Take n m p) → Goes world (Take n m p) c
take_goes world n m p c s may = record {
  left = c;
  run = refl;
  shown = record {
    shows = aside_shown world n m p c s can.0 may.sent (answer_at world n m p) refl can.1;
    stamped = stamped_receive world.born (stamps_in world.hosts) world.network n m p (answer_at world n m p) s.stamped;
  };
}
  where
    can : (world.network.up n ≡ true) × (is_aside (answer_at world n m p) ≡ true)
    can = both (world.network.up n) _ may.may

tick_goes : (world : PacketWorld) (n m stamp : ℕ) (c : Channels Parcel) → ShowsWorld world c → MayMove world (Tick n m stamp) → Goes world (Tick n m stamp) c
tick_goes world n m stamp c s may = record {
  left = c;
  run = refl;
  shown = record {
    shows = let g = goes hello (network.Tick n m stamp) world.network c s.shows can.0 in subst (λ (d : Channels Parcel). Shows (network.stepped hello (network.Tick n m stamp) world.network) d) g.1 g.2;
    stamped = stamped_tick world.born (stamps_in world.hosts) world.network n m stamp can.0 (s.shows.own n m can.0).mine (grind (arith, nat_tests, can.1)) s.stamped;
  };
}
  where
    can : (world.network.up n ≡ true) × (nat_le (world.hosts n).stamp stamp ≡ true)
    can = both (world.network.up n) _ may.may

-- ---- each of them

pub each_move_goes : EachMoveGoes
each_move_goes world (Step n stamp free source) c s may = step_goes world n stamp free source c s may
each_move_goes world (Cut n stamp free source is_kept cause) c s may = cut_goes world n stamp free source is_kept cause c s may
each_move_goes world (Stop n stamp cause) c s may = stop_goes world n stamp cause c s may
each_move_goes world (Rise n stamp inc) c s may = rise_goes world n stamp inc c s may
each_move_goes world (Meet n stamp m p) c s may = meet_goes world n stamp m p c s may
each_move_goes world (Take n m p) c s may = take_goes world n m p c s may
each_move_goes world (Tick n m stamp) c s may = tick_goes world n m stamp c s may
