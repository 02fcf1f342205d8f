-- Each packet that a node puts has the stamp of the step in which it is put. So what was put before a stamp was put in steps before it.
use Rattle.qs_world_merge.proofs.Words.{◌≡◌, ◌⊎◌, ℕ, ◌≤◌, ◌<◌, Bool, true, false, List, [], ◌∷◌, Option, Some, None, sym, subst, ◌∙◌, arith, inl, inr, ⊤, cond, option_to_list, Packet, sent_packet, tick_packets, Among, Network, CrashCause, effects_of, Event, Sending, Parcel, Source, Commanded, Queues, Clock, Brought, Move, Cut, Stop, Rise, Meet, Take, cut_with, event_of, moved, send_all, send_next, step_with, taken_by, PacketWorld, hello, IsMadeAt, LocalRun, TimedMove, node_of, InKeyOrder, is_of_node, of_node, move_key}
use Rattle.qs_session_channels.proofs.Grown.{among_at}
use Rattle.qs_world_packets.specs.PacketMoves.{Step, Tick}
use Rattle.qs_world_merge.proofs.KeyOrder.{after_stamp}
use Rattle.qs_world_packets.proofs.StampsKept.{message_sent, tick_sent}

-- ---- a move

send_put : (n stamp m : ℕ) (a : Network Parcel) (s : Sending) (p : Packet Parcel) → Among ((send_next n stamp a s).packets n m) p → Among (a.packets n m) p ⊎ (p.stamp ≡ stamp)
send_put n stamp m a s p h = by (among_at a.packets n s.to.0 (option_to_list (sent_packet (a.end n s.to.0) (record { stamp = stamp; message = s.message }) stamp)) n m p h)
  where
    by : ((n ≡ n) × (m ≡ s.to.0) × Among (option_to_list (sent_packet (a.end n s.to.0) (record { stamp = stamp; message = s.message }) stamp)) p) ⊎ Among (a.packets n m) p → Among (a.packets n m) p ⊎ (p.stamp ≡ stamp)
    by (inl new) = inr (message_sent (a.end n s.to.0) (record { stamp = stamp; message = s.message }) stamp p new.2).1
    by (inr old) = inl old

sends_put : (n stamp m : ℕ) (sendings : List Sending) (a : Network Parcel) (p : Packet Parcel) → Among ((send_all n stamp sendings a).packets n m) p → Among (a.packets n m) p ⊎ (p.stamp ≡ stamp)
sends_put n stamp m [] a p h = inl h
sends_put n stamp m (s ∷ sendings) a p h = by (sends_put n stamp m sendings (send_next n stamp a s) p h)
  where
    by : Among ((send_next n stamp a s).packets n m) p ⊎ (p.stamp ≡ stamp) → Among (a.packets n m) p ⊎ (p.stamp ≡ stamp)
    by (inl before) = send_put n stamp m a s p before
    by (inr at) = inr at

-- nothing is put as a packet is taken
taken_put : (n m : ℕ) (source : Source) (w : PacketWorld) (p : Packet Parcel) → Among ((taken_by w n source).packets n m) p → Among (w.network.packets n m) p
taken_put n m (Commanded k) w p h = h
taken_put n m Queues w p h = h
taken_put n m Clock w p h = h
taken_put n m (Brought from q) w p h = h

step_put : (n stamp free m : ℕ) (source : Source) (w : PacketWorld) (o : Option Event) (p : Packet Parcel) → Among ((step_with w n stamp free source o).network.packets n m) p → Among (w.network.packets n m) p ⊎ (p.stamp ≡ stamp)
step_put n stamp free m source w None p h = inl h
step_put n stamp free m source w (Some event) p h = by (sends_put n stamp m (effects_of (w.hosts n).node event free).messages (taken_by w n source) p h)
  where
    by : Among ((taken_by w n source).packets n m) p ⊎ (p.stamp ≡ stamp) → Among (w.network.packets n m) p ⊎ (p.stamp ≡ stamp)
    by (inl before) = inl (taken_put n m source w p before)
    by (inr at) = inr at

cut_put : (n stamp free m : ℕ) (is_kept : Bool) (cause : CrashCause) (w : PacketWorld) (o : Option Event) (p : Packet Parcel) → Among ((cut_with w n stamp free is_kept cause o).network.packets n m) p → Among (w.network.packets n m) p
cut_put n stamp free m is_kept cause w None p h = h
cut_put n stamp free m is_kept cause w (Some event) p h = h

session_put : (n m k stamp : ℕ) (w : PacketWorld) (p : Packet Parcel) → Among ((moved (Tick n k stamp) w).network.packets n m) p → Among (w.network.packets n m) p ⊎ (p.stamp ≡ stamp)
session_put n m k stamp w p h = by (among_at w.network.packets n k (tick_packets hello (w.network.end n k) stamp) n m p h)
  where
    by : ((n ≡ n) × (m ≡ k) × Among (tick_packets hello (w.network.end n k) stamp) p) ⊎ Among (w.network.packets n m) p → Among (w.network.packets n m) p ⊎ (p.stamp ≡ stamp)
    by (inl new) = inr (tick_sent (w.network.end n k) stamp p new.2).at
    by (inr old) = inl old

at_stamp : (p : Packet Parcel) (A : Type 0) (stamp s : ℕ) → stamp ≡ s → A ⊎ (p.stamp ≡ stamp) → A ⊎ (p.stamp ≡ s)
at_stamp p A stamp s is (inl h) = inl h
at_stamp p A stamp s is (inr at) = inr (at ∙ is)

pub moved_put : (move : Move) (w : PacketWorld) (s m : ℕ) (p : Packet Parcel) → IsMadeAt s move → Among ((moved move w).network.packets (node_of move) m) p → Among (w.network.packets (node_of move) m) p ⊎ (p.stamp ≡ s)
moved_put (Step n stamp free source) w s m p at h = at_stamp p (Among (w.network.packets n m) p) stamp s at (step_put n stamp free m source w (event_of w n stamp source) p h)
moved_put (Cut n stamp free source is_kept cause) w s m p at h = inl (cut_put n stamp free m is_kept cause w (event_of w n stamp source) p h)
moved_put (Stop n stamp cause) w s m p at h = inl h
moved_put (Rise n stamp inc) w s m p at h = inl h
moved_put (Meet n stamp k q) w s m p at h = inl h
moved_put (Take n k q) w s m p at h = inl h
moved_put (Tick n k stamp) w s m p at h = at_stamp p (Among (w.network.packets n m) p) stamp s at (session_put n m k stamp w p h)

-- ---- a run

-- none has a lesser stamp
abbrev pub AllFrom : ℕ → List TimedMove → Type 0
AllFrom s [] = ⊤
AllFrom s (t ∷ ts) = (s ≤ t.stamp) × AllFrom s ts

kept_from : (b : Bool) (s : ℕ) (t : TimedMove) (ts : List TimedMove) → s ≤ t.stamp → AllFrom s ts → AllFrom s (cond b (t ∷ ts) ts)
kept_from true s t ts low more = (low, more)
kept_from false s t ts low more = more

pub all_from : (size n s : ℕ) (last : ℕ × ℕ) (merged : List TimedMove) → InKeyOrder move_key size last merged → s ≤ last.0 → AllFrom s (of_node move_key n merged)
all_from size n s last [] order low = tt
all_from size n s last (t ∷ ts) order low =
    let here : s ≤ t.stamp = omega (arith, after_stamp last t.stamp (node_of t.move) order.1) in
    kept_from (is_of_node move_key n t) s t (of_node move_key n ts) here (all_from size n s (move_key t) ts order.2 here)

-- what is there in the end with a lesser stamp was there before
pub put_late : (clients_at : ℕ → ℕ) (n at s m : ℕ) (old : PacketWorld) (ts : List TimedMove) (new : PacketWorld) (p : Packet Parcel) → LocalRun clients_at n at old ts new → AllFrom s ts → Among (new.network.packets n m) p → p.stamp < s → Among (old.network.packets n m) p
put_late clients_at n at s m old [] new p run from h less = subst (λ (w : PacketWorld). Among (w.network.packets n m) p) run h
put_late clients_at n at s m old (t ∷ ts) new p run from h less = by (moved_put t.move old t.stamp m p run.0.made_at (there (put_late clients_at n t.stamp s m (moved t.move old) ts new p run.1 from.1 h less)))
  where
    there : Among ((moved t.move old).network.packets n m) p → Among ((moved t.move old).network.packets (node_of t.move) m) p
    there h = subst (λ (k : ℕ). Among ((moved t.move old).network.packets k m) p) (sym run.0.of_node) h

    by : Among (old.network.packets (node_of t.move) m) p ⊎ (p.stamp ≡ t.stamp) → Among (old.network.packets n m) p
    by (inl before) = subst (λ (k : ℕ). Among (old.network.packets k m) p) run.0.of_node before
    by (inr is) = absurd (omega (arith, from.0, is, less))
