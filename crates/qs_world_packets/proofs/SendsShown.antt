-- What a step sends, in order: each message goes to its session's end as it is posted to the channels.
use Rattle.std.proofs.Common.{◌≡◌, ℕ, ◌==◌, true, List, [], ◌∷◌, Option, sym, ap, subst, ◌∙◌, if◌then◌else◌}
use Rattle.qs_session_channels.specs.Channels as channel
use Rattle.qs_session_channels.specs.Channels.{Channels}
use Rattle.qs_session_channels.specs.Network.{Network, Send}
use Rattle.qs_session_channels.specs.Shown.{Shows}
use Rattle.qs_session_channels.proofs.RunShown.{goes}
use Rattle.qs_node_step.specs.declared.event.Sending.{Sending}
use Rattle.qs_world.specs.Posting.{post_all, post_next}
use Rattle.qs_world.specs.World.{Parcel}
use Rattle.qs_world_packets.specs.PacketMoves.{send_all, send_next}
use Rattle.qs_world_packets.specs.PacketWorld.{hello}
use Rattle.qs_world_packets.specs.WorldShown.{Stamped}
use Rattle.qs_world_packets.proofs.StampsKept.{stamped_send}

-- it waits where the end knows no incarnation of its peer, as in the channels
send_shown : (n stamp : ℕ) (sending : Sending) (net : Network Parcel) (c : Channels Parcel) → Shows net c → net.up n ≡ true → Shows (send_next n stamp net sending) (post_next n stamp c sending)
send_shown n stamp sending net c r up = subst (λ (d : Channels Parcel). Shows (send_next n stamp net sending) d) (g.1.1 ∙ ap after (sym (r.own n sending.to.0 up).peer)) g.2
  where
    g : (d : Channels Parcel) × channel.MovesOn c ((if (net.end n sending.to.0).known == 0 then channel.Wait n sending.to.0 (record { stamp = stamp; message = sending.message }) else channel.Post n sending.to.0 (record { stamp = stamp; message = sending.message })) ∷ []) d × Shows (send_next n stamp net sending) d
    g = goes hello (Send n sending.to.0 (record { stamp = stamp; message = sending.message }) stamp) net c r up

    after : ℕ → Channels Parcel
    after known = channel.moved (if known == 0 then channel.Wait n sending.to.0 (record { stamp = stamp; message = sending.message }) else channel.Post n sending.to.0 (record { stamp = stamp; message = sending.message })) c

pub sends_shown : (n stamp : ℕ) (sendings : List Sending) (net : Network Parcel) (c : Channels Parcel) → Shows net c → net.up n ≡ true → Shows (send_all n stamp sendings net) (post_all n stamp sendings c)
sends_shown n stamp [] net c r up = r
sends_shown n stamp (sending ∷ sendings) net c r up = sends_shown n stamp sendings (send_next n stamp net sending) (post_next n stamp c sending) (send_shown n stamp sending net c r up) up

pub sends_stamped : (n stamp : ℕ) (sendings : List Sending) (born : ℕ → ℕ → Option ℕ) (stamps : ℕ → ℕ) (net : Network Parcel) (c : Channels Parcel) → Shows net c → net.up n ≡ true → stamps n ≡ stamp → Stamped born stamps net → Stamped born stamps (send_all n stamp sendings net)
sends_stamped n stamp [] born stamps net c r up at s = s
sends_stamped n stamp (sending ∷ sendings) born stamps net c r up at s =
    sends_stamped n stamp sendings born stamps (send_next n stamp net sending) (post_next n stamp c sending) (send_shown n stamp sending net c r up) up at
    (stamped_send born stamps net n sending.to.0 (record { stamp = stamp; message = sending.message }) up (r.own n sending.to.0 up).mine at s)
