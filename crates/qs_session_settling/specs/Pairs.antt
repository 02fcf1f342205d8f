-- Two ends of a session, the packets that stand on the links between them, and the steps that either side makes.
--
-- Nothing is lost here: a link brings its packets in the order in which they were put, each once. What stands on it as a stretch
-- begins may be anything that a run left.
use Rattle.std.specs.Prelude.{ℕ, List, [], ◌∷◌, ◌++◌, option_to_list}
use Rattle.qs_session_channels.specs.End.{End, Packet, received, sent, sent_packet, ticked, tick_packets}

-- an end, and the packets that stand on the link from it, the oldest first
pub record Side (M : Type 0) : Type 0 where
  pub end : End M
  pub link : List (Packet M)

pub record Pair (M : Type 0) : Type 0 where
  pub left : Side M
  pub right : Side M

-- what one side does in a step
pub data Action (M : Type 0) : Type 0 where
  Take : Action M  -- it takes the oldest packet from the link that leads to it, if one stands there
  Send : M → ℕ → Action M  -- it sends a message, in a packet with that stamp
  Tick : ℕ → Action M  -- its session ticks, in packets with that stamp

-- what a side leaves of itself and of the link that leads to it
abbrev pub taken : {M : Type 0} → Side M → List (Packet M) → Side M × List (Packet M)
taken side [] = (side, [])
taken side (p ∷ ps) = (record side { end = received side.end p }, ps)

-- hello stands for no message
abbrev pub acted : {M : Type 0} → M → Action M → Side M → List (Packet M) → Side M × List (Packet M)
acted hello Take side link = taken side link
acted hello (Send x stamp) side link = (record { end = sent side.end x; link = side.link ++ option_to_list (sent_packet side.end x stamp) }, link)
acted hello (Tick stamp) side link = (record { end = ticked side.end; link = side.link ++ tick_packets hello side.end stamp }, link)

abbrev pub left_acted : {M : Type 0} → M → Action M → Pair M → Pair M
left_acted hello action pair =
    let done = acted hello action pair.left pair.right.link in
    record { left = done.0; right = record pair.right { link = done.1 } }

abbrev pub swapped : {M : Type 0} → Pair M → Pair M
swapped pair = record { left = pair.right; right = pair.left }

-- a step is an action of the left side or of the right
pub data Step (M : Type 0) : Type 0 where
  Left : Action M → Step M
  Right : Action M → Step M

abbrev pub stepped : {M : Type 0} → M → Step M → Pair M → Pair M
stepped hello (Left action) pair = left_acted hello action pair
stepped hello (Right action) pair = swapped (left_acted hello action (swapped pair))

abbrev pub after : {M : Type 0} → M → List (Step M) → Pair M → Pair M
after hello [] pair = pair
after hello (step ∷ steps) pair = after hello steps (stepped hello step pair)
