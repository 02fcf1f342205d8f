-- Passes of the plainest form, in which each side takes just what stood on the link to it, and ticks once; and examples.
use Rattle.std.specs.Prelude.{ℕ, zero, suc, true, false, List, [], ◌∷◌, length}
use Rattle.qs_session_channels.specs.End.{End, Packet, fresh}
use Rattle.qs_session_settling.specs.Pairs.{Pair, Take, Tick, Step, Left, Right, after}
use Rattle.qs_session_settling.specs.Passes.{QuietPasses}

-- n packets are taken by that side, before those steps
abbrev pub left_takes : {M : Type 0} → ℕ → List (Step M) → List (Step M)
left_takes zero steps = steps
left_takes (suc n) steps = Left Take ∷ left_takes n steps

abbrev pub right_takes : {M : Type 0} → ℕ → List (Step M) → List (Step M)
right_takes zero steps = steps
right_takes (suc n) steps = Right Take ∷ right_takes n steps

abbrev pub plain_pass : {M : Type 0} → Pair M → List (Step M)
plain_pass pair = left_takes (length pair.right.link) (right_takes (length pair.left.link) (Left (Tick 0) ∷ Right (Tick 0) ∷ []))

-- so many of them
abbrev pub plainly : {M : Type 0} → M → ℕ → Pair M → Pair M
plainly hello zero pair = pair
plainly hello (suc n) pair = plainly hello n (after hello (plain_pass pair) pair)

-- so whatever stands on the links, there are passes without a send
abbrev pub EachHasPasses : (M : Type 0) → Type 0
EachHasPasses M = (hello : M) (n : ℕ) (pair : Pair M) → QuietPasses hello n pair (plainly hello n pair)

-- ---- examples: incarnation 3 of a node has messages for a node that it does not know, and that knows incarnation 2 of it, with a
-- message for that; of either way a packet stands on the link

abbrev pub from : ℕ → ℕ → ℕ → ℕ → ℕ → Packet ℕ
from inc to_inc number ack message = record { inc = inc; to_inc = to_inc; number = number; ack = ack; stamp = 0; message = message }

abbrev pub newcomer : End ℕ
newcomer = record (fresh 3) { kept = 8 ∷ 9 ∷ [] }

abbrev pub old_friend : End ℕ
old_friend = record { mine = 2; known = 2; taken = 1; acked = 0; kept = 7 ∷ []; owed = true; met = true }

-- the packet to the newcomer is of that incarnation of the other node, or of one before
abbrev pub parted_by : ℕ → Pair ℕ
parted_by inc = record { left = record { end = newcomer; link = from 2 2 2 0 6 ∷ [] }; right = record { end = old_friend; link = from inc 0 0 0 0 ∷ [] } }

-- both at rest, with so many handed up and acknowledged
abbrev pub reunited : ℕ → Pair ℕ
reunited count = record {
  left = record { end = record (fresh 3) { known = 2; acked = count; met = true }; link = [] };
  right = record { end = record (fresh 2) { known = 3; taken = count; met = true }; link = [] };
}

-- the slowest that was seen of plain passes: seven
abbrev pub slow : Pair ℕ
slow = record {
  left = record { end = record { mine = 2; known = 2; taken = 0; acked = 0; kept = []; owed = false; met = false }; link = [] };
  right = record { end = record { mine = 2; known = 1; taken = 0; acked = 1; kept = []; owed = false; met = true }; link = [] };
}

abbrev pub slow_at_rest : Pair ℕ
slow_at_rest = record {
  left = record { end = record { mine = 2; known = 2; taken = 0; acked = 0; kept = []; owed = false; met = true }; link = [] };
  right = record { end = record { mine = 2; known = 2; taken = 0; acked = 0; kept = []; owed = false; met = true }; link = [] };
}
