-- Steps over two nodes of a network are events of it; and at rest all that was posted between the two incarnations has been handed up.
use Rattle.std.specs.Prelude.{◌≡◌, ◌≢◌, ℕ, List}
use Rattle.qs_session_channels.specs.End.{Packet}
use Rattle.qs_session_channels.specs.Network.{Network, Event, Run, start}
use Rattle.qs_session_channels.specs.Channels.{Channels}
use Rattle.qs_session_channels.specs.Shown.{Shows}
use Rattle.qs_session_settling.specs.Pairs.{Pair, Step, after}
use Rattle.qs_session_settling.specs.Passes.{QuietPasses}
use Rattle.qs_session_settling.specs.Settled.{IsAtRest}
use Rattle.qs_session_settling.specs.Ran.{between, AreUp}

-- the network goes on until its two nodes are this pair
pub record GoesOn {M : Type 0} (hello : M) (w : Network M) (n m : ℕ) (pair : Pair M) : Type 0 where
  pub events : List (Event M)
  pub network : Network M
  pub runs : Run hello w events network
  pub are_up : AreUp network n m pair.left.link pair.right.link
  pub are_pair : between network n m pair.left.link pair.right.link ≡ pair

-- it does so in any steps over them
abbrev pub EachGoesOn : (M : Type 0) → Type 0
EachGoesOn M = (hello : M) (w : Network M) (n m : ℕ) → n ≢ m → (there back : List (Packet M)) → AreUp w n m there back → (steps : List (Step M)) → GoesOn hello w n m (after hello steps (between w n m there back))

-- all that the incarnation of n posted for that of m was handed up
abbrev pub IsDelivered : {M : Type 0} → Network M → Channels M → ℕ → ℕ → Type 0
IsDelivered w c n m = c.handed n m (w.inc n) (w.inc m) ≡ c.posted n m (w.inc n) (w.inc m)

abbrev pub AreDelivered : {M : Type 0} → Network M → Channels M → ℕ → ℕ → Type 0
AreDelivered w c n m = IsDelivered w c n m × IsDelivered w c m n

-- at rest it was, both ways
abbrev pub EachDelivers : (M : Type 0) → Type 0
EachDelivers M = (w : Network M) (c : Channels M) → Shows w c → (n m : ℕ) (there back : List (Packet M)) → AreUp w n m there back → IsAtRest (between w n m there back) → AreDelivered w c n m

-- so whatever a run left, eleven passes without a send are a run on, to a network in which it was
abbrev pub EachRunDelivers : (M : Type 0) → Type 0
EachRunDelivers M = (hello : M) (inc : ℕ → ℕ) (es : List (Event M)) (w : Network M) → Run hello (start inc) es w → (n m : ℕ) → n ≢ m → (there back : List (Packet M)) → AreUp w n m there back
    → (new : Pair M) → QuietPasses hello 11 (between w n m there back) new → (g : GoesOn hello w n m new) × ((c : Channels M) → Shows g.network c → AreDelivered g.network c n m)
