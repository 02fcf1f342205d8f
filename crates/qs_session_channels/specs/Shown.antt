-- How the network of packets runs as channels.
use Rattle.std.specs.Prelude.{◌≡◌, ◌≢◌, ℕ, ◌+◌, ◌==◌, ◌<◌, ◌≤◌, Bool, true, false, List, [], ◌∷◌, ◌++◌, length, drop, Option, Some, None, slice_get, if◌then◌else◌}
use Rattle.qs_session_channels.specs.End.{End, Packet, Answer, OldPeer, NewPeer, OldSelf, Hello, Repeat, Early, Message}
use Rattle.qs_session_channels.specs.Network.{Network, Event, Send, Tick, Receive, Crash, Restart, Among, stepped}
use Rattle.qs_session_channels.specs.Channels
use Rattle.qs_session_channels.specs.Channels.{Channels, Move, Wait, Post, Meet, Notice, Hand, MovesOn}

-- the moves of what a packet is answered at n, from m
abbrev pub answer_moves : {M : Type 0} → ℕ → ℕ → Answer M → List (Move M)
answer_moves n m (OldPeer known got) = []
answer_moves n m (NewPeer old new) = (if old == 0 then Meet n m new else Notice n m new) ∷ []
answer_moves n m (OldSelf mine got) = []
answer_moves n m Hello = []
answer_moves n m (Repeat number) = []
answer_moves n m (Early number expected) = []
answer_moves n m (Message x) = Hand n m x ∷ []

-- the moves of an event
abbrev pub moves : {M : Type 0} → Event M → Network M → List (Move M)
moves (Send n m x stamp) w = (if (w.end n m).known == 0 then Wait n m x else Post n m x) ∷ []
moves (Tick n m stamp) w = []
moves (Receive n m p a) w = answer_moves n m a
moves (Crash n) w = Channels.Crash n ∷ []
moves (Restart n i) w = Channels.Restart n i ∷ []

-- the end of n for m, while n runs
pub record Own {M : Type 0} (w : Network M) (c : Channels M) (n m : ℕ) : Type 0 where
  pub born : 1 ≤ w.inc n
  pub mine : (w.end n m).mine ≡ w.inc n
  pub peer : c.peer n m ≡ (w.end n m).known
  pub there : (w.end n m).known ≤ w.inc m  -- it knows no later incarnation than there is
  pub waits : (w.end n m).known ≡ 0 → c.waits n m ≡ (w.end n m).kept
  pub none_acked : (w.end n m).known ≡ 0 → (w.end n m).acked ≡ 0
  pub kept : (w.end n m).known ≢ 0 → (w.end n m).kept ≡ drop (w.end n m).acked (c.posted n m (w.inc n) (w.end n m).known)  -- it keeps what it posted, without what is acknowledged
  pub acked : (w.end n m).known ≢ 0 → (w.end n m).acked ≤ length (c.handed n m (w.inc n) (w.end n m).known)  -- what is acknowledged was handed up
  pub taken : (w.end n m).known ≢ 0 → (w.end n m).taken ≡ length (c.handed m n (w.end n m).known (w.inc n))
  pub unposted : (j : ℕ) → (w.end n m).known < j → c.posted n m (w.inc n) j ≡ []  -- nothing was posted for a later incarnation
  pub unhanded : (i : ℕ) → (w.end n m).known < i → c.handed m n i (w.inc n) ≡ []  -- and nothing of one was handed up

-- a packet from n to m
pub record Good {M : Type 0} (inc : ℕ → ℕ) (posted handed : ℕ → ℕ → ℕ → ℕ → List M) (n m : ℕ) (p : Packet M) : Type 0 where
  pub born : 1 ≤ p.inc
  pub from : p.inc ≤ inc n
  pub number : (k : ℕ) → p.number ≡ k + 1 → slice_get (posted n m p.inc p.to_inc) k ≡ Some p.message  -- it carries the message of its number
  pub ack : p.to_inc ≢ 0 → p.ack ≤ length (handed m n p.to_inc p.inc)  -- and acknowledges what was handed up

-- the channels from n to m
pub record Between {M : Type 0} (inc : ℕ → ℕ) (posted handed : ℕ → ℕ → ℕ → ℕ → List M) (n m : ℕ) : Type 0 where
  pub prefix : (i j : ℕ) → posted n m i j ≡ handed n m i j ++ drop (length (handed n m i j)) (posted n m i j)  -- what was handed up is a prefix of what was posted
  pub later : (i j : ℕ) → inc n < i → posted n m i j ≡ []
  pub later_peer : (i j : ℕ) → inc m < j → handed n m i j ≡ []

-- the channels show the network
pub record Shows {M : Type 0} (w : Network M) (c : Channels M) : Type 0 where
  pub inc : c.inc ≡ w.inc
  pub up : c.up ≡ w.up
  pub own : (n m : ℕ) → w.up n ≡ true → Own w c n m
  pub packets : (n m : ℕ) (p : Packet M) → Among (w.packets n m) p → Good w.inc c.posted c.handed n m p
  pub between : (n m : ℕ) → Between w.inc c.posted c.handed n m

-- the moves of a run
abbrev pub run_moves : {M : Type 0} → M → List (Event M) → Network M → List (Move M)
run_moves hello [] w = []
run_moves hello (e ∷ es) w = moves e w ++ run_moves hello es (stepped hello e w)

-- an event of the network is its moves
abbrev pub Goes : {M : Type 0} → M → Event M → Network M → Channels M → Type 0
Goes {M} hello e w c = (d : Channels M) × MovesOn c (moves e w) d × Shows (stepped hello e w) d
