-- What a run leaves of two ends that run, and which of their incarnations began last.
use Rattle.std.specs.Prelude.{◌≡◌, ◌≤◌, ◌<◌, ◌⊎◌, ℕ, ◌==◌, true, List, [], ◌∷◌, ⊤, if◌then◌else◌}
use Rattle.qs_session_channels.specs.End.{End, Packet}
use Rattle.qs_session_settling.specs.Pairs.{Pair, swapped}

-- a packet on the link between two ends, whichever incarnations it was sent by and to
pub record IsOld {M : Type 0} (from to : End M) (p : Packet M) : Type 0 where
  pub by : p.inc ≤ from.mine
  pub for : p.to_inc ≤ to.mine
  pub here : p.inc ≡ from.mine → p.to_inc ≤ from.known  -- an incarnation names none that it does not know
  pub ack : p.inc ≡ from.mine → p.to_inc ≡ to.mine → p.ack ≤ from.taken  -- and acknowledges what it handed up

abbrev pub AreOld : {M : Type 0} → End M → End M → List (Packet M) → Type 0
AreOld from to [] = ⊤
AreOld from to (p ∷ ps) = IsOld from to p × AreOld from to ps

-- how many messages of the one's incarnation the other has handed up
abbrev pub handed_up : {M : Type 0} → End M → End M → ℕ
handed_up from to = if to.known == from.mine then to.taken else 0

-- an end, the other end, and the link from the one to the other
pub record IsConsistentSide {M : Type 0} (one other : End M) (link : List (Packet M)) : Type 0 where
  pub some : 1 ≤ one.mine
  pub knows : one.known ≤ other.mine  -- it knows no later incarnation than there is
  pub old : AreOld one other link
  pub met : one.met ≡ true → one.known ≡ other.mine → other.known ≡ one.mine  -- whoever was met knows who met it
  pub acked : one.known ≡ other.mine → one.acked ≤ handed_up one other  -- what is acknowledged was handed up

pub record IsConsistent {M : Type 0} (pair : Pair M) : Type 0 where
  pub left : IsConsistentSide pair.left.end pair.right.end pair.left.link
  pub right : IsConsistentSide pair.right.end pair.left.end pair.right.link

-- ---- the left end's incarnation began last: no dead incarnation of the right one can have named it

abbrev pub AreBefore : {M : Type 0} → End M → End M → List (Packet M) → Type 0
AreBefore left right [] = ⊤
AreBefore left right (p ∷ ps) = (p.inc < right.mine → p.to_inc < left.mine) × AreBefore left right ps

pub record RoseLast {M : Type 0} (pair : Pair M) : Type 0 where
  pub packets : AreBefore pair.left.end pair.right.end pair.right.link
  pub met : pair.left.end.met ≡ true → pair.left.end.known ≡ pair.right.end.mine

-- one of the two began last
abbrev pub OneRoseLast : {M : Type 0} → Pair M → Type 0
OneRoseLast pair = RoseLast pair ⊎ RoseLast (swapped pair)
