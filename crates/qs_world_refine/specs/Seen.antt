-- What is seen of a transaction after each event of the agreement machine.
use Rattle.std.specs.Prelude.{◌≡◌, ◌≢◌, ℕ, ◌+◌, ◌<◌, ◌≤◌, ◌==◌, ◌&&◌, ◌||◌, max, Bool, true, false, List, [], ◌∷◌, ◌++◌, if◌then◌else◌}
use Rattle.qs_base.specs.declared.identifiers.NodeNo.{NodeNo}
use Rattle.qs_base.specs.declared.identifiers.Tid.{Tid}
use Rattle.qs_ops.specs.declared.operation.Op.{Op}
use Rattle.qs_record.specs.declared.record.Record.TheVariants as records
use Rattle.qs_restart.specs.Recovery.{Recovery, found_record}
use Rattle.qs_world_agree.specs.World.{World, Open, Committed, with_at}
use Rattle.qs_world_agree.specs.Guards.{Votes}
use Rattle.qs_world_agree.specs.Carry.{Leads}
use Rattle.qs_world_refine.specs.Faces.{Face, blank_face}
use Rattle.qs_world_refine.specs.Places.{place}
use Rattle.qs_world_refine.specs.Links.{Said, Requested, Closed, Outcome_told}
use Rattle.qs_world_refine.specs.Sights.{Sight, ShowsSight, server_no, with_at4}

-- ---- a face

-- a request was taken in
abbrev pub took_in : Face → ℕ → ℕ → ℕ → Face
took_in f m number s = record f { last = with_at f.last m number; waits = with_at f.waits s (f.waits s + 1) }

abbrev pub engaged_by : Face → ℕ → Face
engaged_by f m = record f { on = true; superior = m }

-- one request that waits was served
abbrev pub served_one : Face → ℕ → ℕ → Face
served_one f s left = record f { waits = with_at f.waits s left; uncast = with_at f.uncast s (f.uncast s + 1) }

-- one request that waits was to lend to a client, of which no votes are counted
abbrev pub lent_one : Face → ℕ → ℕ → Face
lent_one f s left = record f { waits = with_at f.waits s left; loans = f.loans + 1 }

-- a Covered or VotedYes was counted
abbrev pub counted : Face → ℕ → ℕ → (ℕ → Bool) → Face
counted f m number told = record f { covered = with_at f.covered m (max (f.covered m) number); told = λ n. if f.told n then true else told n }

-- all that came to it was served and voted for, and all that it sent is covered
pub record FaceReady (f : Face) (q : ℕ) (w : World) : Type 0 where
  pub on : f.on ≡ true
  pub asked : f.asked ≡ true
  pub undecided : f.outcome ≡ Open
  pub free : f.blocked ≡ false
  pub loans : f.loans ≡ 0
  pub waits : (s : ℕ) → f.waits s ≡ 0
  pub voted : (s : ℕ) → Votes w q s → f.uncast s ≡ 0
  pub covered : (m : ℕ) → f.sent m ≤ f.covered m

-- the vote of a server is due there
pub record MayVote (f : Face) (s : ℕ) : Type 0 where
  pub undecided : f.outcome ≡ Open
  pub asked : f.asked ≡ true
  pub idle : (r : ℕ) → f.waits r ≡ 0
  pub unlent : f.loans ≡ 0
  pub due : 1 ≤ f.uncast s

-- ---- all that is seen

-- node n has that face
abbrev pub sight_faced : Sight → ℕ → Face → Sight
sight_faced x n f = record x { face = λ k. if k == n then f else x.face k }

-- and a message was put behind all others to node m
abbrev pub sight_said : Sight → ℕ → ℕ → ℕ → Face → Said → Sight
sight_said x n m i f what = record x { face = λ k. if k == n then f else x.face k; said = with_at4 x.said n (x.inc n) m i (x.said n (x.inc n) m i ++ what ∷ []) }

-- it learnt commit, and its log says that
abbrev pub sight_learnt : Sight → ℕ → Recovery → Sight
sight_learnt x n found = record x { face = λ k. if k == n then record (x.face n) { outcome = Committed } else x.face k; found = λ k. if k == n then found else x.found k }

-- and what came first from node m was handed up
abbrev pub sight_taken : Sight → ℕ → ℕ → ℕ → Face → List Said → Sight
sight_taken x n m i f rest = record x { face = λ k. if k == n then f else x.face k; said = with_at4 x.said m i n (x.inc n) rest }

-- a request of node m was taken in, which gave node n its superior
abbrev pub sight_engaged : Sight → ℕ → ℕ → ℕ → ℕ → ℕ → List Said → Sight
sight_engaged x n m i number s rest = record x {
  face = λ k. if k == n then took_in (engaged_by (x.face n) m) m number s else x.face k;
  said = with_at4 x.said m i n (x.inc n) rest;
}

-- one was taken in and is covered at once
abbrev pub sight_covered : Sight → ℕ → ℕ → ℕ → ℕ → ℕ → List Said → Sight
sight_covered x n m i number s rest = record x {
  face = λ k. if k == n then took_in (x.face n) m number s else x.face k;
  said = with_at4 (with_at4 x.said m i n (x.inc n) rest) n (x.inc n) m i (x.said n (x.inc n) m i ++ Closed number [] ∷ []);
}

-- one was dropped, and is covered at once
abbrev pub sight_returned : Sight → ℕ → ℕ → ℕ → ℕ → Face → List Said → Sight
sight_returned x n m i number f rest = record x {
  face = λ k. if k == n then f else x.face k;
  said = with_at4 (with_at4 x.said m i n (x.inc n) rest) n (x.inc n) m i (x.said n (x.inc n) m i ++ Closed number [] ∷ []);
}

-- a request is on its way
abbrev pub sight_issued : Sight → ℕ → ℕ → ℕ → ℕ → Sight
sight_issued x n m i s = record x {
  face = λ k. if k == n then record (x.face n) { sent = with_at (x.face n).sent m ((x.face n).sent m + 1); involved = true } else x.face k;
  said = with_at4 x.said n (x.inc n) m i (x.said n (x.inc n) m i ++ Requested ((x.face n).sent m + 1) s ∷ []);
}

-- the message is gone, and its number and names stand in the face
abbrev pub sight_counted : Sight → ℕ → ℕ → ℕ → ℕ → (ℕ → Bool) → List Said → Sight
sight_counted x n m i number told rest = record x {
  face = λ k. if k == n then counted (x.face n) m number told else x.face k;
  said = with_at4 x.said m i n (x.inc n) rest;
}

-- a Prepare stands in the log of the node, and its server voted
abbrev pub sight_prepared : Tid → Sight → ℕ → ℕ → ℕ → List Op → Sight
sight_prepared tid x n s covers changes = record x {
  face = λ k. if k == n then record (x.face n) { uncast = with_at (x.face n).uncast s 0; involved = true } else x.face k;
  found = λ k. if k == n then found_record (x.found n) (records.Prepare tid (server_no s) covers changes) else x.found k;
}

-- the superior was answered
abbrev pub sight_agreed : Sight → ℕ → ℕ → ℕ → List NodeNo → Sight
sight_agreed x n m i told = record x {
  face = λ k. if k == n then record (x.face n) { on = false; superior = 0 } else x.face k;
  said = with_at4 x.said n (x.inc n) m i (x.said n (x.inc n) m i ++ Closed ((x.face n).last m) told ∷ []);
}

-- the home's Commit stands in its log
abbrev pub sight_committed : Tid → Sight → List NodeNo → Sight
sight_committed tid x told = record x {
  face = λ k. if k == tid.home.0 then record (x.face tid.home.0) { on = false; outcome = Committed } else x.face k;
  found = λ k. if k == tid.home.0 then found_record (x.found tid.home.0) (records.Commit tid told) else x.found k;
}

-- a node was told commit
abbrev pub sight_told : Sight → ℕ → ℕ → ℕ → Sight
sight_told x n m i = record x {
  face = λ k. if k == n then x.face n else x.face k;
  said = with_at4 x.said n (x.inc n) m i (x.said n (x.inc n) m i ++ Outcome_told true ∷ []);
}

-- another node was found to have restarted
abbrev pub sight_noticed : Sight → ℕ → ℕ → ℕ → Bool → Sight
sight_noticed x n m new blocked = record x {
  knows = λ a b. if (a == n) && (b == m) then new else x.knows a b;
  face = λ k. if k == n then record (x.face n) { last = with_at (x.face n).last m 0; blocked = blocked } else x.face k;
}

-- a node began an incarnation that knows nothing
abbrev pub sight_risen : Sight → ℕ → ℕ → Sight
sight_risen x n new = record x {
  inc = λ k. if k == n then new else x.inc k;
  up = λ k. if k == n then true else x.up k;
  knows = λ k m. if k == n then 0 else x.knows k m;
  face = λ k. if k == n then blank_face else x.face k;
  said = λ a k b l. if ((a == n) && (k == new)) || ((b == n) && (l == new)) then [] else x.said a k b l;
  unmet = λ a b. if a == n then [] else x.unmet a b;
}

-- ---- where an event happens

-- at a node that runs
pub record Runs (x : Sight) (n : ℕ) : Type 0 where
  pub in_run : n < x.size
  pub up : x.up n ≡ true

-- which knows another one in that incarnation
pub record Meets (x : Sight) (n m i : ℕ) : Type 0 where
  pub in_run : m < x.size
  pub other : m ≢ n
  pub knows : x.knows n m ≡ i
  pub some : 1 ≤ i

-- the machine goes on to a world that shows it
pub record SightGoes (tid : Tid) (y : Sight) (w : World) : Type 0 where
  pub next : World
  pub leads : Leads w next
  pub shown : ShowsSight tid y next

-- and a Told on commit of the place may go
pub record AckGoes (tid : Tid) (y : Sight) (w : World) (q : ℕ) : Type 0 where
  pub next : World
  pub leads : Leads w next
  pub shown : ShowsSight tid y next
  pub acks : next.ack_put q ≡ true

-- whom a node drew in: those of its told set, and those that it sent a request
abbrev pub drew : Face → ℕ → Bool
drew f k = if f.told k then true else (if f.sent k == 0 then false else true)

-- and the place names all whom it drew in, the home left out
pub record NamedGoes (tid : Tid) (x y : Sight) (w : World) (n : ℕ) : Type 0 where
  pub next : World
  pub leads : Leads w next
  pub shown : ShowsSight tid y next
  pub named : (k : ℕ) → k ≢ tid.home.0 → drew (x.face n) k ≡ true → next.named (place n (x.inc n)) k ≡ true
