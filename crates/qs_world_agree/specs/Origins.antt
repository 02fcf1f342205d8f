-- Where a run of the machine begins: as its transaction begins, or over logs that an earlier run left, in which nothing else is known of it.
--
-- A transaction of an earlier run goes on with what its logs say: it is in doubt at other nodes, asked about, told, and ended. Its home's
-- place is dead, so it was decided: it is committed where the home's log has the Commit, and else aborted, as by the restart of the home.
use Rattle.std.specs.Prelude.{◌≡◌, ℕ, ◌==◌, ◌<◌, ◌≤◌, Bool, true, false, if◌then◌else◌}
use Rattle.qs_world_agree.specs.World.{Outcome, Open, Committed, Aborted, Class, Nobody, InSet, World, Opening, IsOpening, start}

-- what is found of a transaction of an earlier run
pub record Reopening : Type 0 where
  pub node : ℕ → ℕ
  pub class : ℕ → ℕ → Class
  pub home : ℕ
  pub present : ℕ → ℕ
  pub up : ℕ → Bool
  pub peer : ℕ → ℕ → ℕ
  pub prepared : ℕ → ℕ → Bool  -- a server's Prepare in a node's log that is in doubt
  pub doubts : ℕ → Bool  -- a node's log has one
  pub committed : Bool  -- the home's log holds the Commit
  pub unended : Bool  -- and no End behind it
  pub list : ℕ → Bool  -- the nodes that the Commit names

-- the home's node has restarted; the logs stand together: where the Commit is, the home's node is not in doubt, and any other that is, is named by it
pub record IsReopening (o : Reopening) : Type 0 where
  pub home_past : o.home < o.present (o.node o.home)
  pub up_present : (p : ℕ) → o.up p ≡ true → o.present (o.node p) ≡ p
  pub peer_node : (p m : ℕ) → 1 ≤ o.peer p m → o.node (o.peer p m) ≡ m
  pub peer_present : (p m : ℕ) → o.peer p m ≤ o.present m
  pub in_doubt : (n s : ℕ) → o.prepared n s ≡ true → o.doubts n ≡ true
  pub stands : o.unended ≡ true → o.committed ≡ true
  pub home_clear : o.committed ≡ true → o.doubts (o.node o.home) ≡ false
  pub listed : (n : ℕ) → o.committed ≡ true → o.doubts n ≡ true → (o.unended ≡ true) × (o.list n ≡ true)

-- what the running place of the home's node makes of its log: it knows the Commit, or has aborted what it has in doubt
abbrev pub found_at_home : Reopening → Outcome
found_at_home o = if o.committed then Committed else (if o.doubts (o.node o.home) then Aborted else Open)

-- nothing has come or gone in this run, and nobody is engaged
abbrev pub reopened : Reopening → World
reopened o = record (start (record { node = o.node; class = o.class; home = o.home; present = o.present; up = o.up; peer = o.peer })) {
  engaged = λ p. false;
  involved = λ p. if o.up p then o.doubts (o.node p) else false;
  outcome = λ p. if o.up p then (if o.node p == o.node o.home then found_at_home o else Open) else Open;
  prepared = o.prepared;
  commit_logged = o.committed;
  unended = o.unended;
  commit_list = o.list;
  cell = if o.committed then Committed else Aborted;
  way = λ n. if o.doubts n then InSet else Nobody;
}

-- ---- either of them

pub data Origin : Type 0 where
  Begun : Opening → Origin  -- the transaction begins
  Found : Reopening → Origin  -- logs have it

abbrev pub IsOrigin : Origin → Type 0
IsOrigin (Begun o) = IsOpening o
IsOrigin (Found o) = IsReopening o

abbrev pub first : Origin → World
first (Begun o) = start o
first (Found o) = reopened o
