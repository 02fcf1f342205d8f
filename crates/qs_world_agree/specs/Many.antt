-- Many transactions over the same nodes.
use Rattle.std.specs.Prelude.{◌≡◌, ℕ, Bool, true, false}
use Rattle.qs_world_agree.specs.World.{Class, World, Opening, IsOpening, start, with_at}
use Rattle.qs_world_agree.specs.Step.{Event, Step}
use Rattle.qs_world_agree.specs.Carry.{Leads}

pub record Many : Type 0 where
  pub node : ℕ → ℕ  -- the node of a place
  pub class : ℕ → ℕ → Class  -- the class of a node's server
  pub present : ℕ → ℕ  -- the present place of a node
  pub up : ℕ → Bool  -- whether a place runs
  pub peer : ℕ → ℕ → ℕ  -- the place of a node that a place knows
  pub began : ℕ → Bool  -- whether a transaction has begun
  pub of : ℕ → World  -- and all that is held of it

pub data Act : Type 0 where
  Begin : ℕ → ℕ → Act  -- transaction t begins at place h
  Own : ℕ → Event → Act  -- an event of transaction t alone
  Common : Act  -- a crash, a restart, a meeting or the notice of a restart: events of each transaction

-- where a transaction begins, with the sessions and incarnations as they are
abbrev pub opening : Many → ℕ → Opening
opening m h = record { node = m.node; class = m.class; home = h; present = m.present; up = m.up; peer = m.peer }

-- a transaction sees the incarnations and sessions that there are
pub record IsShared (m : Many) (w : World) : Type 0 where
  pub node : w.node ≡ m.node
  pub class : w.class ≡ m.class
  pub present : w.present ≡ m.present
  pub up : w.up ≡ m.up
  pub peer : w.peer ≡ m.peer

abbrev pub Does : Act → Many → Many → Type 0
Does (Begin t h) old new =
    (old.began t ≡ false) × IsOpening (opening old h)
    × (new ≡ record old { began = with_at old.began t true; of = with_at old.of t (start (opening old h)) })
Does (Own t e) old new =
    (old.began t ≡ true)
    × ((w : World) × Step e (old.of t) w × IsShared old w × (new ≡ record old { of = with_at old.of t w }))
Does Common old new = (new.began ≡ old.began) × ((t : ℕ) → old.began t ≡ true → Leads (old.of t) (new.of t) × IsShared new (new.of t))

abbrev pub unbegun : ℕ → Many → Type 0
unbegun t m = m.began t ≡ false

-- the world of the machine that shows a transaction
abbrev pub Shows : ℕ → Many → World → Type 0
Shows t m w = (m.began t ≡ true) × (m.of t ≡ w)
