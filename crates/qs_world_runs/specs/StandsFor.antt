-- A log stands for what the machine has of its node, at each moment: a crash in place of a step or within one, with its batch lost or kept, and the restart behind it are lawful, and what the restart takes up is what the machine has.
use Rattle.std.specs.Prelude.{◌≡◌, ℕ, true, Some, slice_get}
use Rattle.qs_book_machine.specs.Lawful.{IsLawful}
use Rattle.qs_book_machine.specs.Nodes as machine
use Rattle.qs_restart.specs.Recovery.{recovery}
use Rattle.qs_world.specs.Histories.{book_of}
use Rattle.qs_world.specs.Moves.{Cut, Meet, Move, Rise, Step, Stop, may_move, moved}
use Rattle.qs_world.specs.World.{Opening, World, inc_of}
use Rattle.qs_world_lawful.specs.Logged.{HoldsLogged}
use Rattle.qs_world_lawful.specs.Said.{HoldsSaid}
use Rattle.qs_world_lawful.specs.Tables.{HoldsServers, is_seen}
use Rattle.qs_world_lawful.specs.Worlds.{HoldsKept}
use Rattle.qs_world_runs.specs.Joined.{Joined, book_in}

-- ---- a crash of a node

abbrev pub IsCrashOf : ℕ → Move → Type 0
IsCrashOf n (Cut m stamp free source is_kept cause) = m ≡ n
IsCrashOf n (Stop m stamp cause) = m ≡ n
IsCrashOf n (Step m stamp free source) = ⊥
IsCrashOf n (Rise m stamp inc) = ⊥
IsCrashOf n (Meet m stamp k inc) = ⊥

-- ---- a node that restarted

pub record IsRestored (o : Opening) (world : World) (n : ℕ) : Type 0 where
  pub lawful : IsLawful (book_of o) world.journal  -- the history, with the crash and the restart
  pub runs : world.channels.up n ≡ true
  pub state : machine.NodeValue
  pub there : slice_get (book_in o world).nodes n ≡ Some state
  pub servers : HoldsServers (is_seen (book_in o world) (world.hosts n).node.setting.node) state (world.hosts n).node.servers  -- contents and pending changes, but for what is crossed there
  pub said : HoldsSaid n (book_in o world) state (recovery (world.hosts n).log)  -- contents are what the log's Commits leave, and on record is what its Prepares have
  pub logged : HoldsLogged n (book_in o world) state (recovery (world.hosts n).log)  -- no vote that is on record is lost, unless it is decided; and what the log commits is committed
  pub kept : HoldsKept (world.hosts n).node.setting.node (inc_of world n) (book_in o world) (world.hosts n).node.kept.saved  -- and what is kept for its clients

-- ---- the law

pub record StandsFor (o : Opening) (world : World) (crash : Move) (n stamp inc : ℕ) : Type 0 where
  pub stopped : IsLawful (book_of o) (moved crash world).journal
  pub restored : IsRestored o (moved (Rise n stamp inc) (moved crash world)) n

abbrev pub EachLogStandsFor : (Opening → World → Type 0) → Type 0
EachLogStandsFor P = (o : Opening) (world : World) (crash : Move) (n stamp inc : ℕ) → Joined P o world → IsCrashOf n crash → may_move world crash ≡ true → may_move (moved crash world) (Rise n stamp inc) ≡ true
    → StandsFor o world crash n stamp inc
