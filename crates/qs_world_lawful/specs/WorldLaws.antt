-- The laws of moves of the world: from what the machine has of the world, a move's entries are lawful, and the machine after them has
-- the world after it.
use Rattle.std.specs.Prelude.{◌≡◌, ℕ, ◌==◌, true, false, [], ◌∷◌}
use Rattle.qs_book_journal.specs.declared.entry.Act.TheVariants as acts
use Rattle.qs_book_journal.specs.declared.entry.CrashCause.{CrashCause}
use Rattle.qs_book_journal.specs.declared.entry.Entry.{Entry}
use Rattle.qs_book_machine.specs.Book.{BookValue}
use Rattle.qs_book_machine.specs.Lawful.{IsLawful, book_after}
use Rattle.qs_restart.specs.Recovery.{recovery}
use Rattle.qs_world.specs.Moves.{Cut, Meet, Rise, Source, Stop, may_move, moved}
use Rattle.qs_world.specs.Posting.{entry_of}
use Rattle.qs_world.specs.Histories.{book_of}
use Rattle.qs_world.specs.Openings.{IsOpening}
use Rattle.qs_world.specs.World.{Opening, World, start}
use Rattle.qs_node_step.specs.State.{NodeValue}
use Rattle.qs_world_lawful.specs.Holds.{HoldsStill}
use Rattle.qs_world_lawful.specs.Lasting.{Lasts}
use Rattle.qs_world_lawful.specs.Logs.{found_votes}
use Rattle.qs_world_lawful.specs.Worlds.{HoldsWorld}

-- the entry of a node's restart, with what its log says
abbrev pub rise_entry : World → ℕ → ℕ → ℕ → Entry
rise_entry world n stamp inc = entry_of n stamp (acts.Restart inc (found_votes (recovery (world.hosts n).log)) (recovery (world.hosts n).log).committed)

-- a node that is down restarts: its entry is lawful, and the machine after it has the world after it, with the node that begins and its log
pub record RisesWell (book : BookValue) (world : World) (n stamp inc : ℕ) : Type 0 where
  pub lawful : IsLawful book (rise_entry world n stamp inc ∷ [])
  pub holds : HoldsWorld (book_after book (rise_entry world n stamp inc ∷ [])) (moved (Rise n stamp inc) world)

abbrev pub EachRises : Type 0
EachRises = (book : BookValue) (world : World) (n stamp inc : ℕ) → Lasts book → HoldsWorld book world → may_move world (Rise n stamp inc) ≡ true → RisesWell book world n stamp inc

-- and what the machine has of every other node that runs it has then too
abbrev pub EachRiseKeepsOthers : Type 0
EachRiseKeepsOthers = (book : BookValue) (world : World) (n stamp inc : ℕ) → Lasts book → HoldsWorld book world → may_move world (Rise n stamp inc) ≡ true
    → (k : ℕ) (node : NodeValue) → (k == n) ≡ false → node.setting.node.0 ≡ k → HoldsStill book node → HoldsStill (book_after book (rise_entry world n stamp inc ∷ [])) node

-- a node gets to know a first incarnation of another: nothing is entered, and the machine has the world as before
abbrev pub EachMeets : Type 0
EachMeets = (book : BookValue) (world : World) (n stamp m inc : ℕ) → HoldsWorld book world → may_move world (Meet n stamp m inc) ≡ true → HoldsWorld book (moved (Meet n stamp m inc) world)

-- a node stops: its entry is lawful, and the machine after it has the world after it
pub record StopsWell (book : BookValue) (after : World) (n stamp : ℕ) (cause : CrashCause) : Type 0 where
  pub lawful : IsLawful book (entry_of n stamp (acts.Crash cause) ∷ [])
  pub holds : HoldsWorld (book_after book (entry_of n stamp (acts.Crash cause) ∷ [])) after

-- in place of a step, or after one
abbrev pub EachStops : Type 0
EachStops = (book : BookValue) (world : World) (n stamp : ℕ) (cause : CrashCause) → Lasts book → HoldsWorld book world → may_move world (Stop n stamp cause) ≡ true → StopsWell book (moved (Stop n stamp cause) world) n stamp cause

-- in a step whose batch is lost
abbrev pub EachLosesItsBatch : Type 0
EachLosesItsBatch = (book : BookValue) (world : World) (n stamp free : ℕ) (source : Source) (cause : CrashCause) → Lasts book → HoldsWorld book world → may_move world (Cut n stamp free source false cause) ≡ true → StopsWell book (moved (Cut n stamp free source false cause) world) n stamp cause

-- as a run begins the machine has the world that begins, over old logs too
abbrev pub EachOpensHeld : Type 0
EachOpensHeld = (o : Opening) → IsOpening o → HoldsWorld (book_of o) (start o)
