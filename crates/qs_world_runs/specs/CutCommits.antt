-- What the log of a node says once a step of it is cut off with its batch kept, of what the machine had before the step.
use Rattle.std.specs.Prelude.{◌≡◌, ℕ, true}
use Rattle.qs_book_journal.specs.declared.entry.CrashCause.{CrashCause}
use Rattle.qs_book_machine.specs.Book.{BookValue}
use Rattle.qs_book_machine.specs.Nodes as machine
use Rattle.qs_restart.specs.Recovery.{Prepared, Recovery, recovery}
use Rattle.qs_node_step.specs.Step.{effects_of}
use Rattle.qs_node_step.specs.declared.event.Event.{Event}
use Rattle.qs_world.specs.Moves.{Cut, Source, log_after, may_move, moved}
use Rattle.qs_world.specs.World.{Opening, World}
use Rattle.qs_world_lawful.specs.Logged.{IsMarked}
use Rattle.qs_world_lawful.specs.Logs.{Every, IsCommitLogged}
use Rattle.qs_world_lawful.specs.Said.{IsApart, IsUndone}
use Rattle.qs_world_lawful.specs.WorldLaws.{StopsWell}
use Rattle.qs_world_runs.specs.Agrees.{MakesStep}
use Rattle.qs_world_runs.specs.Joined.{Joined, book_in}

-- the machine has what it has committed, or its home was to decide it and it is unanimous
abbrev pub EachKeepsCommits : (Opening → World → Type 0) → Type 0
EachKeepsCommits P = (o : Opening) (world : World) (n stamp free : ℕ) (source : Source) (event : Event) → Joined P o world → MakesStep world n stamp source event
    → (state : machine.NodeValue) → Every (IsCommitLogged n (book_in o world) state) (recovery (log_after (world.hosts n) (effects_of (world.hosts n).node event free))).committed

-- each vote is of a member that keeps its votes in a log; where a Commit stands behind it it is among the Commits, and otherwise none stands before it; and what is in doubt at its home is not committed
pub record KeptVotes (n : ℕ) (book : BookValue) (log : Recovery) : Type 0 where
  pub kinds : Every (λ (vote : Prepared). machine.is_recoverable vote.server.0 ≡ true) log.prepared
  pub marked : Every (IsMarked log) log.prepared
  pub apart : Every (IsApart log) log.prepared
  pub undone : Every (IsUndone n book) log.prepared

abbrev pub EachKeepsVotes : (Opening → World → Type 0) → Type 0
EachKeepsVotes P = (o : Opening) (world : World) (n stamp free : ℕ) (source : Source) (event : Event) → Joined P o world → MakesStep world n stamp source event
    → KeptVotes n (book_in o world) (recovery (log_after (world.hosts n) (effects_of (world.hosts n).node event free)))

-- a step is cut off with its batch kept: the crash is lawful, and the machine after it has the world after it, as where the batch is lost
abbrev pub EachKeepsItsBatch : (Opening → World → Type 0) → Type 0
EachKeepsItsBatch P = (o : Opening) (world : World) (n stamp free : ℕ) (source : Source) (cause : CrashCause) → Joined P o world → may_move world (Cut n stamp free source true cause) ≡ true
    → StopsWell (book_in o world) (moved (Cut n stamp free source true cause) world) n stamp cause
