-- The laws of what is on record at nodes that run, and of what their last votes cover: it is so as a run begins, each move keeps it, and so the votes of a step are fresh and cover more.
use Rattle.std.specs.Prelude.{◌≡◌, ℕ, true, ◌++◌, Some, slice_get}
use Rattle.qs_book_machine.specs.Lawful.{IsLawful}
use Rattle.qs_book_machine.specs.Nodes as machine
use Rattle.qs_restart.specs.Recovery.{recovery}
use Rattle.qs_node_step.specs.Step.{effects_of}
use Rattle.qs_node_step.specs.declared.event.Event.{Event}
use Rattle.qs_world.specs.Histories.{book_of}
use Rattle.qs_world.specs.Moves.{Move, Source, may_move, moved}
use Rattle.qs_world.specs.World.{Opening, World}
use Rattle.qs_world_lawful.specs.Logs.{Every}
use Rattle.qs_world_runs.specs.Agrees.{MakesStep}
use Rattle.qs_world_runs.specs.CoversAhead.{HoldsCovers, IsBeyondVote}
use Rattle.qs_world_runs.specs.Joined.{Joined, book_in}
use Rattle.qs_world_runs.specs.JoinedLaws.{Opens, entries_in}
use Rattle.qs_world_runs.specs.OnRecord.{HoldsRecords, IsFreshVote}

-- ---- what is on record is known

abbrev pub RecordsAt : Opening → World → Type 0
RecordsAt o world = HoldsRecords (book_in o world) world

abbrev pub OpensRecords : Type 0
OpensRecords = Opens RecordsAt

abbrev pub MovesKeepRecords : (Opening → World → Type 0) → Type 0
MovesKeepRecords P = (o : Opening) (world : World) (move : Move) → Joined P o world → RecordsAt o world → may_move world move ≡ true → IsLawful (book_of o) (moved move world).journal → RecordsAt o (moved move world)

abbrev pub VotesAreFresh : (Opening → World → Type 0) → Type 0
VotesAreFresh P = (o : Opening) (world : World) (n stamp free : ℕ) (source : Source) (event : Event) → Joined P o world → RecordsAt o world → MakesStep world n stamp source event
    → IsLawful (book_in o world) (entries_in world n stamp free event) → (state : machine.NodeValue) → slice_get (book_in o world).nodes n ≡ Some state
    → Every (IsFreshVote (book_in o world) state (recovery ((world.hosts n).log ++ (world.hosts n).waiting))) (effects_of (world.hosts n).node event free).records

-- ---- last votes cover what logs say in doubt

abbrev pub CoversAt : Opening → World → Type 0
CoversAt o world = HoldsCovers world

abbrev pub OpensCovers : Type 0
OpensCovers = Opens CoversAt

abbrev pub MovesKeepCovers : (Opening → World → Type 0) → Type 0
MovesKeepCovers P = (o : Opening) (world : World) (move : Move) → Joined P o world → CoversAt o world → may_move world move ≡ true → IsLawful (book_of o) (moved move world).journal → CoversAt o (moved move world)

abbrev pub VotesAreBeyond : (Opening → World → Type 0) → Type 0
VotesAreBeyond P = (o : Opening) (world : World) (n stamp free : ℕ) (source : Source) (event : Event) → Joined P o world → CoversAt o world → MakesStep world n stamp source event
    → IsLawful (book_in o world) (entries_in world n stamp free event) → (state : machine.NodeValue) → slice_get (book_in o world).nodes n ≡ Some state
    → Every (IsBeyondVote state (recovery ((world.hosts n).log ++ (world.hosts n).waiting))) (effects_of (world.hosts n).node event free).records
