-- The laws of a step, of clients and of what is on its way: the count of changes has room, what begins has an owner, who is answered has nothing in
-- hand at another node, scripts and ways go on, and what a node waits for stands.
use Rattle.std.specs.Prelude.{◌≡◌, ◌<◌, ℕ, ◌==◌, ◌++◌, false}
use Rattle.qs_book_machine.specs.Lawful.{IsLawful, book_after}
use Rattle.qs_node_step.specs.Settling.{due_tids, settle_tid}
use Rattle.qs_node_step.specs.Step.{after_step, effects_of}
use Rattle.qs_node_step.specs.declared.event.Event.{Event}
use Rattle.qs_world.specs.Moves.{Source, Step, moved}
use Rattle.qs_world.specs.Posting.{entries_of}
use Rattle.qs_world.specs.World.{Opening, World}
use Rattle.qs_world_walk.specs.Walked.{AtEach, done_work}
use Rattle.qs_world_lawful.specs.Aside.{AnswersElsewhere}
use Rattle.qs_world_lawful.specs.BesideStep.{HasCountRoom}
use Rattle.qs_world_lawful.specs.Logs.{Every}
use Rattle.qs_world_lawful.specs.Parcels.{HoldsWays}
use Rattle.qs_world_lawful.specs.Scripts.{HoldsScripts}
use Rattle.qs_world_runs.specs.Agrees.{MakesStep}
use Rattle.qs_world_runs.specs.Joined.{ClientsAt, Joined, book_in}
use Rattle.qs_world_runs.specs.JoinedLaws.{HasOwner}
use Rattle.qs_world_runs.specs.Labels.{AreOwned}
use Rattle.qs_world_runs.specs.Owing.{Owes}

abbrev pub InStep : (Opening → World → Type 0) → (Opening → World → ℕ → ℕ → ℕ → Source → Event → Type 0) → Type 0
InStep P X = (o : Opening) (world : World) (n stamp free : ℕ) (source : Source) (event : Event) → Joined P o world → MakesStep world n stamp source event → X o world n stamp free source event

-- where a vote pass is due, the count of changes has room
abbrev pub CountsHaveRoom : Opening → World → ℕ → ℕ → ℕ → Source → Event → Type 0
CountsHaveRoom o world n stamp free source event = AtEach HasCountRoom settle_tid (done_work (world.hosts n).node event free) (due_tids (done_work (world.hosts n).node event free))

abbrev pub BeginsOwned : Opening → World → ℕ → ℕ → ℕ → Source → Event → Type 0
BeginsOwned o world n stamp free source event = Every (HasOwner (book_in o world)) (effects_of (world.hosts n).node event free).entries

abbrev pub AnswersAside : Opening → World → ℕ → ℕ → ℕ → Source → Event → Type 0
AnswersAside o world n stamp free source event = (k : ℕ) → (k == n) ≡ false → k < world.size → Every (AnswersElsewhere (world.hosts k).node) (effects_of (world.hosts n).node event free).entries

abbrev pub KeepsClients : Opening → World → ℕ → ℕ → ℕ → Source → Event → Type 0
KeepsClients o world n stamp free source event = ClientsAt (moved (Step n stamp free source) world)

abbrev pub KeepsScripts : Opening → World → ℕ → ℕ → ℕ → Source → Event → Type 0
KeepsScripts o world n stamp free source event = HoldsScripts o (book_after (book_in o world) (entries_of n stamp (effects_of (world.hosts n).node event free).entries)) (moved (Step n stamp free source) world)

-- what its node waits for of others stands in the history
abbrev pub KeepsOwing : Opening → World → ℕ → ℕ → ℕ → Source → Event → Type 0
KeepsOwing o world n stamp free source event = Owes (after_step (world.hosts n).node event free) (world.journal ++ entries_of n stamp (effects_of (world.hosts n).node event free).entries)

-- where its entries are lawful
abbrev pub KeepsWays : Opening → World → ℕ → ℕ → ℕ → Source → Event → Type 0
KeepsWays o world n stamp free source event = IsLawful (book_in o world) (entries_of n stamp (effects_of (world.hosts n).node event free).entries)
    → HoldsWays (book_after (book_in o world) (entries_of n stamp (effects_of (world.hosts n).node event free).entries)) (moved (Step n stamp free source) world)

-- where its entries are lawful, each label of a transaction of its own that the node keeps after it is kept as its owner's
abbrev pub KeepsLabels : Opening → World → ℕ → ℕ → ℕ → Source → Event → Type 0
KeepsLabels o world n stamp free source event = IsLawful (book_in o world) (entries_of n stamp (effects_of (world.hosts n).node event free).entries)
    → Every (AreOwned (after_step (world.hosts n).node event free).setting.node (after_step (world.hosts n).node event free).kept.saved.labels) (after_step (world.hosts n).node event free).kept.saved.labels
