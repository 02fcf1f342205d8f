-- A driver for whole runs: nodes are visited in turn, and each makes what it may. It shows runs, and is part of none of them.
use Rattle.std.specs.Prelude.{ℕ, ◌+◌, ◌==◌, Bool, List, [], ◌∷◌, ◌++◌, fold, map, Option, zero, suc, if◌then◌else◌}
use Rattle.std.specs.List.{flat_map}
use Rattle.qs_ops.specs.declared.answer.Answer.{Answer}
use Rattle.qs_book_journal.specs.declared.entry.Act.TheVariants as acts
use Rattle.qs_book_journal.specs.declared.entry.CrashCause.TheVariants as crashes
use Rattle.qs_book_journal.specs.declared.entry.Entry.{Entry}
use Rattle.qs_book_machine.specs.Lawful.{first_broken}
use Rattle.qs_ipc.specs.Ipc.{queued}
use Rattle.qs_world.specs.World.{World, Opening, inc_of, known_of}
use Rattle.qs_world.specs.Moves.{Source, Commanded, Handed, Queues, Clock, Noticed, Move, Step, Cut, Stop, Rise, Meet, may_move, moved}
use Rattle.qs_world.specs.Scenes.{fresh_room}
use Rattle.qs_world.specs.Histories.{book_of}

-- a move is made where it may be
abbrev pub attempt : World → Move → World
attempt world move = if may_move world move then moved move world else world

abbrev pub next_stamp : World → ℕ
next_stamp world = world.last.0 + 1

abbrev pub attempt_step : ℕ → Source → World → World
attempt_step n source world = attempt world (Step n (next_stamp world) fresh_room source)

abbrev pub up_to : ℕ → List ℕ
up_to zero = []
up_to (suc n) = up_to n ++ n ∷ []

-- the present incarnation of another node becomes known
abbrev pub get_to_know : ℕ → ℕ → World → World
get_to_know n m world =
    if known_of world n m == 0 then attempt world (Meet n (next_stamp world) m (inc_of world m))
    else attempt_step n (Noticed m (inc_of world m)) world

-- what a visit does, one after the other
pub data Stage : Type 0 where
  Know : ℕ → ℕ → Stage  -- a node gets to know another
  Take : ℕ → Source → Stage  -- it makes a step, if there is an event of that source

abbrev pub has_queue : ℕ → World → Bool
has_queue n world = queued (world.hosts n).node.queues

abbrev pub make_step : ℕ → Source → World → World
make_step n Queues world = if has_queue n world then attempt_step n Queues world else world
make_step n source world = attempt_step n source world

abbrev pub make : World → Stage → World
make world (Know n m) = if m == n then world else get_to_know n m world
make world (Take n source) = make_step n source world

-- up to three messages of each other node are handed up
abbrev pub peer_stages : ℕ → ℕ → List Stage
peer_stages n m = if m == n then [] else Know n m ∷ Take n (Handed m) ∷ Take n (Handed m) ∷ Take n (Handed m) ∷ []

abbrev pub client_stage : ℕ → ℕ → Stage
client_stage n k = Take n (Commanded k)

-- a node takes what came, commands, and what waits, and its time passes
abbrev pub visit : ℕ → ℕ → ℕ → List Stage
visit size clients n = flat_map (peer_stages n) (up_to size) ++ (map (client_stage n) (up_to clients) ++ Take n Queues ∷ Take n Clock ∷ [])

abbrev pub round : ℕ → ℕ → List Stage
round size clients = flat_map (visit size clients) (up_to size)

abbrev pub rounds_of : ℕ → ℕ → ℕ → List Stage
rounds_of size clients zero = []
rounds_of size clients (suc more) = round size clients ++ rounds_of size clients more

-- so many rounds
abbrev pub rounds : ℕ → ℕ → World → World
rounds clients count world = fold make world (rounds_of world.size clients count)

-- a node stops, and restarts
abbrev pub stop : ℕ → World → World
stop n world = attempt world (Stop n (next_stamp world) crashes.Plan)

abbrev pub rise : ℕ → World → World
rise n world = attempt world (Rise n (next_stamp world) (inc_of world n + 1))

abbrev pub restart : ℕ → World → World
restart n world = rise n (stop n world)

-- it is cut off in a step
abbrev pub cut : ℕ → Source → Bool → World → World
cut n source is_kept world = attempt world (Cut n (next_stamp world) fresh_room source is_kept crashes.Plan)

-- ---- what is asked of a run

-- the answers, with their lines, in order
abbrev pub answer_in : Entry → List (ℕ × Answer)
answer_in entry = elim entry.act [
  | acts.Begin tid label client ↦ []
  | acts.Issue tid issuer member number op ↦ []
  | acts.Serve tid member from number reply ↦ []
  | acts.Ask tid ↦ []
  | acts.Vote tid member vote covers ↦ []
  | acts.Counted tid peer up_to ↦ []
  | acts.Decide tid outcome cause ↦ []
  | acts.Ending tid member ↦ []
  | acts.Learn tid member outcome ↦ []
  | acts.Answer client line answer ↦ (line, answer) ∷ []
  | acts.Loan tid client ↦ []
  | acts.Yield tid client ↦ []
  | acts.Tick ↦ []
  | acts.Crash cause ↦ []
  | acts.Restart inc pend done ↦ []
]

abbrev pub answers_in : World → List (ℕ × Answer)
answers_in world = flat_map answer_in world.journal

-- the first entry that is no lawful step, and its clause
abbrev pub first_fault : Opening → World → Option (ℕ × ℕ)
first_fault o world = first_broken (book_of o) world.journal
