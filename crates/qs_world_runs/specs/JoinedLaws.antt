-- The laws that the induction over a run goes by, as statements: of a run's beginning, of what a step is given, and of what a move keeps.
use Rattle.std.specs.Prelude.{◌≡◌, ℕ, ◌<◌, ◌==◌, ⊤, true, false, List, None, Some, is_some, slice_get, Bool}
use Rattle.qs_base.specs.declared.identifiers.ClientNo.{ClientNo}
use Rattle.qs_base.specs.declared.identifiers.Tid.{Tid}
use Rattle.qs_book_journal.specs.declared.entry.Act.{Act}
use Rattle.qs_book_journal.specs.declared.entry.Act.TheVariants as acts
use Rattle.qs_book_journal.specs.declared.entry.CrashCause.{CrashCause}
use Rattle.qs_book_journal.specs.declared.entry.Entry.{Entry}
use Rattle.qs_book_machine.specs.Book.{BookValue, find_transaction}
use Rattle.qs_book_machine.specs.Lawful.{IsLawful, book_after}
use Rattle.qs_book_machine.specs.Transaction.{TransactionValue, is_open, is_unanimous}
use Rattle.qs_restart.specs.Recovery.{recovery}
use Rattle.qs_node_step.specs.Settling.{due_tids, is_quiet, may_answer, pass_rule, settle_tid, try}
use Rattle.qs_node_step.specs.State.{Work, doings_of}
use Rattle.qs_node_step.specs.Step.{after_step, effects_of}
use Rattle.qs_node_step.specs.declared.event.Event.{Event}
use Rattle.qs_tm.specs.Manager as tm
use Rattle.qs_tm.specs.declared.participant.Participant.{Participant}
use Rattle.qs_world.specs.Histories.{book_of}
use Rattle.qs_world.specs.Moves.{Cut, Move, Source, Step, cut_log, event_of, may_move, moved, stopped}
use Rattle.qs_world.specs.Openings.{IsOpening}
use Rattle.qs_world.specs.Posting.{entries_of}
use Rattle.qs_world.specs.World.{Opening, World, start}
use Rattle.qs_world_agree.specs.World as agreement
use Rattle.qs_world_agree.specs.World.{Open, Committed}
use Rattle.qs_world_walk.specs.Walked.{AtEach, done_work}
use Rattle.qs_world_refine.specs.Begun.{has_begun}
use Rattle.qs_world_refine.specs.CutLaws.{CutsOff}
use Rattle.qs_world_refine.specs.EachMove.{ShowsAll}
use Rattle.qs_world_lawful.specs.Aside.{StaysUnanimous}
use Rattle.qs_world_lawful.specs.Entering.{book_at}
use Rattle.qs_world_runs.specs.Agrees.{MakesStep}
use Rattle.qs_world_runs.specs.Joined.{Joined, book_in}

-- ---- as a run begins

abbrev pub Opens : (Opening → World → Type 0) → Type 0
Opens X = (o : Opening) → IsOpening o → X o (start o)

-- ---- a step

-- what a home commits is unanimous in the reference machine
abbrev pub CommitsSettled : ℕ → BookValue → Work → Tid → Type 0
CommitsSettled stamp before work tid = (part : Participant) → tm.part_of tid (try tid pass_rule work).node.manager ≡ Some part → part.outcome ≡ None → part.engage.home ≡ true → may_answer tid part (try tid pass_rule work) ≡ true
    → is_quiet (doings_of tid (try tid pass_rule work)) ≡ true → (tx : TransactionValue) → find_transaction (book_at stamp before (try tid pass_rule work)) tid ≡ Some tx → is_unanimous tx ≡ true

abbrev pub EachCommitsSettled : (Opening → World → Type 0) → Type 0
EachCommitsSettled P = (o : Opening) (world : World) (n stamp free : ℕ) (source : Source) (event : Event) → Joined P o world → MakesStep world n stamp source event
    → AtEach (CommitsSettled stamp (book_in o world)) settle_tid (done_work (world.hosts n).node event free) (due_tids (done_work (world.hosts n).node event free))

-- what a home decided in a step that is cut off, with a record of it on the disk, was unanimous before
abbrev pub CutsUnanimous : Opening → World → ℕ → ℕ → ℕ → Bool → CrashCause → Event → Type 0
CutsUnanimous o world n stamp free is_kept cause event = (tid : Tid) (w : agreement.World) (goes : CutsOff tid (after_step (world.hosts n).node event free) (stopped world n stamp cause (cut_log (world.hosts n) is_kept (effects_of (world.hosts n).node event free))) w) → has_begun world tid ≡ true → ShowsAll tid world w
    → w.cell ≡ Open → goes.goes.next.cell ≡ Committed → (tx : TransactionValue) → find_transaction (book_in o world) tid ≡ Some tx → is_open tx.cell ≡ true → is_unanimous tx ≡ true

abbrev pub EachCutUnanimous : (Opening → World → Type 0) → Type 0
EachCutUnanimous P = (o : Opening) (world : World) (n stamp free : ℕ) (source : Source) (is_kept : Bool) (cause : CrashCause) (event : Event) → Joined P o world → may_move world (Cut n stamp free source is_kept cause) ≡ true → event_of world n stamp source ≡ Some event
    → CutsUnanimous o world n stamp free is_kept cause event

-- ---- a whole step: the world that the machine has after it

abbrev pub entries_in : World → ℕ → ℕ → ℕ → Event → List Entry
entries_in world n stamp free event = entries_of n stamp (effects_of (world.hosts n).node event free).entries

-- the machine after it
abbrev pub book_then : Opening → World → ℕ → ℕ → ℕ → Event → BookValue
book_then o world n stamp free event = book_after (book_in o world) (entries_in world n stamp free event)

abbrev pub AfterStep : (Opening → World → Type 0) → (Opening → World → ℕ → ℕ → ℕ → Event → Type 0) → Type 0
AfterStep P X = (o : Opening) (world : World) (n stamp free : ℕ) (source : Source) (event : Event) → Joined P o world → MakesStep world n stamp source event → IsLawful (book_in o world) (entries_in world n stamp free event) → X o world n stamp free event

-- what begins has an owner
abbrev pub HasOwner : BookValue → Act → Type 0
HasOwner book act = (tid : Tid) (label : List ℕ) (client : ClientNo) → act ≡ acts.Begin tid label client → is_some (slice_get book.owners client.0) ≡ true

-- what the log of a home that is down has committed, and is open and unanimous, stays unanimous
abbrev pub StaysUnanimousThen : Opening → World → ℕ → ℕ → ℕ → Event → Type 0
StaysUnanimousThen o world n stamp free event = (k : ℕ) → (k == n) ≡ false → k < world.size → world.channels.up k ≡ false → StaysUnanimous k (recovery (world.hosts k).log) (book_in o world) (book_then o world n stamp free event)

-- ---- moves whose entries are lawful, by kind

abbrev pub IsStep : Move → Type 0
IsStep (Step n stamp free source) = ⊤
IsStep move = ⊥

-- a crash, a restart or a first meeting
abbrev pub IsBetweenSteps : Move → Type 0
IsBetweenSteps (Step n stamp free source) = ⊥
IsBetweenSteps move = ⊤

abbrev pub Keeps : (Opening → World → Type 0) → (Move → Type 0) → (Opening → World → Type 0) → Type 0
Keeps P kind X = (o : Opening) (world : World) (move : Move) → kind move → Joined P o world → may_move world move ≡ true → IsLawful (book_of o) (moved move world).journal → X o (moved move world)

-- ---- what the induction over a run takes for granted of whole steps

pub record WholeSteps (P : Opening → World → Type 0) : Type 0 where
  pub commits : EachCommitsSettled P  -- what a step is given
  pub places : Keeps P IsStep P  -- what all places hold of each transaction goes on through it
