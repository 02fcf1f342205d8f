-- The laws of scripts and of what is on its way: as a run begins, and through each thing that happens in the world but a step of the node itself.
use Rattle.std.specs.Prelude.{◌≡◌, ◌≤◌, ◌<◌, ℕ, ◌==◌, ⊤, true, false, List, [], ◌∷◌, ◌++◌, length}
use Rattle.qs_session_channels.specs.Channels as channel
use Rattle.qs_session_channels.specs.Channels.{Channels}
use Rattle.qs_book_journal.specs.declared.entry.Act.{Act}
use Rattle.qs_book_journal.specs.declared.entry.Act.TheVariants as acts
use Rattle.qs_book_journal.specs.declared.entry.CrashCause.{CrashCause}
use Rattle.qs_book_journal.specs.declared.entry.Entry.{Entry}
use Rattle.qs_book_journal.specs.declared.script_line.ScriptLine.{ScriptLine}
use Rattle.qs_book_laws.specs.Laws.{IsCoherent}
use Rattle.qs_book_machine.specs.Book.{BookValue}
use Rattle.qs_book_machine.specs.Lawful.{IsLawful, book_after}
use Rattle.qs_book_machine.specs.Opening.{opening}
use Rattle.qs_book_machine.specs.declared.opened.Opened.{Opened}
use Rattle.qs_record.specs.declared.record.Record.{Record}
use Rattle.qs_world.specs.Histories.{book_of}
use Rattle.qs_world.specs.Moves.{Meet, Move, Rise, Step, Source, may_move, moved, stopped}
use Rattle.qs_world.specs.Openings.{IsOpening, labels_begun, same_label}
use Rattle.qs_world.specs.Posting.{entry_of}
use Rattle.qs_world.specs.World.{Opening, Parcel, World, start}
use Rattle.qs_world_lawful.specs.Aside.{IsOfStep}
use Rattle.qs_world_lawful.specs.Lasting.{Lasts}
use Rattle.qs_world_lawful.specs.LastingLaws.{IsNumbered}
use Rattle.qs_world_lawful.specs.Logs.{Every}
use Rattle.qs_world_lawful.specs.Parcels.{HoldsChannels, HoldsWay, HoldsWays, WaitsForKnown}
use Rattle.qs_world_lawful.specs.Scripts.{AreBehind, HoldsScripts, IsFresh}
use Rattle.qs_world_lawful.specs.WorldLaws.{rise_entry}
use Rattle.qs_world_lawful.specs.Worlds.{HoldsWorld}

-- ---- as a run begins

abbrev pub EachOpensScripts : Type 0
EachOpensScripts = (o : Opening) → IsOpening o → HoldsScripts o (book_of o) (start o)

abbrev pub EachOpensWays : Type 0
EachOpensWays = (o : Opening) → IsOpening o → HoldsWays (book_of o) (start o)

-- ---- a crash, whatever it leaves in the log: a stop, and a step that is cut off, with its batch kept or lost

abbrev pub crash_entry : ℕ → ℕ → CrashCause → Entry
crash_entry n stamp cause = entry_of n stamp (acts.Crash cause)

abbrev pub EachCrashKeepsScripts : Type 0
EachCrashKeepsScripts = (o : Opening) (book : BookValue) (world : World) (n stamp : ℕ) (cause : CrashCause) (log : List Record) → HoldsScripts o book world
    → HoldsScripts o (book_after book (crash_entry n stamp cause ∷ [])) (stopped world n stamp cause log)

abbrev pub EachCrashKeepsWays : Type 0
EachCrashKeepsWays = (book : BookValue) (world : World) (n stamp : ℕ) (cause : CrashCause) (log : List Record) → HoldsWays book world
    → HoldsWays (book_after book (crash_entry n stamp cause ∷ [])) (stopped world n stamp cause log)

-- ---- channels that are sound: nothing is posted by or for an incarnation that is to come, and what was handed up was posted

pub record AreSound (c : Channels Parcel) : Type 0 where
  pub by_none : (n m i j : ℕ) → c.inc n < i → c.posted n m i j ≡ []
  pub for_none : (n m i j : ℕ) → c.inc m < j → c.posted n m i j ≡ []
  pub within : (n m i j : ℕ) → length (c.handed n m i j) ≤ length (c.posted n m i j)

abbrev pub EachOpensSound : Type 0
EachOpensSound = (o : Opening) → AreSound (start o).channels

-- through each thing that may happen to them, where nodes know incarnations that began
abbrev pub EachMovesSoundly : Type 0
EachMovesSoundly = (move : channel.Move Parcel) (c : Channels Parcel) → channel.May move c → ((n m : ℕ) → c.peer n m ≤ c.inc m) → AreSound c → AreSound (channel.moved move c)

-- and so of each move of the world
abbrev pub EachWorldMovesSoundly : Type 0
EachWorldMovesSoundly = (move : Move) (world : World) → may_move world move ≡ true → ((n m : ℕ) → world.channels.peer n m ≤ world.channels.inc m) → AreSound world.channels → AreSound (moved move world).channels

-- ---- a restart

abbrev pub EachRiseKeepsScripts : Type 0
EachRiseKeepsScripts = (o : Opening) (book : BookValue) (world : World) (n stamp inc : ℕ) → Lasts book → HoldsWorld book world → may_move world (Rise n stamp inc) ≡ true → HoldsScripts o book world
    → HoldsScripts o (book_after book (rise_entry world n stamp inc ∷ [])) (moved (Rise n stamp inc) world)

abbrev pub EachRiseKeepsWays : Type 0
EachRiseKeepsWays = (book : BookValue) (world : World) (n stamp inc : ℕ) → Lasts book → HoldsWorld book world → AreSound world.channels → may_move world (Rise n stamp inc) ≡ true → HoldsWays book world
    → HoldsWays (book_after book (rise_entry world n stamp inc ∷ [])) (moved (Rise n stamp inc) world)

-- ---- a first meeting: nothing is entered

abbrev pub EachMeetKeepsScripts : Type 0
EachMeetKeepsScripts = (o : Opening) (book : BookValue) (world : World) (n stamp m inc : ℕ) → HoldsScripts o book world → HoldsScripts o book (moved (Meet n stamp m inc) world)

abbrev pub EachMeetKeepsWays : Type 0
EachMeetKeepsWays = (book : BookValue) (world : World) (n stamp m inc : ℕ) → HoldsChannels book world.size world.channels → AreSound world.channels → may_move world (Meet n stamp m inc) ≡ true → HoldsWays book world
    → HoldsWays book (moved (Meet n stamp m inc) world)

-- ---- a whole step: what two other nodes have on its way, whether they run or not

abbrev pub EachStepKeepsOtherWays : Type 0
EachStepKeepsOtherWays = (opened : List Opened) (history more : List Entry) → IsCoherent opened → Every IsNumbered opened → IsLawful (opening opened) (history ++ more)
    → (world : World) (n stamp free : ℕ) (source : Source) → Every (λ (entry : Entry). (entry.node.0 ≡ n) × IsOfStep entry.act) more
    → (a b : ℕ) → (a == n) ≡ false → (b == n) ≡ false → HoldsChannels (book_after (opening opened) history) world.size world.channels → WaitsForKnown (book_after (opening opened) history) (world.hosts b).node
    → HoldsWay (book_after (opening opened) history) world.channels a b (world.hosts b).node
    → HoldsWay (book_after (opening opened) (history ++ more)) (moved (Step n stamp free source) world).channels a b ((moved (Step n stamp free source) world).hosts b).node

-- ---- and the script of a client that is not answered, where nothing begins under a label that is still to be begun in it

abbrev pub IsSilentTo : ℕ → Act → Type 0
IsSilentTo k (acts.Answer client line said) = (client.0 ≡ k) → ⊥
IsSilentTo k act = ⊤

abbrev pub IsOther : List ℕ → List ℕ → Type 0
IsOther begun label = same_label label begun ≡ false

abbrev pub BeginsNone : List (List ℕ) → Act → Type 0
BeginsNone labels (acts.Begin tid label client) = Every (IsOther label) labels
BeginsNone labels act = ⊤

pub record LeavesScript (k : ℕ) (lines : List ScriptLine) (entry : Entry) : Type 0 where
  pub of_step : IsOfStep entry.act
  pub silent : IsSilentTo k entry.act
  pub begins : BeginsNone (labels_begun lines) entry.act

-- the script of a client as the machine has it
pub record HoldsScript (book : BookValue) (k : ℕ) (lines : List ScriptLine) : Type 0 where
  pub behind : AreBehind book k lines
  pub fresh : Every (IsFresh book) (labels_begun lines)

abbrev pub EachStepKeepsOtherScripts : Type 0
EachStepKeepsOtherScripts = (more : List Entry) (book : BookValue) (k : ℕ) (lines : List ScriptLine) → Every (LeavesScript k lines) more → HoldsScript book k lines → HoldsScript (book_after book more) k lines
