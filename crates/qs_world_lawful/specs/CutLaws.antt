-- The laws of a step that is cut off with its batch kept: the log has the step's records, and none of its entries is in the journal.
use Rattle.std.specs.Prelude.{◌≡◌, ◌⊎◌, ℕ, Bool, true, false, [], Some, slice_get}
use Rattle.qs_book_journal.specs.declared.entry.Act.TheVariants as acts
use Rattle.qs_book_journal.specs.declared.entry.CrashCause.{CrashCause}
use Rattle.qs_book_machine.specs.Book.{BookValue, crash_node}
use Rattle.qs_book_machine.specs.Lawful.{effect}
use Rattle.qs_book_machine.specs.Nodes as machine
use Rattle.qs_node_step.specs.Step.{effects_of}
use Rattle.qs_node_step.specs.declared.event.Event.{Event}
use Rattle.qs_world.specs.Moves.{Cut, Source, cut_log, event_of, may_move, moved, stopped_host}
use Rattle.qs_world.specs.Posting.{entry_of}
use Rattle.qs_world.specs.World.{World}
use Rattle.qs_world_lawful.specs.Lasting.{Lasts}
use Rattle.qs_world_lawful.specs.WorldLaws.{StopsWell}
use Rattle.qs_world_lawful.specs.Worlds.{HoldsDown, HoldsWorld}

-- the step forces nothing, or has no record of its own: only what waited before it is written
abbrev pub IsQuietStep : World → ℕ → ℕ → ℕ → Source → Type 0
IsQuietStep world n stamp free source = (event : Event) → event_of world n stamp source ≡ Some event
    → ((effects_of (world.hosts n).node event free).force ≡ false) ⊎ ((effects_of (world.hosts n).node event free).records ≡ [])

abbrev pub EachKeepsItsQuietBatch : Type 0
EachKeepsItsQuietBatch = (book : BookValue) (world : World) (n stamp free : ℕ) (source : Source) (cause : CrashCause) → Lasts book → HoldsWorld book world → may_move world (Cut n stamp free source true cause) ≡ true
    → IsQuietStep world n stamp free source → StopsWell book (moved (Cut n stamp free source true cause) world) n stamp cause

-- any step: what is left to show is that the machine has what the log of the node says then
abbrev pub IsCutSaid : BookValue → World → ℕ → ℕ → ℕ → Source → Bool → CrashCause → Type 0
IsCutSaid book world n stamp free source is_kept cause = (event : Event) → event_of world n stamp source ≡ Some event → (state : machine.NodeValue) → slice_get book.nodes n ≡ Some state
    → HoldsDown n (effect book (entry_of n stamp (acts.Crash cause))) (crash_node book.place state) (stopped_host stamp (cut_log (world.hosts n) is_kept (effects_of (world.hosts n).node event free)) (world.hosts n))

abbrev pub EachCutIsHeld : Type 0
EachCutIsHeld = (book : BookValue) (world : World) (n stamp free : ℕ) (source : Source) (is_kept : Bool) (cause : CrashCause) → Lasts book → HoldsWorld book world → may_move world (Cut n stamp free source is_kept cause) ≡ true
    → IsCutSaid book world n stamp free source is_kept cause → StopsWell book (moved (Cut n stamp free source is_kept cause) world) n stamp cause
