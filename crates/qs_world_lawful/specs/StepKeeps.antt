-- What a whole step of a node of a run leaves: a lawful history, all that is held of the node itself, and channels that hold what is so.
use Rattle.std.specs.Prelude.{ℕ, List}
use Rattle.qs_session_channels.specs.Channels.{Channels}
use Rattle.qs_book_journal.specs.declared.entry.Entry.{Entry}
use Rattle.qs_book_machine.specs.Book.{BookValue}
use Rattle.qs_book_machine.specs.Lawful.{IsLawful, book_after}
use Rattle.qs_node_step.specs.State.{NodeValue}
use Rattle.qs_node_step.specs.Step.{after_step, effects_of}
use Rattle.qs_node_step.specs.declared.event.Event.{Event}
use Rattle.qs_world.specs.Posting.{entries_of, post_all}
use Rattle.qs_world.specs.World.{Parcel}
use Rattle.qs_world_lawful.specs.Amid.{InRun}
use Rattle.qs_world_lawful.specs.Beside.{HoldsBeside}
use Rattle.qs_world_lawful.specs.BesideStep.{AreCommitted}
use Rattle.qs_world_lawful.specs.Holds.{Holds}
use Rattle.qs_world_lawful.specs.NodeFacts.{HasNodeFacts}
use Rattle.qs_world_lawful.specs.Parcels.{HoldsChannels}
use Rattle.qs_world_lawful.specs.Standing.{HoldsHomes}

-- the entries of the step
abbrev pub entered_by : ℕ → NodeValue → Event → ℕ → List Entry
entered_by stamp node event free = entries_of node.setting.node.0 stamp (effects_of node event free).entries

-- of the machine after them
pub record KeptThen (stamp : ℕ) (book : BookValue) (size : ℕ) (nodes : ℕ → NodeValue) (n : ℕ) (node : NodeValue) : Type 0 where
  pub in_run : InRun book
  pub holds : Holds stamp book node
  pub facts : HasNodeFacts node
  pub beside : HoldsBeside book node
  pub logged : AreCommitted book node
  pub homes : HoldsHomes book size nodes n

pub record StepKeeps (stamp : ℕ) (before : BookValue) (size : ℕ) (nodes : ℕ → NodeValue) (n : ℕ) (node : NodeValue) (event : Event) (free : ℕ) : Type 0 where
  pub lawful : IsLawful before (entered_by stamp node event free)
  pub kept : KeptThen stamp (book_after before (entered_by stamp node event free)) size nodes n (after_step node event free)
  pub channels : (c : Channels Parcel) → HoldsChannels before size c → HoldsChannels (book_after before (entered_by stamp node event free)) size (post_all n stamp (effects_of node event free).messages c)
