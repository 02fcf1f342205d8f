-- A packet that changes its session at most: it is an event all the same, with its number, its stamp and its step.
use Rattle.std.specs.Prelude.{◌≡◌, false, [], Option, None, Some}
use Rattle.qs_book_journal.specs.declared.entry.CrashCause.{CrashCause}
use Rattle.qs_cell_chronicle.specs.Carried.{Seen, seen}
use Rattle.qs_cell_chronicle.specs.Chronicle.{noted, crashed}
use Rattle.qs_packet.specs.declared.packet.Packet.{Packet}
use Rattle.qs_node_step.specs.declared.trace.Did.TheVariants as dids
use Rattle.qs_cell.specs.Cell.{begun_past, ordered_past}
use Rattle.qs_cell.specs.Outcomes.{Outcome, stopped_of}
use Rattle.qs_cell.specs.Outcomes as outcomes
use Rattle.qs_cell.specs.declared.running.Running.{Running}
use Rattle.qs_cell.specs.declared.stopped.Stopped.{Stopped}

-- the step stands, and makes and sends nothing
abbrev pub aside : Packet → Seen → Seen
aside packet s = record s { told = noted (dids.Packet packet) [] [] None (begun_past packet.stamp s.told) }

-- why it is not to be made
abbrev pub why_not_aside : {D F X : Type 0} → Packet → Running D F X → Option CrashCause
why_not_aside packet old = ordered_past packet.stamp (seen old.carried)

-- the session has taken it in before
pub record IsSetAside {D F X : Type 0} (packet : Packet) (old new : Running D F X) : Type 0 where
  pub host : new.host ≡ old.host
  pub sessions : new.sessions ≡ old.sessions
  pub seen : seen new.carried ≡ aside packet (seen old.carried)
  pub setting : new.carried.setting ≡ old.carried.setting
  pub unplanned : why_not_aside packet old ≡ None

-- a crash in place of it, as the script has it, or as a stamp stands at its last value: the packet is lost
pub record IsAsideReplaced {D F X : Type 0} (packet : Packet) (old : Running D F X) (new : Stopped D) : Type 0 where
  pub disk : new.disk ≡ old.host.log.disk
  pub kept : new.kept ≡ old.host.node.kept.saved
  pub told : new.carried.chronicle.told ≡ crashed (dids.Packet packet) new.cause (begun_past packet.stamp old.carried.chronicle.told)
  pub commands : new.carried.commands ≡ old.carried.commands
  pub crashes : new.carried.crashes ≡ old.carried.crashes
  pub points : new.carried.points.items ≡ old.carried.points.items
  pub setting : new.carried.setting ≡ old.carried.setting
  pub full : new.is_full ≡ false
  pub cause : why_not_aside packet old ≡ Some new.cause

abbrev pub IsAsideOutcome : {D F X : Type 0} → Packet → Running D F X → Outcome D F X → Type 0
IsAsideOutcome packet old (outcomes.Whole running answers) = IsSetAside packet old running × (answers ≡ [])
IsAsideOutcome packet old (outcomes.Replaced stopped) = IsAsideReplaced packet old stopped
IsAsideOutcome packet old (outcomes.Followed stopped answers) = ⊥
IsAsideOutcome packet old (outcomes.CutOff stopped) = ⊥

-- by why it was not made, if it was not
abbrev pub aside_outcome : {D F X : Type 0} → Option CrashCause → Running D F X → Outcome D F X
aside_outcome None running = outcomes.Whole running []
aside_outcome (Some cause) running = outcomes.Replaced (stopped_of cause false running)
