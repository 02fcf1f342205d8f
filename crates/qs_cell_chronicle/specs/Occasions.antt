-- What an event of a node is made of.
use Rattle.std.specs.Prelude.{ℕ}
use Rattle.qs_node_step.specs.declared.event.Event.{Event}
use Rattle.qs_node_step.specs.declared.event.Event.TheVariants as events
use Rattle.qs_node_step.specs.declared.trace.Did.{Did}
use Rattle.qs_node_step.specs.declared.trace.Did.TheVariants as dids
use Rattle.qs_cell_chronicle.specs.declared.occasion.Occasion.{Occasion}
use Rattle.qs_cell_chronicle.specs.declared.occasion.Occasion.TheVariants as occasions
use Rattle.qs_cell_chronicle.specs.Carried.{Commands, in_hand}

abbrev pub event_of : Occasion → Event
event_of (occasions.Command line) = events.Command line.client line.line line.label line.command
event_of occasions.Queues = events.ServeAll
event_of occasions.Clock = events.Tick
event_of (occasions.Message packet) = events.Received packet.from packet.message
event_of (occasions.Restarted packet old) = events.PeerRestarted packet.from old packet.inc

abbrev pub did_of : Occasion → Did
did_of (occasions.Command line) = dids.Command line
did_of occasions.Queues = dids.ServeAll
did_of occasions.Clock = dids.Tick
did_of (occasions.Message packet) = dids.Packet packet
did_of (occasions.Restarted packet old) = dids.Packet packet

-- the stamp of the packet that it brings; where it brings none, none is greater than the node's own
abbrev pub stamp_in : Occasion → ℕ
stamp_in (occasions.Command line) = 0
stamp_in occasions.Queues = 0
stamp_in occasions.Clock = 0
stamp_in (occasions.Message packet) = packet.stamp
stamp_in (occasions.Restarted packet old) = packet.stamp

-- a command that is taken is in the hands of the node's incarnation
abbrev pub taken : Occasion → ℕ → Commands → Commands
taken (occasions.Command line) inc commands = in_hand inc line commands
taken occasions.Queues inc commands = commands
taken occasions.Clock inc commands = commands
taken (occasions.Message packet) inc commands = commands
taken (occasions.Restarted packet old) inc commands = commands
