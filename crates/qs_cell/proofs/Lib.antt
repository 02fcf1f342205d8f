-- What an event does with the log and leaves on the disk.
pub mod Happening
-- What stands of a node after an event and after a restart.
pub mod Standing
-- The turns of a visit.
pub mod Turning
-- A cell only adds to its journal.
pub mod Growing
-- What stands of a node after a packet came to it.
pub mod Hearing
-- The turn of a node's packets.
pub mod HearingTurns
-- A whole visit.
pub mod Visiting
-- A visit is one more round, and so is a restart.
pub mod VisitRounds
-- What is done with the lanes as a slice.
pub mod Written
-- A node that memory was refused to is still down.
pub mod Leaving
-- What stays of the lanes.
pub mod Rings
-- Each image of the disk has a log.
pub mod Logging
-- A refusal of memory in place of a fault of the disk.
pub mod Founding
-- A node whose log has room for all that is kept there stays so.
pub mod Rooms
-- A log never opens as damaged where its node starts again.
pub mod Reopening
-- An act in a burst.
pub mod Acting
