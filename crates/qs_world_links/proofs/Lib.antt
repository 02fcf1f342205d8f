-- The ends of a link as one of them goes on.
pub mod Ends
-- The link between two nodes as one of them goes on, and what it tells.
pub mod Linking
-- What is sent bears the stamp of its step.
pub mod Bearing
-- What an event adds to the trace of its cell.
pub mod Adding
-- A packet that comes.
pub mod Coming
-- The packets of a visit.
pub mod Hearing
-- A visit.
pub mod Visiting
-- A restart and a start.
pub mod Starting
-- All links of a run.
pub mod Linked
-- Where memory was refused.
pub mod Refused
pub mod Keeping
-- As a link is carried.
pub mod Carrying
