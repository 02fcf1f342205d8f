-- A node among others that is up or down, as a world over packets shows it.
pub mod Shown
-- What each thing that its cell does is in that world.
pub mod Events
-- How it begins there, and begins again.
pub mod Beginnings
-- A cell and the clients of its node.
pub mod Seats
-- What the node has come to, and that events and restarts go on there.
pub mod Reached
-- A visit.
pub mod Visiting
-- Lanes are carried, and clients have their turns.
pub mod Carrying
-- A site of a run.
pub mod Sites
-- A cell whatever became of its clients, and where memory was refused.
pub mod Cells
