-- Where the line of a client stands.
pub mod Clients
-- What becomes of it.
pub mod Turns
-- The clients of a cell, and what its events make of them.
pub mod Showing
-- The clients of a cell.
pub mod Seats
-- Room in the log of a node's disk.
pub mod Rooms
-- A node over its log as a host of the world.
pub mod InWorld
