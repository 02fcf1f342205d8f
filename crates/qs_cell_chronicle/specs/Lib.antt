-- What a cell tells: its journal, its trace, and its counts.
pub mod Chronicle
-- What a cell carries through crashes.
pub mod Carried
-- What an event of a node is made of.
pub mod Occasions
-- The lines of a script that stop a node at an entry.
pub mod Points
-- A list with room for more.
pub mod Tape
