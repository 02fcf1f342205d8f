-- Entries that are added one by one.
pub mod Entries
-- The first line that stops a node.
pub mod Spent
