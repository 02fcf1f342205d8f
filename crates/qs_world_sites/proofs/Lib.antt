-- What holds of each site before and after.
pub mod Staying
-- The links between sites, as they are carried one after the other.
pub mod Between
-- Two sites of a list that is split between them.
pub mod Halves
-- One link more, until all are carried.
pub mod Further
-- The visit of one actor.
pub mod Visiting
-- A slice that is written back.
pub mod Written
-- What is planned for a link.
pub mod Planning
-- The ends of nodes, as one node more comes in, and the links over them.
pub mod Joining
pub mod Over
-- The turn of a client.
pub mod Turned
-- Where the threads have joined.
pub mod Meeting
