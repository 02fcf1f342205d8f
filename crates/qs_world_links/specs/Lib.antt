-- A cell as that of one node of a run, and what its trace tells of its links.
pub mod Posts
-- What a visit and a restart do with the links of their node.
pub mod Telling
-- The link from one node to another, between the traces of both.
pub mod Between
-- All links of a run.
pub mod Everywhere
