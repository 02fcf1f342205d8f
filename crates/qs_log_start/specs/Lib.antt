-- How the log of a node begins an incarnation, and what that leaves on the disk.
pub mod Incarnation
