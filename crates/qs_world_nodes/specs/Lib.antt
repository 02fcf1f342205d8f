-- All sites of a run at once.
pub mod Nodes
-- They go on, and tell of a run.
pub mod Running
-- What such a run opens with.
pub mod Openings
-- What is told is lawful.
pub mod Lawful
