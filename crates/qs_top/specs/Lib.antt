-- What words ask for.
pub mod Asking
-- The disks of a run.
pub mod Disks
-- What only proofs and private functions speak of.
pub mod Inner
-- What the top call promises of a run.
pub mod Run
-- Statuses by how far a run came.
pub mod Statuses
-- The text that was read.
pub mod Texts
-- What it promises of a check.
pub mod Verdict
-- How a run ends.
pub mod Ends
-- How a run judges its own journal.
pub mod Verdicts
-- By which rounds and visits it came to that.
pub mod Ran
