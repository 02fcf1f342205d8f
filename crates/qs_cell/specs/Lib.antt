-- What comes of an event: the node after it, or what is left of one that stopped.
pub mod Outcomes
-- What an event of a cell does: a whole step, and the crashes in place of it, within it and behind it.
pub mod Cell
-- What a restart finds, and what it makes of the cell.
pub mod Restart
-- Stages of an event.
pub mod Within
-- A node that is up, or down.
pub mod State
-- The turns of a visit, one after the other.
pub mod Visits
-- A packet that changes its session at most.
pub mod Asides
-- The packets of a visit, one after the other.
pub mod Hearing
-- A whole visit.
pub mod WholeVisits
-- An act of a node in a burst.
pub mod Acts
-- The start of a cell.
pub mod Starts
-- Each image of a node's disk has a log.
pub mod Logged
-- The lanes of a node stay joined to the other ends.
pub mod Joined
-- A node of a cell whose log has room for all that is kept there.
pub mod Roomy
