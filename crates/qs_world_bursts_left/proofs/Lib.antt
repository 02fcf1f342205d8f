-- The steps of a node up to a stamp.
pub mod Fronts
-- What nodes have come to amid a burst is of one run.
pub mod Cut
-- A node's act.
pub mod Acts
-- A site's turns.
pub mod Turns
-- Bursts of all sites, and rounds behind them.
pub mod Rooms
-- The end of a run.
pub mod Ended
