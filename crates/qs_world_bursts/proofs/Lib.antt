-- The ends of a link, one act after another.
pub mod Ends
-- What an act tells.
pub mod Told
-- All links, where the threads have joined.
pub mod Joining
-- A site's turn.
pub mod Turning
-- Bursts of all sites.
pub mod Bursting
-- Rounds by a schedule.
pub mod Scheduled
-- Where memory was refused: what the traces tell.
pub mod Refusing
-- And where the cells are.
pub mod Leaving
