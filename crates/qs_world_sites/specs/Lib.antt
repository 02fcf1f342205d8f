-- The sites of a run, and what is carried between them as a round begins.
pub mod Sites
-- Within the carrying of a round.
pub mod Carrying
-- The visits of a round, and its rounds.
pub mod Rounds
-- A round that is cut short.
pub mod Breaks
-- How often nodes are visited.
pub mod Late
-- Bursts before rounds.
pub mod Bursts
-- How the rounds of a run end.
pub mod Endings
-- And how they follow one another, serially or in threads.
pub mod Schedules
-- The sites as a run begins.
pub mod Seats
-- Within the making of their links.
pub mod Linking
