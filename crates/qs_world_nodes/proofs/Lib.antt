-- Sites by their places.
pub mod Places
-- What a script has planned for a link is a plan.
pub mod Planned
-- The sites begin.
pub mod Beginning
-- Lanes and links are carried.
pub mod Carrying
-- What a visit of one site keeps rounds keep.
pub mod Walking
-- A visit.
pub mod Visiting
-- Rounds.
pub mod Rounds
-- The links of sites keep their plans.
pub mod Keeping
-- Where memory was refused in a round.
pub mod Refused
-- What the cells tell.
pub mod Telling
-- What such a run opens with.
pub mod Opened
-- Scripts that are read.
pub mod Sitting
-- What is told is lawful.
pub mod Histories
-- What a stable sort leaves.
mod MergeLemmas
