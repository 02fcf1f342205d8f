-- What an act does with the links of its node.
pub mod Telling
-- Bursts between rounds, in the world.
pub mod Threads
-- Where memory was refused in a burst.
pub mod Refused
