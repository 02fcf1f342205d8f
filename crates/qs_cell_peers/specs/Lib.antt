pub mod Peers
pub mod Sessions
pub mod Ticks
pub mod Steps
pub mod Hears
pub mod NoEnds
pub mod Links
-- Within an act of a burst.
pub mod Pulling
