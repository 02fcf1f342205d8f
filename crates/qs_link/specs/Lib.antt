-- Lanes, plans of what a link loses, repeats and holds back, and all that goes out by a plan.
pub mod Lane
pub mod Link
pub mod Parcel
pub mod Plan
pub mod Planned
pub mod OnlyPut
-- The lanes between a node and its clients: the commands that come by them, and the answers that go.
pub mod Lanes
