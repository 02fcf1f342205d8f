pub mod Feeding
pub mod Going
pub mod Holding
pub mod Planning
pub mod Plans
pub mod OnlyPut
-- What stood in a ring is moved behind what was carried.
pub mod Pulling
-- The lanes of a client, by their place.
pub mod Places
