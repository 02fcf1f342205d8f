-- Visits and rounds, whatever is visited.
pub mod Repeats
-- The actors, what is carried, who is visited, and when a round is quiet.
pub mod Rounds
-- The turns of the actors in a burst.
pub mod Turns
-- A round that is cut short.
pub mod Breaks
-- The lanes between the node and its clients.
pub mod Lanes
-- The actors as a run begins.
pub mod Seats
