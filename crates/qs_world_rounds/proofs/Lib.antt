-- Visits and rounds, whatever is visited.
pub mod Repeats
-- What carrying and visits leave joined.
pub mod Joining
-- The clients of a script at their seats.
pub mod Placing
-- Turns in a burst.
pub mod Turning
