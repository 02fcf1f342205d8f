-- How many rounds a run has.
pub mod Budget
-- In which order its actors are visited.
pub mod Order
-- What a script asks of a node and of a client.
pub mod Plan
-- Who waits after a journal.
pub mod Waiting
