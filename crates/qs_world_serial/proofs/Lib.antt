-- The rounds that a script has.
pub mod Spending
-- Rounds and how they end.
pub mod Repeating
-- What stands beside one another.
pub mod Beside
-- The links of all nodes.
pub mod Linking
-- A node that began, or did not.
pub mod Joining
-- A site that leaves its disk.
pub mod Leaving
-- The places behind the sites that have begun.
pub mod Coming
-- A whole run.
pub mod Running
