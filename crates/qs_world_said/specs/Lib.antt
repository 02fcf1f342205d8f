-- What the course has of a node's clients in the middle of a step.
pub mod Amid
-- What is known at a stage of a step, and of a deed.
pub mod Knows
-- What a step does for clients, deed by deed, keeps to the rules of clients.
pub mod Deeds
-- A whole step keeps to the rules of clients.
pub mod Steps
-- What a node keeps of outcomes is what the machine has.
pub mod Outcomes
-- What labels a node keeps tell the machine's transactions.
pub mod Labels
-- What a node keeps of names after a step.
pub mod Names
-- What stays in hand as a step ends.
pub mod Opens
-- What a node has in hand is said as scripts say it.
pub mod Hands
-- What is known of names at each turn of a step.
pub mod Naming
-- What is known of names in a whole step, and after it.
pub mod NamingStep
-- What a lawful step keeps of the clients of its node, all of it.
pub mod Whole
