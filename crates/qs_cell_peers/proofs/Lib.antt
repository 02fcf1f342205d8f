pub mod Carrying
pub mod Places
pub mod Putting
-- The sessions of a node.
pub mod Changing
pub mod Hearing
pub mod Sending
pub mod Sends
pub mod Ticking
pub mod Beginning
pub mod Stepping
-- The ends stay of their rings.
pub mod Linked
-- In an act the rings are looked into.
pub mod Pulling
