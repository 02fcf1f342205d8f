-- How far a client is with its lines, and what a turn of it does.
pub mod Lending
pub mod Progress
pub mod Turns
