pub mod Seen
pub mod Spelled
