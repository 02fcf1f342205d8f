-- Which messages can be sent.
pub mod Spelled
