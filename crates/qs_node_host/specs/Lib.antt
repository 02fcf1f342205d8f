-- A node over its log.
pub mod Host
pub mod Roomy
pub mod Spelled
