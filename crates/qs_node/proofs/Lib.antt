pub mod ClosedOutcomes
pub mod FurtherServer
pub mod TakenUp
mod Refused
mod Told
mod Waits
