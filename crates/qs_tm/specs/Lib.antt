pub mod Members
pub mod Participant
pub mod Known
pub mod LentPart
pub mod Outcomes
pub mod Manager
