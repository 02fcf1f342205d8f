pub mod Opened
pub mod Behind
pub mod Pending
pub mod Following
pub mod Gathered
pub mod Committing
pub mod Applied
