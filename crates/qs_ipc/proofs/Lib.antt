pub mod Found
pub mod Counting
pub mod Forgetting
mod Marking
mod Turns
