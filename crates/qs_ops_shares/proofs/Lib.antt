pub mod Held
pub mod Present
pub mod Sums
