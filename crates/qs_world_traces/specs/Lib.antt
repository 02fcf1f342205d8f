pub mod Links
pub mod Sessions
pub mod Puts
pub mod Listed
pub mod Steps
pub mod Ticks
pub mod Traced
