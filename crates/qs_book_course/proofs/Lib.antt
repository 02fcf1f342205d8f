pub mod Answered
pub mod BookStays
pub mod Unmarked
