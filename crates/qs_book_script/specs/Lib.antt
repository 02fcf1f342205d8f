pub mod Lines
pub mod Numbers
pub mod Statements
pub mod Status
