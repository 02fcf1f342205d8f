pub mod Posts
pub mod Spelling
