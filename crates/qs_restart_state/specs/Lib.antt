pub mod States
pub mod StateRow
pub mod Alike
pub mod Taken
pub mod Open
