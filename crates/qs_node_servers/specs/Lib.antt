pub mod Kinds
pub mod Servers
