pub mod Engage
pub mod Nodes
