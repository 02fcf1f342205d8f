-- Two ends of a session and the packets that stand on the links between them, how passes go over them, and how they settle.
pub mod Pairs
pub mod Passes
pub mod Consistent
pub mod Settled
pub mod Ran
pub mod Delivered
pub mod Plain
