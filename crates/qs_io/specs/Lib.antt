-- What sources and sinks tell, and why they refuse.
pub mod Memory
pub mod Standard
pub mod Streams
