-- Which bytes spell a packet, and what a reader of bytes finds.
pub mod Grammar
pub mod Reading
pub mod Writing
