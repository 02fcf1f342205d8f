-- Which bytes spell a field, and what a reader and a writer of fields do.
pub mod Grammar
pub mod Reading
pub mod Writing
