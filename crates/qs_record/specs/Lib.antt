-- Which bytes spell identifiers, members, lists of nodes, operations and records, and how they are read.
pub mod Grammar
pub mod Reading
pub mod Writing
