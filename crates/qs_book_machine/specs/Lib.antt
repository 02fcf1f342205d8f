pub mod Book
pub mod Causes
pub mod Clauses
pub mod Lawful
pub mod Nodes
pub mod Opening
pub mod Restart
pub mod Transaction
