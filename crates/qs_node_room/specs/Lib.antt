-- The bytes that a log keeps for the transactions that are not ended there.
pub mod Kept
pub mod Fits
pub mod Logs
pub mod Opens
-- What a node asks of its log before it appends.
pub mod Room
