-- Definitions that proofs and private functions need alone.
pub mod Acts
pub mod Answers
pub mod Begun
pub mod Lifts
pub mod Operations
pub mod Read
pub mod Reader
pub mod Said
pub mod Words
