-- Ranges of bytes, and what slots say as their bytes change.
pub mod Ranges
pub mod SlotLemmas
pub mod PairLemmas
pub mod TurningLemmas
pub mod WritingLemmas
pub mod OpeningLemmas
pub mod BodyLemmas
pub mod StagingLemmas
pub mod Limits
