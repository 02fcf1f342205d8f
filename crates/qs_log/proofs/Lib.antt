-- What a log's holder proves of images.
pub mod Areas
pub mod Batches
pub mod Images
pub mod ReadLemmas
pub mod Forcing
pub mod Raising
pub mod RecordLemmas
pub mod Holding
pub mod Fresh
