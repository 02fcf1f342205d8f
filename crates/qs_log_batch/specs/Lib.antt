-- What a batch of records is, which batches an area counts, and how batches are gathered and read.
pub mod Batch
pub mod Gathering
pub mod Reading
