pub mod KnownLemmas
pub mod Learning
