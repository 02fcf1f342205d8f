pub mod ConformingLemmas
