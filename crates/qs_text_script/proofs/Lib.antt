pub mod LabelLemmas
pub mod OpenLemmas
pub mod ReadingLemmas
pub mod UserLemmas
