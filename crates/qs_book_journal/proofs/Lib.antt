pub mod MergeLemmas
pub mod OnceLemmas
