pub mod FirstLemmas
