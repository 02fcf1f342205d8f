pub mod AreaLemmas
pub mod BatchLemmas
pub mod CutLemmas
pub mod Fronts
pub mod GatheringLemmas
pub mod ReadLemmas
pub mod RecordsLemmas
