-- What only proofs and private functions speak of.

-- What becomes of a run as its output is given.
pub mod Giving
-- How what a run made is judged.
pub mod Making
-- What a run over disks comes to.
pub mod OverNodes
-- The ends of such a run.
pub mod CameTo
