-- What stands on the disk while the log of a node begins an incarnation.
pub mod Beginning
