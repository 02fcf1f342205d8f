-- What a disk holds, what a power cut may leave of it at each moment, and disks in memory.
pub mod Disk
pub mod Moments
pub mod Cells
pub mod Memory
pub mod Fuse
pub mod FuseLaws
