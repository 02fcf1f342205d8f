-- A serial run of a script over disks.
pub mod Serial
-- Within such a run: the places behind the sites that have begun.
pub mod Behind
