-- What the rules of files read of a course, which entries leave.
pub mod Reads
-- The rules of files in four parts.
pub mod Parts
-- What a step enters as the setting of its node says.
pub mod Settings
-- What votes of files are held to.
pub mod Sizes
-- Which notes that were served the machine tells.
pub mod Told
-- Which notes files issued.
pub mod Noting
-- What is told of the notes that files have noted, and of replies.
pub mod Replied
-- The laws of every run.
pub mod Runs
