-- A disk over a file, as its callers see it: which file, how large, how often it failed, and why it failed last. Its content is
-- not told.
use Rattle.std.specs.Prelude.{ℕ, List, [], Option}
use Rattle.qs_disk.specs.Disk.{DiskState}
use Rattle.qs_disk_file.specs.declared.trouble.Trouble.{Trouble}

-- the path of the file, how many calls failed, and why the last of them did
pub record FileValue : Type 0 where
  pub path : List ℕ
  pub faults : ℕ
  pub trouble : Option Trouble

abbrev pub file_bytes : FileValue → ℕ
file_bytes disk = 16777216

-- stands for what is not told
abbrev pub file_state : FileValue → DiskState
file_state disk = record { content = []; now = record { stable = []; loose = [] }; past = [] }
