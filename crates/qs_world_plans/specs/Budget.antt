-- How many rounds a run may have.
use Rattle.std.specs.Prelude.{ℕ, ◌+◌, ◌-◌, ◌*◌, ◌^◌, Bool, true, false, List, length, min}
use Rattle.std.specs.List.{count_by}
use Rattle.qs_book_journal.specs.declared.entry.Act.{Act}
use Rattle.qs_book_journal.specs.declared.entry.Act.TheVariants as acts
use Rattle.qs_book_journal.specs.declared.entry.CrashCause.{CrashCause}
use Rattle.qs_book_journal.specs.declared.entry.CrashCause.TheVariants as causes
use Rattle.qs_book_journal.specs.declared.entry.Entry.{Entry}
use Rattle.qs_book_script.specs.declared.script.Script.{Script}

-- the rounds for each command and one more, and that again for each stop and one more
abbrev pub rounds_each : ℕ
rounds_each = 4096

-- the faults of disks that are counted
abbrev pub most_disk_crashes : ℕ
most_disk_crashes = 64

abbrev pub is_disk_cause : CrashCause → Bool
is_disk_cause (causes.Disk from to) = true
is_disk_cause _ = false

abbrev pub is_disk_crash : Act → Bool
is_disk_crash (acts.Crash cause) = is_disk_cause cause
is_disk_crash _ = false

abbrev pub tells_disk_crash : Entry → Bool
tells_disk_crash entry = is_disk_crash entry.act

-- how often a fault of a disk stopped its node, as far as it is counted
abbrev pub disk_crashes : List Entry → ℕ
disk_crashes journal = min (count_by tells_disk_crash journal) most_disk_crashes

-- numbers end at 64 bits
abbrev pub capped : ℕ → ℕ
capped n = min n (2 ^ 64 - 1)

-- the commands of the script, its fault lines, and the faults of disks so far
abbrev pub budget_of : ℕ → ℕ → ℕ → ℕ
budget_of commands faults crashes = capped (capped (rounds_each * capped (commands + 1)) * capped (capped (faults + crashes) + 1))

abbrev pub budget : Script → List Entry → ℕ
budget script journal = budget_of (length script.lines) (length script.faults) (disk_crashes journal)

-- as many as it has where all faults of disks that are counted came
abbrev pub most_budget : Script → ℕ
most_budget script = budget_of (length script.lines) (length script.faults) most_disk_crashes
