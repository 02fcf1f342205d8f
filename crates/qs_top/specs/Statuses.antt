-- Statuses by what they say of how far a run came.
use Rattle.std.specs.Prelude.{⊤}
use Rattle.qs_book_script.specs.declared.status.Status.{Status}
use Rattle.qs_book_script.specs.declared.status.Status.TheVariants as statuses

-- where A does not hold, B does
abbrev pub IfNot : Type 0 → Type 0 → Type 0
IfNot A B = (A → ⊥) → B

-- those of a run that came to its end
abbrev pub IsEnd : Status → Type 0
IsEnd statuses.Finished = ⊤
IsEnd (statuses.Unfinished rounds waiting) = ⊤
IsEnd _ = ⊥

-- those that come after the logs were raised
abbrev pub IsPastOpening : Status → Type 0
IsPastOpening statuses.WriteFault = ⊤
IsPastOpening (statuses.Unlawful line clause) = ⊤
IsPastOpening status = IsEnd status

-- those that come after the script was read; want of memory may come earlier
abbrev pub IsPastScript : Status → Type 0
IsPastScript (statuses.DiskFault node) = ⊤
IsPastScript (statuses.Damaged node at) = ⊤
IsPastScript status = IsPastOpening status

-- those with which something is given
abbrev pub Gives : Status → Type 0
Gives statuses.WriteFault = ⊤
Gives status = IsEnd status

-- those with which a journal may be told
abbrev pub Tells : Status → Type 0
Tells (statuses.DiskFault node) = ⊤
Tells status = Gives status

-- those of a run whose script was read, before its output is given
abbrev pub IsOfRounds : Status → Type 0
IsOfRounds (statuses.DiskFault node) = ⊤
IsOfRounds (statuses.Damaged node at) = ⊤
IsOfRounds (statuses.Unlawful line clause) = ⊤
IsOfRounds statuses.NoMemory = ⊤
IsOfRounds status = IsEnd status

-- those of a run
abbrev pub IsOfRun : Status → Type 0
IsOfRun statuses.Usage = ⊤
IsOfRun (statuses.Script line fault) = ⊤
IsOfRun statuses.ReadFault = ⊤
IsOfRun statuses.NoMemory = ⊤
IsOfRun status = IsPastScript status
