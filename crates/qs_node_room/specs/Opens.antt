-- A node that opens over a log knows of it what the log keeps.
use Rattle.std.specs.Prelude.{◌≡◌, ℕ, Bool, true, ◌&&◌, ◌||◌, List, length, nat_le}
use Rattle.std.specs.Global.{Global}
use Rattle.std.specs.List.{list_all}
use Rattle.qs_node_kept.specs.declared.kept.Kept as clients
use Rattle.qs_log.specs.Image.{IsLog}
use Rattle.qs_record.specs.Grammar.{IsRecord}
use Rattle.qs_record.specs.declared.record.Record.{Record}
use Rattle.qs_record.specs.declared.record.Record.TheVariants as records
use Rattle.qs_restart.specs.Recovery.{Prepared, Recovery, Untold, names_transaction, recovery}
use Rattle.qs_slot.specs.Slot.{Present}
use Rattle.qs_node_step.specs.Opening.{opened_node, recovered_of}
use Rattle.qs_node_step.specs.declared.setting.Setting.{Setting}
use Rattle.qs_node_room.specs.Kept.{kept_of}
use Rattle.qs_node_room.specs.Fits.{AgreesAll, IsEnough}

-- a Commit names at most so many nodes as there are
abbrev pub is_short : Record → Bool
is_short (records.Prepare tid server covers changes) = true
is_short (records.Commit tid told) = nat_le (length told) 16
is_short (records.Aborted tid) = true
is_short (records.End tid) = true

abbrev pub is_named_vote : Prepared → Bool
is_named_vote vote = vote.committed || names_transaction vote.tid

abbrev pub is_named_commit : Untold → Bool
is_named_commit commit = names_transaction commit.tid

-- what is in doubt, and what is still to be told, is of transactions: no number 0
abbrev pub are_named : Recovery → Bool
are_named said = list_all is_named_vote said.prepared && list_all is_named_commit said.untold

abbrev pub EachOpens : Type 0
EachOpens = (alloc : Global) (setting : Setting) (log : List Record) (kept : clients.Kept) → IsEnough setting.keep setting.extra → list_all is_short log ≡ true → are_named (recovery log) ≡ true
    → AgreesAll setting.keep setting.extra (opened_node alloc setting (recovered_of log) kept) (kept_of setting.keep setting.extra log)

-- each record that has a spelling is so
abbrev pub EachIsShort : Type 0
EachIsShort = (rec : Record) → IsRecord rec → is_short rec ≡ true

-- and so is each of a log on a disk
abbrev pub EachLogIsShort : Type 0
EachLogIsShort = (present : Present) (records : List Record) (used : ℕ) (image : List ℕ) → IsLog present records used image → list_all is_short records ≡ true
