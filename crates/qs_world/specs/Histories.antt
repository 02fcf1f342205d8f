-- The history of a run, as the reference machine reads it.
use Rattle.std.specs.Prelude.{ℕ, ◌+◌, ◌==◌, List, [], ◌∷◌, zero, suc, if◌then◌else◌}
use Rattle.std.specs.List.{flat_map}
use Rattle.qs_book_machine.specs.Book.{BookValue}
use Rattle.qs_book_machine.specs.Lawful.{IsLawful}
use Rattle.qs_book_machine.specs.Opening.{opening}
use Rattle.qs_book_machine.specs.declared.opened.Opened.{Opened}
use Rattle.qs_book_machine.specs.declared.opened.Pending.{Pending}
use Rattle.qs_node_step.specs.declared.setting.Setting.{Setting}
use Rattle.qs_record.specs.declared.record.Record.{Record}
use Rattle.qs_record.specs.declared.record.Record.TheVariants as records
use Rattle.qs_restart.specs.declared.recovered.Recovered.{Recovered}
use Rattle.qs_node_step.specs.Opening.{recovered_of, opened_servers}
use Rattle.qs_world.specs.World.{World, Opening, start}
use Rattle.qs_world.specs.Moves.{Move}
use Rattle.qs_world.specs.Openings.{IsOpening}
use Rattle.qs_world.specs.Runs.{Run}

abbrev pub pending_of : Record → List Pending
pending_of (records.Prepare tid server covers changes) = record { tid = tid; server = server; covers = covers; changes = changes } ∷ []
pending_of (records.Commit tid told) = []
pending_of (records.Aborted tid) = []
pending_of (records.End tid) = []

-- the format of a disk, by the bytes before each record
abbrev pub format_of : ℕ → ℕ
format_of extra = if extra == 0 then 1 else 2

abbrev pub opened_with : Setting → Recovered → Opened
opened_with setting found = record {
  inc = setting.inc;
  format = format_of setting.extra;
  files = (opened_servers setting.quota found).files.table.contents;
  audit = (opened_servers setting.quota found).audit.table.notes;
  extra = [];
  pending = flat_map pending_of found.in_doubt;
  committed = found.committed;
}

-- what the logs hold as the world begins, from a node on
abbrev pub opened_from : Opening → ℕ → ℕ → List Opened
opened_from o n zero = []
opened_from o n (suc more) = opened_with (o.settings n) (recovered_of (o.logs n)) ∷ opened_from o (n + 1) more

-- the reference machine as the world begins
abbrev pub book_of : Opening → BookValue
book_of o = opening (opened_from o 0 o.size)

-- the law of every run that begins as it may: its history is lawful
abbrev pub IsLawfulRun : Opening → List Move → World → Type 0
IsLawfulRun o moves new = IsOpening o → Run (start o) moves new → IsLawful (book_of o) new.journal
