-- What the rows of this crate are made of: scripts, entries, and histories with one entry changed.
use Rattle.std.specs.Prelude.{ℕ, suc, zero, true, false, List, [], ◌∷◌, map, replicate, Option, Some, None}
use Rattle.qs_base.specs.declared.identifiers.ClientNo.{ClientNo}
use Rattle.qs_base.specs.declared.identifiers.Member.{Member}
use Rattle.qs_base.specs.declared.identifiers.NodeNo.{NodeNo}
use Rattle.qs_base.specs.declared.identifiers.Tid.{Tid}
use Rattle.qs_ops.specs.declared.operation.Op.{Op}
use Rattle.qs_ops.specs.declared.operation.Op.TheVariants.{Put, Get}
use Rattle.qs_book_journal.specs.declared.entry.Act.{Act}
use Rattle.qs_book_journal.specs.declared.entry.Entry.{Entry}
use Rattle.qs_book_journal.specs.declared.script_line.Command.{Command}
use Rattle.qs_book_journal.specs.declared.script_line.Command.TheVariants as commands
use Rattle.qs_book_journal.specs.declared.script_line.PointKind.{PointKind}
use Rattle.qs_book_journal.specs.declared.script_line.ScriptLine.{ScriptLine}
use Rattle.qs_book_machine.specs.Book.{BookValue}
use Rattle.qs_book_machine.specs.Opening.{opening}
use Rattle.qs_book_machine.specs.declared.opened.Opened.{Opened}
use Rattle.qs_book_script.specs.declared.script.Planned.{Planned}
use Rattle.qs_book_script.specs.declared.script.Planned.TheVariants as plans
use Rattle.qs_book_script.specs.declared.script.Script.{Script}
use Rattle.qs_book_script.specs.declared.script.Seat.{Seat}
use Rattle.qs_book_conformance.specs.Conforming.{first_misfit}
use Rattle.qs_book_conformance.specs.declared.fault.Fault.TheVariants as faults
use Rattle.qs_book_conformance.specs.declared.fault.Misfit.{Misfit}
use Rattle.qs_book_conformance.specs.declared.fault.Rule.{Rule}

-- ---- names

abbrev pub node : ℕ → NodeNo
node n = record { 0 = n }

abbrev pub client : ℕ → ClientNo
client k = record { 0 = k }

abbrev pub member : ℕ → ℕ → Member
member n server = record { node = node n; server = record { 0 = server } }

-- the transaction with this number of those that began at node 0 in its first incarnation
abbrev pub tid : ℕ → Tid
tid seq = record { home = node 0; inc = 1; seq = seq }

abbrev pub put : List ℕ → List ℕ → Op
put name text = Put name text

abbrev pub get : List ℕ → Op
get name = Get name

-- ---- scripts

abbrev pub seat : ℕ → ℕ → Seat
seat k n = record { client = client k; node = node n }

abbrev pub said : ℕ → ℕ → List ℕ → Command → ScriptLine
said k line label command = record { client = client k; line = line; label = label; command = command }

abbrev pub asks : ℕ → ℕ → Op → Command
asks n server op = commands.Request (member n server) op

-- a script of these clients and commands
abbrev pub script : List Seat → List ScriptLine → Script
script seats lines = record { seats = seats; quotas = []; audit = None; faults = []; lines = lines; count = 0 }

-- and of these faults besides
abbrev pub with_faults : List Planned → Script → Script
with_faults plans script = record script { faults = map (λ plan. record { line = 1; fault = plan }) plans }

abbrev pub with_quota : ℕ → ℕ → Script → Script
with_quota n bytes script = record script { quotas = record { node = node n; bytes = bytes } ∷ [] }

abbrev pub with_audit : ℕ → Script → Script
with_audit n script = record script { audit = Some (node n) }

abbrev pub crash : ℕ → Planned
crash n = plans.Crash (node n) 5

abbrev pub stop : ℕ → Planned
stop n = plans.Stop (node n) 5

abbrev pub before : ℕ → PointKind → List ℕ → Planned
before n kind label = plans.At (node n) (record { after = false; kind = kind; label = label })

abbrev pub after : ℕ → PointKind → List ℕ → Planned
after n kind label = plans.At (node n) (record { after = true; kind = kind; label = label })

-- ---- openings: so many nodes with fresh disks

abbrev pub fresh : Opened
fresh = record { inc = 1; format = 1; files = []; audit = []; extra = []; pending = []; committed = [] }

abbrev pub nodes : ℕ → BookValue
nodes count = opening (replicate count fresh)

-- ---- histories

abbrev pub entry : ℕ → ℕ → Act → Entry
entry stamp n act = record { stamp = stamp; node = node n; act = act }

-- the entries of a step
abbrev pub step : ℕ → ℕ → List Act → List Entry
step stamp n acts = map (entry stamp n) acts

-- the entry at a place is replaced, and what follows is left off
abbrev pub ending : {A : Type 0} → ℕ → List A → List A → List A
ending zero end xs = end
ending (suc n) end [] = end
ending (suc n) end (x ∷ xs) = x ∷ ending n end xs

-- ---- verdicts, over fresh disks

abbrev pub judged : ℕ → Script → List Entry → Option Misfit
judged count script history = first_misfit script (nodes count) history

abbrev pub well : Option Misfit
well = None

abbrev pub broken_at : ℕ → Rule → Option Misfit
broken_at place rule = Some (record { place = place; fault = faults.Broken rule })

abbrev pub unlawful_at : ℕ → ℕ → Option Misfit
unlawful_at place clause = Some (record { place = place; fault = faults.Unlawful clause })
