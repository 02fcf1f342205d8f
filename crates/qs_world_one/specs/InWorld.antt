-- A node over its log as a host of the world: its records on the disk are the host's log.
use Rattle.std.specs.Prelude.{◌≡◌, ◌⊎◌, ℕ, List, [], true, false}
use Rattle.std.specs.Global.{Global}
use Rattle.qs_node_kept.specs.Keeping.{no_kept}
use Rattle.qs_log.specs.Image.{IsLog}
use Rattle.qs_log.specs.Log.{LogValue}
use Rattle.qs_record.specs.declared.record.Record.{Record}
use Rattle.qs_node_step.specs.declared.event.Effects.{Effects}
use Rattle.qs_node_step.specs.declared.event.Event.{Event}
use Rattle.qs_node_step.specs.declared.setting.Setting.{Setting}
use Rattle.qs_world.specs.World.{Host}
use Rattle.qs_world.specs.World as world
use Rattle.qs_node_step.specs.Opening.{recovered_of}
use Rattle.qs_world.specs.Moves.{stepped_host, risen_host, cut_log}
use Rattle.qs_node_host.specs.Host.{HostValue, opened_host, effects_at, node_after, log_after, IsOldOrAfter}

-- the host of the world, with the stamp of its last step
abbrev pub host_of : {D : Type 0} → ℕ → HostValue D → Host
host_of stamp host = record { node = host.node; log = host.log.forced; waiting = host.log.waiting; stamp = stamp }

-- it begins as a host of the world does
abbrev pub BeginsAsHost : {D : Type 0} → Global → Setting → LogValue D → Type 0
BeginsAsHost alloc setting log =
    log.waiting ≡ [] → host_of 0 (opened_host alloc setting no_kept log) ≡ world.opened_host alloc setting log.forced

-- a whole step is the world's
abbrev pub after : {D : Type 0} → ℕ → HostValue D → Event → HostValue D
after size host event = record { node = node_after size host event; log = log_after (effects_at size host event) host.log }

abbrev pub StepsAsHost : {D : Type 0} → ℕ → ℕ → ℕ → HostValue D → Event → Type 0
StepsAsHost size before stamp host event =
    host_of stamp (after size host event)
    ≡ stepped_host stamp (node_after size host event) (effects_at size host event) (host_of before host)

-- the image has just these records
abbrev pub HasRecords : {D : Type 0} → LogValue D → List Record → List ℕ → Type 0
HasRecords log records image = (used : ℕ) × IsLog log.slots.present records used image

-- a step that is cut off leaves the records of one of the world's cuts
abbrev pub IsCutAsHost : {D : Type 0} → ℕ → Effects → HostValue D → Type 0
IsCutAsHost stamp out host = (image : List ℕ) → IsOldOrAfter out host.log image
    → HasRecords host.log (cut_log (host_of stamp host) false out) image
    ⊎ HasRecords host.log (cut_log (host_of stamp host) true out) image

-- a node that starts again over a log with the records of the host that stopped, with its allocator, its setting and what it
-- kept, rises as a host of the world does
abbrev pub RisesAsHost : {D : Type 0} → ℕ → ℕ → Host → LogValue D → Type 0
RisesAsHost stamp inc before log =
    log.forced ≡ before.log → log.waiting ≡ [] → before.waiting ≡ []
    → host_of stamp (opened_host before.node.manager.alloc (record before.node.setting { inc = inc }) before.node.kept.saved log)
    ≡ risen_host stamp inc (recovered_of before.log) before
