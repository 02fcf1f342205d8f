-- A log, the records that wait in it and what it keeps: each step of its node finds room for its records, and leaves it so.
use Rattle.std.specs.Prelude.{◌≡◌, ◌≤◌, ℕ, ◌+◌, ◌-◌, List, [], ◌∷◌, ◌++◌}
use Rattle.qs_log.specs.Log.{need_of, waiting_length}
use Rattle.qs_record.specs.declared.record.Record.{Record}
use Rattle.qs_node_room.specs.Room.{unended, free_room}
use Rattle.qs_node_step.specs.Restarts.{begin_incarnation}
use Rattle.qs_node_step.specs.State.{NodeValue, work_on}
use Rattle.qs_node_step.specs.Step.{after_step, effects_of}
use Rattle.qs_node_step.specs.declared.event.Event.{Event}
use Rattle.qs_node_room.specs.Kept.{kept_of, total}
use Rattle.qs_node_room.specs.Fits.{AgreesAll, BeginsNew, IsEnough}

-- the bytes that more may wait: those of an area less the batches on the disk, the waiting one and the next gate
abbrev pub room_in : ℕ → ℕ → List Record → ℕ
room_in half used waiting = half - used - waiting_length waiting - 1

-- an area has room for its batches, the next gate and all that is kept: for those on the disk, which a power cut leaves, and with what waits.
-- The second does not follow from the first, nor the first from the second: an End that waits gives back what was kept
pub record HasRooms (keep half used : ℕ) (forced waiting : List Record) : Type 0 where
  pub on_disk : used + 1 + total (kept_of keep 0 forced) ≤ half
  pub with_waiting : used + waiting_length waiting + 1 + total (kept_of keep 0 (forced ++ waiting)) ≤ half

-- the bytes that a step may take
abbrev pub free_to : ℕ → ℕ → ℕ → List Record → List Record → ℕ
free_to keep half used forced waiting = free_room (room_in half used waiting) keep (unended (forced ++ waiting))

-- there is room for each record that a step makes as its turn comes, and then for all that is kept: while they wait, once all are forced, and where
-- all that waits is lost
pub record HasRoomFor (keep half used : ℕ) (forced waiting made : List Record) : Type 0 where
  pub appends : (done : List Record) (rec : Record) (more : List Record) → made ≡ done ++ rec ∷ more
      → need_of (waiting ++ done) rec ≤ room_in half used (waiting ++ done)
  pub waits : HasRooms keep half used forced (waiting ++ made)
  pub is_forced : HasRooms keep half (used + waiting_length (waiting ++ made)) (forced ++ (waiting ++ made)) []
  pub is_lost : HasRooms keep half used forced []

-- and the node knows what is kept then
pub record IsRoomyAfter (keep half used : ℕ) (forced waiting made : List Record) (later : NodeValue) : Type 0 where
  pub agrees : AgreesAll keep 0 later (kept_of keep 0 (forced ++ (waiting ++ made)))
  pub room : HasRoomFor keep half used forced waiting made

abbrev pub EachStepLogs : Type 0
EachStepLogs = (keep half used : ℕ) (forced waiting : List Record) (node : NodeValue) (event : Event) → IsEnough keep 0
    → AgreesAll keep 0 node (kept_of keep 0 (forced ++ waiting)) → HasRooms keep half used forced waiting
    → BeginsNew event (begin_incarnation (work_on node (free_to keep half used forced waiting)))
    → IsRoomyAfter keep half used forced waiting (effects_of node event (free_to keep half used forced waiting)).records
    (after_step node event (free_to keep half used forced waiting))
