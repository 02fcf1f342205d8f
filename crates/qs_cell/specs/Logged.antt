-- Each image of a node's disk has a log, whatever stopped the node, and what the log held as the node was started is at its front.
use Rattle.std.specs.Prelude.{◌≡◌, ◌≤◌, ℕ, ◌+◌, ◌-◌, List, ◌++◌}
use Rattle.qs_disk.specs.Disk.{Frame, EachImage}
use Rattle.qs_log_start.specs.Incarnation.{HasOneOf, open_limit, reopen_limit}
use Rattle.qs_log.specs.Image.{IsLog}
use Rattle.qs_book_machine.specs.declared.opened.Opened.{Opened}
use Rattle.qs_record.specs.declared.record.Record.{Record}
use Rattle.qs_slot.specs.Slot.{Present, StandBelow}
use Rattle.qs_node_step.specs.Opening.{recovered_of}
use Rattle.qs_node_step.specs.declared.setting.Setting.{Setting}
use Rattle.qs_world.specs.Histories.{opened_with}

-- the records go on from those that say what the machine opens with
pub record GoesOn (opened : Opened) (records : List Record) : Type 0 where
  pub first : Setting
  pub old : List Record
  pub more : List Record
  pub is : records ≡ old ++ more
  pub says : opened ≡ opened_with first (recovered_of old)

-- the image has a log whose records go on from these
pub record HasLog (opened : Opened) (image : List ℕ) : Type 0 where
  pub present : Present
  pub records : List Record
  pub used : ℕ
  pub log : IsLog present records used image
  pub goes_on : GoesOn opened records

-- each image has a log of these records or of those, as of the last batch or without it
pub record IsLogged (opened : Opened) (frame : Frame) : Type 0 where
  pub first : List Record
  pub other : List Record
  pub each : EachImage (HasOneOf first other) frame
  pub first_on : GoesOn opened first
  pub other_on : GoesOn opened other

-- ---- how far its slots stand

-- a run begins with slots below its limit, its start raises them by one, and each round by one at most
abbrev pub limit_after : ℕ → ℕ
limit_after rounds = open_limit + 1 + rounds

-- so many rounds leave them below the limit of a node that starts again
abbrev pub most_rounds : ℕ
most_rounds = reopen_limit - limit_after 0

-- the slots of each image stand so
abbrev pub StandsWithin : ℕ → Frame → Type 0
StandsWithin rounds frame = rounds ≤ most_rounds → EachImage (StandBelow (limit_after rounds)) frame
