-- The stages of a step.
use Rattle.std.specs.Prelude.{Bool, true, false, Option, Some, None, if◌then◌else◌}
use Rattle.qs_base.specs.declared.identifiers.ClientNo.{ClientNo}
use Rattle.qs_base.specs.declared.identifiers.ServerNo.{ServerNo}
use Rattle.qs_base.specs.declared.identifiers.Tid.{Tid}

-- whose turn it is: a server's to serve, a transaction's to settle, or that of a client whose command stayed open
pub data Turn : Type 0 where
  Serves : ServerNo → Turn
  Settles : Tid → Turn
  Waits : ClientNo → Turn

-- whether what comes has come, and in whose turn the step is
pub record Stage : Type 0 where
  pub come : Bool
  pub turn : Option Turn

-- before what comes has come
abbrev pub before : Stage
before = record { come = false; turn = None }

-- after it, and between turns
abbrev pub after : Stage
after = record { come = true; turn = None }

abbrev pub during : Turn → Stage
during turn = record { come = true; turn = Some turn }

-- some rules apply as what comes is done, and again in a turn
abbrev pub in_turn : Bool → Turn → Stage
in_turn own turn = record { come = true; turn = if own then Some turn else None }

-- and some before what comes too
pub data Moment : Type 0 where
  Early : Moment
  Later : Bool → Moment

abbrev pub stage_at : Moment → Turn → Stage
stage_at Early turn = before
stage_at (Later own) turn = in_turn own turn
