-- A node that knows of other Commits of earlier logs, and a step of it that is the same.
use Rattle.std.specs.Prelude.{◌≡◌, ℕ, List, None, ⊤}
use Rattle.qs_base.specs.declared.identifiers.Tid.{Tid}
use Rattle.qs_packet.specs.declared.message.Message.TheVariants as messages
use Rattle.qs_node_step.specs.Answering.{was_committed}
use Rattle.qs_node_step.specs.Restarts.{begin_incarnation}
use Rattle.qs_node_step.specs.State.{NodeValue, Work, part_of, work_on}
use Rattle.qs_node_step.specs.Step.{after_step, effects_of}
use Rattle.qs_node_step.specs.declared.event.Event.{Event}
use Rattle.qs_node_step.specs.declared.event.Event.TheVariants as events

-- the same node, with these transactions as those whose Commits its log held
abbrev pub knowing : List Tid → NodeValue → NodeValue
knowing committed node = record node { committed = committed }

abbrev pub work_knowing : List Tid → Work → Work
work_knowing committed work = record work { node = knowing committed work.node }

-- the step begins on this
abbrev pub begun_on : NodeValue → ℕ → Work
begun_on node free = begin_incarnation (work_on node free)

-- an inquiry about a transaction of which the node keeps nothing else is answered the same
abbrev pub AsksAlike : List Tid → Event → Work → Type 0
AsksAlike committed (events.Received peer (messages.Inquire tid)) work = part_of tid work ≡ None → was_committed tid (knowing committed work.node) ≡ was_committed tid work.node
AsksAlike committed event work = ⊤

pub record IsSameStep (committed : List Tid) (node : NodeValue) (event : Event) (free : ℕ) : Type 0 where
  pub effects : effects_of (knowing committed node) event free ≡ effects_of node event free
  pub after : after_step (knowing committed node) event free ≡ knowing committed (after_step node event free)

abbrev pub EachStepIsSame : Type 0
EachStepIsSame = (committed : List Tid) (node : NodeValue) (event : Event) (free : ℕ) → AsksAlike committed event (begun_on node free) → IsSameStep committed node event free
