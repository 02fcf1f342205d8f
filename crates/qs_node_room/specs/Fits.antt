-- What a node knows of its log agrees with what the log keeps, and what a step spends, what is kept after it and what is free stay within the log.
use Rattle.std.specs.Prelude.{◌≡◌, ◌≤◌, ℕ, ◌+◌, ◌-◌, ◌*◌, true, false, List, ◌++◌, Option, Some, None, length, ⊤}
use Rattle.qs_base.specs.Order.{tid_cmp}
use Rattle.qs_base.specs.declared.identifiers.Tid.{Tid}
use Rattle.qs_book_journal.specs.declared.script_line.Command.TheVariants as commands
use Rattle.qs_record.specs.declared.record.Record.{Record}
use Rattle.qs_node_step.specs.Restarts.{begin_incarnation}
use Rattle.qs_node_step.specs.State.{NodeValue, Work, work_on}
use Rattle.qs_node_step.specs.Step.{after_step, effects_of}
use Rattle.qs_node_step.specs.declared.event.Event.{Event}
use Rattle.qs_node_step.specs.declared.event.Event.TheVariants as events
use Rattle.qs_tm.specs.Manager as tm
use Rattle.qs_tm.specs.declared.participant.Participant.{Participant}
use Rattle.qs_node_room.specs.Kept.{Kept, kept_at, kept_after, kept_of, spent, total}
use Rattle.qs_book_laws.proofs.Rising.{IsRising}

-- what is kept of a transaction, and the bytes that its log keeps for it
pub record IsPartKept (keep extra : ℕ) (part : Participant) (bytes : Option ℕ) : Type 0 where
  pub prepared : part.log.prepared ≡ true → part.log.unended ≡ true
  pub listed : part.log.listed ≡ true → part.log.unended ≡ true
  pub fresh : part.outcome ≡ None → part.log.listed ≡ false
  pub held : part.log.unended ≡ true → part.outcome ≡ None → part.involved ≡ true
  pub none : part.log.unended ≡ false → bytes ≡ None
  pub some : part.log.unended ≡ true → (left : ℕ) × (bytes ≡ Some left) × (41 + extra + 15 ≤ left)
  pub whole : part.log.unended ≡ true → part.log.listed ≡ false → bytes ≡ Some keep

abbrev pub Agrees : ℕ → ℕ → Option Participant → Option ℕ → Type 0
Agrees keep extra None bytes = bytes ≡ None
Agrees keep extra (Some part) bytes = IsPartKept keep extra part bytes

-- a node over what its log keeps
pub record AgreesAll (keep extra : ℕ) (node : NodeValue) (kept : Kept) : Type 0 where
  pub keep_is : node.setting.keep ≡ keep
  pub extra_is : node.setting.extra ≡ extra
  pub keep_too : node.manager.keep ≡ keep
  pub extra_too : node.manager.extra ≡ extra
  pub known : IsRising tid_cmp node.manager.known
  pub rising : IsRising tid_cmp kept
  pub parts : (tid : Tid) → Agrees keep extra (tm.part_of tid node.manager) (kept_at tid kept)

-- in the middle of a step that began with so many bytes in the log
pub record IsRoomy (keep extra bytes : ℕ) (before : Kept) (work : Work) : Type 0 where
  pub agrees : AgreesAll keep extra work.node (kept_after keep extra before work.out.records)
  pub within : spent extra work.out.records + total (kept_after keep extra before work.out.records) + work.room ≤ bytes

-- ---- the law

-- a transaction that a client begins is not known
abbrev pub BeginsNew : Event → Work → Type 0
BeginsNew (events.Command client line label commands.Begin) work = tm.part_of (tm.next_tid work.node.manager) work.node.manager ≡ None
BeginsNew event work = ⊤

-- a Commit of all nodes and what ends it
abbrev pub IsEnough : ℕ → ℕ → Type 0
IsEnough keep extra = (41 + extra + 31) + (41 + extra + 15) ≤ keep

-- a log with so many bytes beside its batches, those that wait and the next gate, has room for what it keeps; then it has room for the records of the
-- step and for what is kept after it, where no more is free to the step than what is kept whole for each leaves
abbrev pub EachStepFits : Type 0
EachStepFits = (keep extra bytes : ℕ) (log : List Record) (node : NodeValue) (event : Event) (free : ℕ) → IsEnough keep extra → AgreesAll keep extra node (kept_of keep extra log)
    → total (kept_of keep extra log) ≤ bytes → free ≤ bytes - keep * length (kept_of keep extra log)
    → BeginsNew event (begin_incarnation (work_on node free))
    → AgreesAll keep extra (after_step node event free) (kept_of keep extra (log ++ (effects_of node event free).records))
    × (spent extra (effects_of node event free).records + total (kept_of keep extra (log ++ (effects_of node event free).records)) ≤ bytes)
