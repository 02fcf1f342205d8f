-- Why a node stops.
--
-- Each crash by plan has a fault line of its node of its own. A line `after` is the ground of a crash right after the step that
-- made its entry, and of no other, so such a crash has it. The other crashes share the lines `crash` and `stop`, each of which may
-- be the ground of any of them, since a journal numbers neither events nor disk calls, and the lines `before`, each of which may be
-- that of any crash before its entry. So once an entry stands that a line `before` names, the line goes to one of the crashes that
-- have none yet, all of which came earlier: no later crash may have it, and every line that is left may still be that of the others.
use Rattle.std.specs.Prelude.{ℕ, ◌+◌, ◌-◌, ◌^◌, ◌==◌, Bool, false, ◌&&◌, ◌||◌, Option, Some, None, slice_get, nat_lt, nat_le, if◌then◌else◌}
use Rattle.qs_book_journal.specs.declared.entry.CrashCause.{CrashCause}
use Rattle.qs_book_journal.specs.declared.entry.CrashCause.TheVariants as crashes
use Rattle.qs_book_conformance.specs.Course.{CourseValue}
use Rattle.qs_book_conformance.specs.declared.fault.Rule.{Rule}
use Rattle.qs_book_conformance.specs.declared.fault.Rule.TheVariants as rules
use Rattle.qs_book_conformance.specs.declared.values.NodeCourse.{NodeCourse}

-- no stamp is greater
abbrev pub last_stamp : ℕ
last_stamp = 2 ^ 62 - 1

-- the step before made the entry after which a line stops the node; the crash is a step of its own, with a greater stamp where there is one
abbrev pub is_right_after : NodeCourse → ℕ → Bool
is_right_after node stamp = node.is_after && (nat_lt node.stamp stamp || (stamp == last_stamp))

-- a line is left for one more
abbrev pub has_line : NodeCourse → Bool
has_line node = nat_lt node.owing node.lines

-- the last numbers of counters: of stamps, messages and requests of a node, and of fields of 32 bits
abbrev pub is_last : ℕ → Bool
is_last value = (value == 2 ^ 62 - 1) || (value == 2 ^ 32 - 1)

-- a refusal of memory may stop a node at any time
abbrev pub broken_cause : NodeCourse → ℕ → CrashCause → Option Rule
broken_cause node stamp crashes.Plan =
    if is_right_after node stamp || has_line node then None else Some rules.CrashHasItsLine
broken_cause node stamp (crashes.Disk from to) = if nat_le node.faults from then None else Some rules.DiskCountsFollow
broken_cause node stamp (crashes.Last value) = if is_last value then None else Some rules.StandsAtLast
broken_cause node stamp crashes.Memory = None

abbrev pub broken_crash : CourseValue → ℕ → ℕ → CrashCause → Option Rule
broken_crash course here stamp cause = elim (slice_get course.nodes here) [
  | None ↦ Some rules.CrashHasItsLine
  | Some node ↦ broken_cause node stamp cause
]

-- ---- what a crash does

-- one more crash has a line of which it is not settled which
abbrev pub crashed_by : ℕ → CrashCause → NodeCourse → NodeCourse
crashed_by stamp crashes.Plan node = if is_right_after node stamp then node else record node { owing = node.owing + 1 }
crashed_by stamp (crashes.Disk from to) node = record node { faults = to }
crashed_by stamp _ node = node

abbrev pub stopped : ℕ → CrashCause → NodeCourse → NodeCourse
stopped stamp cause node = record (crashed_by stamp cause node) { is_after = false }

-- ---- what an entry does that a line names

-- a line `before` goes to a crash that has none yet, or is past for nothing
abbrev pub passed_by : NodeCourse → NodeCourse
passed_by node = record node { lines = node.lines - 1; owing = node.owing - 1 }
