-- The laws of the kinds of rules: each is kept by itself, and most entries leave what the course has of clients.
use Rattle.std.specs.Prelude.{◌≡◌, ⊤, ℕ, List, Option, Some}
use Rattle.qs_book_journal.specs.declared.entry.Act.{Act}
use Rattle.qs_book_journal.specs.declared.entry.Act.TheVariants as acts
use Rattle.qs_book_journal.specs.declared.entry.Entry.{Entry}
use Rattle.qs_ops.specs.declared.answer.Cause.{Cause}
use Rattle.qs_ops.specs.declared.answer.Cause.TheVariants as causes
use Rattle.qs_book_conformance.specs.Conforming.{IsKeptTo}
use Rattle.qs_book_conformance.specs.Course.{CourseValue}
use Rattle.qs_book_conformance.specs.Effects.{course_after, line_effect}
use Rattle.qs_world_course.specs.Kinds.{Keeps, filed, said, stopped}

-- what keeps each kind keeps the script
abbrev pub KindsAreAll : Type 0
KindsAreAll = (course : CourseValue) (entries : List Entry) → Keeps said course entries → Keeps filed course entries → Keeps stopped course entries
    → IsKeptTo course entries

-- what an entry does to fault lines leaves the rest
pub record LeavesClients (old new : CourseValue) : Type 0 where
  pub clients : new.clients ≡ old.clients
  pub replies : new.replies ≡ old.replies
  pub book : new.book ≡ old.book
  pub audit : new.audit ≡ old.audit

abbrev pub LinesLeaveClients : Type 0
LinesLeaveClients = (stamp here : ℕ) (act : Act) (course : CourseValue) → LeavesClients course (line_effect stamp here act course)

-- ---- an entry that is no command's

abbrev pub IsUnasked : Option Cause → Type 0
IsUnasked (Some causes.Asked) = ⊥
IsUnasked cause = ⊤

abbrev pub IsQuiet : Act → Type 0
IsQuiet (acts.Begin tid label client) = ⊥
IsQuiet (acts.Issue tid issuer member number op) = ⊥
IsQuiet (acts.Serve tid member from number reply) = ⊥
IsQuiet (acts.Ask tid) = ⊥
IsQuiet (acts.Decide tid outcome cause) = IsUnasked cause
IsQuiet (acts.Answer client line answer) = ⊥
IsQuiet (acts.Loan tid client) = ⊥
IsQuiet (acts.Yield tid client) = ⊥
IsQuiet act = ⊤

abbrev pub QuietLeavesClients : Type 0
QuietLeavesClients = (course : CourseValue) (entry : Entry) → IsQuiet entry.act
    → ((course_after course entry).clients ≡ course.clients) × ((course_after course entry).replies ≡ course.replies)
