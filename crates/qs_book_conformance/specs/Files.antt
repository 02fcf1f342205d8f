-- Quotas and audit: what files vote for, and which notes files issue.
use Rattle.std.specs.Prelude.{ℕ, ◌==◌, Bool, true, false, not, ◌&&◌, ◌||◌, List, [], ◌∷◌, Option, Some, None, slice_get, nat_le, if◌then◌else◌}
use Rattle.qs_base.specs.declared.identifiers.Member.{Member}
use Rattle.qs_base.specs.declared.identifiers.NodeNo.{NodeNo}
use Rattle.qs_base.specs.declared.identifiers.Tid.{Tid}
use Rattle.qs_book_journal.specs.declared.entry.Found.{Found}
use Rattle.qs_ops.specs.Servers.{files_no, audit_no}
use Rattle.qs_ops.specs.Table.{view_bytes}
use Rattle.qs_ops.specs.declared.vote.Reason.TheVariants as reasons
use Rattle.qs_ops.specs.declared.vote.Vote.{Vote}
use Rattle.qs_ops.specs.declared.vote.Vote.TheVariants as votes
use Rattle.qs_book_machine.specs.Book.{find_transaction}
use Rattle.qs_book_machine.specs.Clauses.{note_text, note_here, files_count}
use Rattle.qs_book_machine.specs.Nodes.{NodeValue}
use Rattle.qs_book_machine.specs.Restart.{is_new_vote, member_at}
use Rattle.qs_book_machine.specs.Transaction.{TransactionValue, is_crossed, has_note}
use Rattle.qs_book_conformance.specs.Course.{CourseValue}
use Rattle.qs_book_conformance.specs.Begun.{default_quota}
use Rattle.qs_book_conformance.specs.declared.fault.Rule.{Rule}
use Rattle.qs_book_conformance.specs.declared.fault.Rule.TheVariants as rules
use Rattle.qs_book_conformance.specs.declared.values.NodeCourse.{NodeCourse}

abbrev pub quota_of : Option NodeCourse → ℕ
quota_of None = default_quota
quota_of (Some node) = node.quota

abbrev pub quota_at : CourseValue → ℕ → ℕ
quota_at course here = quota_of (slice_get course.nodes here)

-- what the transaction makes of files here has at most so many bytes; of a crossed one that is not known
abbrev pub is_within : ℕ → NodeValue → ℕ → Tid → TransactionValue → Bool
is_within quota node here tid tx = is_crossed tx (member_at here files_no) || nat_le (view_bytes node.files tid) quota

-- the note that tells how many changes files here hold now was served
abbrev pub is_noted : NodeValue → ℕ → Tid → TransactionValue → Bool
is_noted node here tid tx = has_note tx (note_here here node (note_text tid here (files_count here node tx)))

-- where the script names no node for them, no notes are asked for; where the transaction is crossed at the audit server, it is not known
-- which of the notes of one number was served, and none is owed
abbrev pub needs_no_note : Option NodeNo → TransactionValue → Bool
needs_no_note None tx = true
needs_no_note (Some audit) tx = is_crossed tx (member_at audit.0 audit_no)

-- a vote of files that stands for changes: noted, ..
abbrev pub broken_owed_note : CourseValue → NodeValue → ℕ → Tid → TransactionValue → Option Rule
broken_owed_note course node here tid tx =
    if needs_no_note course.audit tx || is_noted node here tid tx then None else Some rules.NoteWasServed

-- .. and within the quota as it is made
abbrev pub broken_stake : CourseValue → NodeValue → ℕ → Tid → TransactionValue → Option Rule
broken_stake course node here tid tx =
    if not (is_within (quota_at course here) node here tid tx) then Some rules.WithinQuota
    else broken_owed_note course node here tid tx

-- a refusal for want of room in the log: within the quota
abbrev pub broken_refusal : CourseValue → NodeValue → ℕ → Tid → TransactionValue → Option Rule
broken_refusal course node here tid tx =
    if not (is_within (quota_at course here) node here tid tx) then Some rules.WithinQuota else None

abbrev pub broken_ballot : CourseValue → NodeValue → ℕ → Tid → TransactionValue → Vote → Option Rule
broken_ballot course node here tid tx (votes.Abort (reasons.Quota bytes limit)) =
    if limit == quota_at course here then None else Some rules.LimitIsTheQuota
broken_ballot course node here tid tx (votes.Abort (reasons.LogRoom need room)) = broken_refusal course node here tid tx
broken_ballot course node here tid tx votes.Recoverable = broken_stake course node here tid tx
broken_ballot course node here tid tx _ = None

abbrev pub broken_files_vote : CourseValue → Option NodeValue → ℕ → Tid → Option TransactionValue → Vote → Option Rule
broken_files_vote course (Some node) here tid (Some tx) vote = broken_ballot course node here tid tx vote
broken_files_vote course _ here tid _ vote = None

-- of the votes of other servers the script says nothing: the machine's clauses are all their rules
abbrev pub broken_vote : CourseValue → ℕ → Tid → Member → Vote → Option Rule
broken_vote course here tid member vote =
    if member.server.0 == files_no
    then broken_files_vote course (slice_get course.book.nodes here) here tid (find_transaction course.book tid) vote
    else None

-- ---- votes that a restart finds

-- a vote of files that was made in the step that the crash cut off: noted. No quota is asked of it: what that step had applied before it
-- votes counts for what it holds, and a restart does not tell that order. What is on record was judged as it was made, or stood at the
-- opening
abbrev pub broken_found_vote : CourseValue → NodeValue → ℕ → Found → Option TransactionValue → Option Rule
broken_found_vote course node here found None = None
broken_found_vote course node here found (Some tx) =
    if (found.server.0 == files_no) && is_new_vote here node (Some tx) found
    then broken_owed_note course node here found.tid tx
    else None

abbrev pub first_broken : Option Rule → Option Rule → Option Rule
first_broken (Some rule) rest = Some rule
first_broken None rest = rest

abbrev pub broken_found : CourseValue → NodeValue → ℕ → List Found → Option Rule
broken_found course node here [] = None
broken_found course node here (found ∷ more) =
    first_broken (broken_found_vote course node here found (find_transaction course.book found.tid)) (broken_found course node here more)

abbrev pub broken_restart : CourseValue → ℕ → List Found → Option Rule
broken_restart course here pend = elim (slice_get course.book.nodes here) [
  | None ↦ None
  | Some node ↦ broken_found course node here pend
]

-- ---- notes

abbrev pub is_audit_at : Option NodeNo → Member → Bool
is_audit_at None member = false
is_audit_at (Some node) member = (member.node.0 == node.0) && (member.server.0 == audit_no)

-- files issue to the audit of the script's audit node alone
abbrev pub broken_note : CourseValue → Member → Option Rule
broken_note course member = if is_audit_at course.audit member then None else Some rules.NoteGoesToAudit
