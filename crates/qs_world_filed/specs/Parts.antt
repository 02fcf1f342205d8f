-- The rules of files in four parts: what they say as the script has set it, what their votes are held to, and which notes they owe, as they are made and as a restart finds them.
use Rattle.std.specs.Prelude.{ℕ, ◌==◌, List, Option, Some, None, slice_get, if◌then◌else◌}
use Rattle.qs_base.specs.declared.identifiers.Tid.{Tid}
use Rattle.qs_book_journal.specs.declared.entry.Act.{Act}
use Rattle.qs_book_journal.specs.declared.entry.Act.TheVariants as acts
use Rattle.qs_book_journal.specs.declared.entry.Entry.{Entry}
use Rattle.qs_ops.specs.Servers.{files_no}
use Rattle.qs_ops.specs.declared.vote.Reason.TheVariants as reasons
use Rattle.qs_ops.specs.declared.vote.Vote.{Vote}
use Rattle.qs_ops.specs.declared.vote.Vote.TheVariants as votes
use Rattle.qs_book_machine.specs.Book.{find_transaction}
use Rattle.qs_book_machine.specs.Nodes.{NodeValue}
use Rattle.qs_book_machine.specs.Transaction.{TransactionValue}
use Rattle.qs_book_conformance.specs.Course.{CourseValue}
use Rattle.qs_book_conformance.specs.Files.{broken_owed_note, broken_refusal, broken_restart, quota_at}
use Rattle.qs_book_conformance.specs.declared.fault.Rule.{Rule}
use Rattle.qs_book_conformance.specs.declared.fault.Rule.TheVariants as rules
use Rattle.qs_world_course.specs.Kinds.{Keeps, RuleOf, broken_issue_filed, filed}

-- ---- the limit that a refusal names is the quota, and notes go to the audit node

abbrev pub broken_limit : CourseValue → ℕ → Vote → Option Rule
broken_limit course here (votes.Abort (reasons.Quota bytes limit)) = if limit == quota_at course here then None else Some rules.LimitIsTheQuota
broken_limit course here vote = None

abbrev pub broken_set : CourseValue → ℕ → Act → Option Rule
broken_set course here (acts.Vote tid member vote covers) = if member.server.0 == files_no then broken_limit course here vote else None
broken_set course here (acts.Issue tid issuer member number op) = broken_issue_filed course issuer member
broken_set course here act = None

abbrev pub as_set : RuleOf
as_set course entry = broken_set course entry.node.0 entry.act

-- ---- a vote for commit, and a refusal for want of room, are within the quota

abbrev pub broken_size : CourseValue → Option NodeValue → ℕ → Tid → Option TransactionValue → Vote → Option Rule
broken_size course (Some node) here tid (Some tx) votes.Recoverable = broken_refusal course node here tid tx
broken_size course (Some node) here tid (Some tx) (votes.Abort (reasons.LogRoom need room)) = broken_refusal course node here tid tx
broken_size course _ here tid _ vote = None

abbrev pub broken_fit : CourseValue → ℕ → Act → Option Rule
broken_fit course here (acts.Vote tid member vote covers) =
    if member.server.0 == files_no then broken_size course (slice_get course.book.nodes here) here tid (find_transaction course.book tid) vote else None
broken_fit course here act = None

abbrev pub within_quotas : RuleOf
within_quotas course entry = broken_fit course entry.node.0 entry.act

-- ---- a vote for commit is noted

abbrev pub broken_ballot_note : CourseValue → Option NodeValue → ℕ → Tid → Option TransactionValue → Vote → Option Rule
broken_ballot_note course (Some node) here tid (Some tx) votes.Recoverable = broken_owed_note course node here tid tx
broken_ballot_note course _ here tid _ vote = None

abbrev pub broken_noting : CourseValue → ℕ → Act → Option Rule
broken_noting course here (acts.Vote tid member vote covers) =
    if member.server.0 == files_no then broken_ballot_note course (slice_get course.book.nodes here) here tid (find_transaction course.book tid) vote else None
broken_noting course here act = None

abbrev pub noted : RuleOf
noted course entry = broken_noting course entry.node.0 entry.act

-- ---- also where a restart finds it

abbrev pub broken_finding : CourseValue → ℕ → Act → Option Rule
broken_finding course here (acts.Restart inc pend done) = broken_restart course here pend
broken_finding course here act = None

abbrev pub found_noted : RuleOf
found_noted course entry = broken_finding course entry.node.0 entry.act

-- ---- these are all

abbrev pub FiledAreThese : Type 0
FiledAreThese = (course : CourseValue) (entries : List Entry) → Keeps as_set course entries → Keeps within_quotas course entries → Keeps noted course entries → Keeps found_noted course entries → Keeps filed course entries
