-- What keeps each of the four parts keeps the rules of files.
use Rattle.std.proofs.Common.{◌≡◌, ℕ, ◌==◌, Bool, true, false, [], ◌∷◌, Option, Some, None, refl}
use Rattle.std.specs.Prelude.{if◌then◌else◌, not, slice_get}
use Rattle.qs_base.specs.declared.identifiers.Tid.{Tid}
use Rattle.qs_book_journal.specs.declared.entry.Act.{Act}
use Rattle.qs_book_journal.specs.declared.entry.Act.TheVariants as acts
use Rattle.qs_ops.specs.Servers.{files_no}
use Rattle.qs_ops.specs.declared.vote.Reason.TheVariants as reasons
use Rattle.qs_ops.specs.declared.vote.Vote.{Vote}
use Rattle.qs_ops.specs.declared.vote.Vote.TheVariants as votes
use Rattle.qs_book_machine.specs.Book.{find_transaction}
use Rattle.qs_book_machine.specs.Nodes.{NodeValue}
use Rattle.qs_book_machine.specs.Transaction.{TransactionValue}
use Rattle.qs_book_conformance.specs.Course.{CourseValue}
use Rattle.qs_book_conformance.specs.Effects.{course_after}
use Rattle.qs_book_conformance.specs.Files.{broken_files_vote, broken_owed_note, is_within, quota_at}
use Rattle.qs_book_conformance.specs.declared.fault.Rule.{Rule}
use Rattle.qs_book_conformance.specs.declared.fault.Rule.TheVariants as rules
use Rattle.qs_world_course.specs.Kinds.{broken_filed}
use Rattle.qs_world_filed.specs.Parts.{FiledAreThese, broken_ballot_note, broken_finding, broken_fit, broken_limit, broken_noting, broken_set, broken_size}

both : (b : Bool) (rest : Option Rule) → (if b then Some rules.WithinQuota else None) ≡ None → rest ≡ None → (if b then Some rules.WithinQuota else rest) ≡ None
both true rest s n = s
both false rest s n = n

ballot_kept : (course : CourseValue) (here : ℕ) (tid : Tid) (node : Option NodeValue) (tx : Option TransactionValue) (vote : Vote) → broken_limit course here vote ≡ None → broken_size course node here tid tx vote ≡ None → broken_ballot_note course node here tid tx vote ≡ None
    → broken_files_vote course node here tid tx vote ≡ None
ballot_kept course here tid None None vote l s n = refl
ballot_kept course here tid None (Some tx) vote l s n = refl
ballot_kept course here tid (Some node) None vote l s n = refl
ballot_kept course here tid (Some node) (Some tx) votes.Recoverable l s n = both (not (is_within (quota_at course here) node here tid tx)) (broken_owed_note course node here tid tx) s n
ballot_kept course here tid (Some node) (Some tx) votes.ReadOnly l s n = refl
ballot_kept course here tid (Some node) (Some tx) votes.Volatile l s n = refl
ballot_kept course here tid (Some node) (Some tx) (votes.Abort (reasons.Quota bytes limit)) l s n = l
ballot_kept course here tid (Some node) (Some tx) (votes.Abort (reasons.LogRoom need room)) l s n = s
ballot_kept course here tid (Some node) (Some tx) (votes.Abort (reasons.Taken name)) l s n = refl
ballot_kept course here tid (Some node) (Some tx) (votes.Abort (reasons.Code code)) l s n = refl

vote_kept : (b : Bool) (course : CourseValue) (here : ℕ) (tid : Tid) (state : Option NodeValue) (tx : Option TransactionValue) (vote : Vote) → (if b then broken_limit course here vote else None) ≡ None → (if b then broken_size course state here tid tx vote else None) ≡ None
    → (if b then broken_ballot_note course state here tid tx vote else None) ≡ None → (if b then broken_files_vote course state here tid tx vote else None) ≡ None
vote_kept true course here tid state tx vote l s n = ballot_kept course here tid state tx vote l s n
vote_kept false course here tid state tx vote l s n = refl

act_kept : (course : CourseValue) (here : ℕ) (act : Act) → broken_set course here act ≡ None → broken_fit course here act ≡ None → broken_noting course here act ≡ None → broken_finding course here act ≡ None → broken_filed course here act ≡ None
act_kept course here (acts.Vote tid member vote covers) l s n f = vote_kept (member.server.0 == files_no) course here tid (slice_get course.book.nodes here) (find_transaction course.book tid) vote l s n
act_kept course here (acts.Issue tid issuer member number op) l s n f = l
act_kept course here (acts.Restart inc pend done) l s n f = f
act_kept course here act l s n f = refl

pub filed_are_these : FiledAreThese
filed_are_these course [] l s n f = tt
filed_are_these course (entry ∷ entries) l s n f = (act_kept course entry.node.0 entry.act l.0 s.0 n.0 f.0, filed_are_these (course_after course entry) entries l.1 s.1 n.1 f.1)
