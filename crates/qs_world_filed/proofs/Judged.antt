-- Files are judged by quotas, the audit node and the machine alone.
use Rattle.std.proofs.Common.{◌≡◌, ◌∙◌, ℕ, ◌==◌, List, [], ◌∷◌, Option, Some, None, refl, ap}
use Rattle.std.specs.Prelude.{◌&&◌, ◌||◌, if◌then◌else◌, not, slice_get}
use Rattle.qs_base.specs.declared.identifiers.Member.{Member}
use Rattle.qs_base.specs.declared.identifiers.NodeNo.{NodeNo}
use Rattle.qs_base.specs.declared.identifiers.Tid.{Tid}
use Rattle.qs_book_journal.specs.declared.entry.Act.{Act}
use Rattle.qs_book_journal.specs.declared.entry.Act.TheVariants as acts
use Rattle.qs_book_journal.specs.declared.entry.Found.{Found}
use Rattle.qs_ops.specs.Servers.{files_no, is_client_no}
use Rattle.qs_ops.specs.declared.vote.Reason.TheVariants as reasons
use Rattle.qs_ops.specs.declared.vote.Vote.{Vote}
use Rattle.qs_ops.specs.declared.vote.Vote.TheVariants as votes
use Rattle.qs_book_machine.specs.Book.{BookValue, find_transaction}
use Rattle.qs_book_machine.specs.Nodes.{NodeValue}
use Rattle.qs_book_machine.specs.Restart.{is_new_vote}
use Rattle.qs_book_machine.specs.Transaction.{TransactionValue}
use Rattle.qs_book_conformance.specs.Course.{CourseValue}
use Rattle.qs_book_conformance.specs.Files.{broken_files_vote, broken_found, broken_found_vote, broken_owed_note, first_broken, is_audit_at, is_noted, is_within, needs_no_note, quota_at}
use Rattle.qs_book_conformance.specs.declared.fault.Rule.{Rule}
use Rattle.qs_book_conformance.specs.declared.fault.Rule.TheVariants as rules
use Rattle.qs_world_course.specs.Kinds.{broken_filed}
use Rattle.qs_world_filed.specs.Reads.{FiledBySetting, SameSetting}

module _ (one other : CourseValue) (same : SameSetting one other) (book : other.book ≡ one.book) where
  owed_same : (node : NodeValue) (here : ℕ) (tid : Tid) (tx : TransactionValue) → broken_owed_note other node here tid tx ≡ broken_owed_note one node here tid tx
  owed_same node here tid tx = ap (λ (audit : Option NodeNo). if needs_no_note audit tx || is_noted node here tid tx then None else Some rules.NoteWasServed) same.audit

  refused_same : (node : NodeValue) (here : ℕ) (tid : Tid) (tx : TransactionValue) (rest : Option Rule) → (if not (is_within (quota_at other here) node here tid tx) then Some rules.WithinQuota else rest) ≡ (if not (is_within (quota_at one here) node here tid tx) then Some rules.WithinQuota else rest)
  refused_same node here tid tx rest = ap (λ (quota : ℕ). if not (is_within quota node here tid tx) then Some rules.WithinQuota else rest) (same.quotas here)

  ballot_same : (here : ℕ) (tid : Tid) (node : Option NodeValue) (tx : Option TransactionValue) (vote : Vote) → broken_files_vote other node here tid tx vote ≡ broken_files_vote one node here tid tx vote
  ballot_same here tid None None vote = refl
  ballot_same here tid None (Some tx) vote = refl
  ballot_same here tid (Some node) None vote = refl
  ballot_same here tid (Some node) (Some tx) votes.Recoverable =
      ap (λ (rest : Option Rule). if not (is_within (quota_at other here) node here tid tx) then Some rules.WithinQuota else rest) (owed_same node here tid tx) ∙ refused_same node here tid tx (broken_owed_note one node here tid tx)
  ballot_same here tid (Some node) (Some tx) votes.ReadOnly = refl
  ballot_same here tid (Some node) (Some tx) votes.Volatile = refl
  ballot_same here tid (Some node) (Some tx) (votes.Abort (reasons.Quota bytes limit)) = ap (λ (quota : ℕ). if limit == quota then None else Some rules.LimitIsTheQuota) (same.quotas here)
  ballot_same here tid (Some node) (Some tx) (votes.Abort (reasons.LogRoom need room)) = refused_same node here tid tx None
  ballot_same here tid (Some node) (Some tx) (votes.Abort (reasons.Taken name)) = refl
  ballot_same here tid (Some node) (Some tx) (votes.Abort (reasons.Code code)) = refl

  vote_same : (here : ℕ) (tid : Tid) (member : Member) (vote : Vote) → broken_filed other here (acts.Vote tid member vote 0) ≡ broken_filed one here (acts.Vote tid member vote 0)
  vote_same here tid member vote =
      ap (λ (b : BookValue). if member.server.0 == files_no then broken_files_vote other (slice_get b.nodes here) here tid (find_transaction b tid) vote else None) book
      ∙ ap (λ (o : Option Rule). if member.server.0 == files_no then o else None) (ballot_same here tid (slice_get one.book.nodes here) (find_transaction one.book tid) vote)

  found_vote_same : (node : NodeValue) (here : ℕ) (found : Found) (tx : Option TransactionValue) → broken_found_vote other node here found tx ≡ broken_found_vote one node here found tx
  found_vote_same node here found None = refl
  found_vote_same node here found (Some tx) = ap (λ (o : Option Rule). if (found.server.0 == files_no) && is_new_vote here node (Some tx) found then o else None) (owed_same node here found.tid tx)

  found_same : (node : NodeValue) (here : ℕ) (pend : List Found) → broken_found other node here pend ≡ broken_found one node here pend
  found_same node here [] = refl
  found_same node here (found ∷ more) =
      ap (λ (b : BookValue). first_broken (broken_found_vote other node here found (find_transaction b found.tid)) (broken_found other node here more)) book
      ∙ (ap (λ (o : Option Rule). first_broken o (broken_found other node here more)) (found_vote_same node here found (find_transaction one.book found.tid))
      ∙ ap (first_broken (broken_found_vote one node here found (find_transaction one.book found.tid))) (found_same node here more))

  restart_same : (here : ℕ) (pend : List Found) (node : Option NodeValue) → ◌≡◌ {A = Option Rule} (elim node [ None ↦ None | Some state ↦ broken_found other state here pend ]) (elim node [ None ↦ None | Some state ↦ broken_found one state here pend ])
  restart_same here pend None = refl
  restart_same here pend (Some state) = found_same state here pend

  act_same : (here : ℕ) (act : Act) → broken_filed other here act ≡ broken_filed one here act
  act_same here (acts.Vote tid member vote covers) = vote_same here tid member vote
  act_same here (acts.Issue tid issuer member number op) =
      ap (λ (audit : Option NodeNo). if is_client_no issuer.server.0 then None else if issuer.server.0 == files_no then (if is_audit_at audit member then None else Some rules.NoteGoesToAudit) else None) same.audit
  act_same here (acts.Restart inc pend done) =
      ap (λ (b : BookValue). elim (slice_get b.nodes here) [ None ↦ None | Some state ↦ broken_found other state here pend ]) book ∙ restart_same here pend (slice_get one.book.nodes here)
  act_same here act = refl

pub filed_by_setting : FiledBySetting
filed_by_setting one other entry same book = act_same one other same book entry.node.0 entry.act
