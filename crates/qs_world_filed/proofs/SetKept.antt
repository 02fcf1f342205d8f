-- What a step enters as its setting says keeps those rules of the script that read the setting: its limit is the quota, and notes go to the audit node.
use Rattle.std.proofs.Common.{◌≡◌, ◌∙◌, ℕ, ◌==◌, Bool, true, false, List, [], ◌∷◌, Option, Some, None, refl, sym, subst}
use Rattle.std.proofs.lemmas.Bool.{eq-eqb, eqb-true}
use Rattle.std.specs.Prelude.{if◌then◌else◌, length, not, slice_get}
use Rattle.qs_base.specs.declared.identifiers.Member.{Member}
use Rattle.qs_base.specs.declared.identifiers.NodeNo.{NodeNo}
use Rattle.qs_base.specs.declared.identifiers.Tid.{Tid}
use Rattle.qs_base_lemmas.proofs.Tests.{and_first}
use Rattle.qs_book_journal.specs.declared.entry.Act.{Act}
use Rattle.qs_book_journal.specs.declared.entry.Act.TheVariants as acts
use Rattle.qs_book_laws.proofs.Holding.{right_of}
use Rattle.qs_book_laws.proofs.Steps.{held}
use Rattle.qs_book_machine.specs.Book.{BookValue, find_transaction}
use Rattle.qs_book_machine.specs.Clauses.{broken_issue, broken_issuer, is_for, is_numbered, link_to}
use Rattle.qs_book_machine.specs.Lawful.{IsLawful, broken, broken_act, broken_at, is_in_order}
use Rattle.qs_book_machine.specs.Nodes as machine
use Rattle.qs_book_machine.specs.Transaction.{TransactionValue, is_commit, next_number}
use Rattle.qs_ops.specs.Servers.{audit_no, files_no, is_client_no}
use Rattle.qs_ops.specs.declared.operation.Op.{Op}
use Rattle.qs_ops.specs.declared.vote.Reason.TheVariants as reasons
use Rattle.qs_ops.specs.declared.vote.Vote.{Vote}
use Rattle.qs_ops.specs.declared.vote.Vote.TheVariants as votes
use Rattle.qs_book_conformance.specs.Course.{CourseValue}
use Rattle.qs_book_conformance.specs.Effects.{course_after}
use Rattle.qs_book_conformance.specs.Files.{broken_note, is_audit_at, quota_at}
use Rattle.qs_book_conformance.specs.declared.fault.Rule.{Rule}
use Rattle.qs_book_conformance.specs.declared.fault.Rule.TheVariants as rules
use Rattle.qs_node_step.specs.declared.setting.Setting.{Setting}
use Rattle.qs_world.specs.Posting.{entries_of, entry_of}
use Rattle.qs_world_course.specs.Kinds.{Keeps}
use Rattle.qs_world_lawful.specs.Logs.{Every}
use Rattle.qs_world_filed.specs.Parts.{as_set, broken_limit, broken_set}
use Rattle.qs_world_filed.specs.Settings.{IsAsSet, IsNote, NamesQuota}
use Rattle.qs_world_filed.proofs.Leaves.{entry_leaves}

-- ---- a lawful issue is an operation of its member

pub issue_fits : (book : BookValue) (n stamp : ℕ) (tid : Tid) (issuer member : Member) (number : ℕ) (op : Op) → broken book (entry_of n stamp (acts.Issue tid issuer member number op)) ≡ None → is_for op member ≡ true
issue_fits book n stamp tid issuer member number op h = by (slice_get book.nodes n) (held (is_in_order book (entry_of n stamp (acts.Issue tid issuer member number op))) 1 _ h).1
  where
    of : (v : machine.NodeValue) (o : Option TransactionValue) → broken_issue n v (length book.nodes) tid o issuer member number op ≡ None → is_for op member ≡ true
    of v None k = absurd (cc k)
    of v (Some tx) k = and_first (is_for op member) _ (right_of (number == next_number tx (link_to n member) v.inc) _ (right_of (not (is_commit tx.cell)) _ (held (is_numbered n v (length book.nodes) tx member number op) 20 (broken_issuer n v tid tx issuer op) k).0))

    by : (o : Option machine.NodeValue) → broken_at book stamp n o (acts.Issue tid issuer member number op) ≡ None → is_for op member ≡ true
    by None k = absurd (cc k)
    by (Some v) k = of v (find_transaction book tid) (held v.up 2 (broken_act book stamp n v (acts.Issue tid issuer member number op)) k).1

-- a note is audit's
pub note_at_audit : (op : Op) (member : Member) → IsNote op → is_for op member ≡ true → (member.server.0 == audit_no) ≡ true
note_at_audit op member note fits = turned audit_no member.server.0 (subst (λ (o : Op). is_for o member ≡ true) note.1 fits)
  where
    turned : (a b : ℕ) → (a == b) ≡ true → (b == a) ≡ true
    turned a b e = eq-eqb b a (sym (eqb-true a b e))

-- ---- an act

module _ (setting : Setting) (course : CourseValue) (n stamp : ℕ) (audit : course.audit ≡ setting.audit) (quota : quota_at course n ≡ setting.quota) where
  limit_kept : (vote : Vote) → NamesQuota setting.quota vote → broken_limit course n vote ≡ None
  limit_kept (votes.Abort (reasons.Quota bytes limit)) is = rw (eq-eqb limit (quota_at course n) (is ∙ sym quota)) refl
  limit_kept (votes.Abort (reasons.LogRoom need room)) is = refl
  limit_kept (votes.Abort (reasons.Taken name)) is = refl
  limit_kept (votes.Abort (reasons.Code code)) is = refl
  limit_kept votes.ReadOnly is = refl
  limit_kept votes.Volatile is = refl
  limit_kept votes.Recoverable is = refl

  vote_kept : (b : Bool) (vote : Vote) → (b ≡ true → NamesQuota setting.quota vote) → (if b then broken_limit course n vote else None) ≡ None
  vote_kept true vote its = limit_kept vote (its refl)
  vote_kept false vote its = refl

  note_kept : (member : Member) → setting.audit ≡ Some member.node → (member.server.0 == audit_no) ≡ true → broken_note course member ≡ None
  note_kept member its at = subst (λ (o : Option NodeNo). ◌≡◌ {A = Option Rule} (if is_audit_at o member then None else Some rules.NoteGoesToAudit) None) (sym (audit ∙ its)) (rw (eq-eqb member.node.0 member.node.0 refl, at) refl)

  issue_kept : (a b : Bool) (member : Member) → (b ≡ true → broken_note course member ≡ None) → (if a then None else if b then broken_note course member else None) ≡ None
  issue_kept true b member its = refl
  issue_kept false true member its = its refl
  issue_kept false false member its = refl

  act_kept : (act : Act) → broken course.book (entry_of n stamp act) ≡ None → IsAsSet setting act → broken_set course n act ≡ None
  act_kept (acts.Vote tid member vote covers) lawful its = vote_kept (member.server.0 == files_no) vote its
  act_kept (acts.Issue tid issuer member number op) lawful its = issue_kept (is_client_no issuer.server.0) (issuer.server.0 == files_no) member
      (λ at. note_kept member (its at).0 (note_at_audit op member (its at).1 (issue_fits course.book n stamp tid issuer member number op lawful)))
  act_kept act lawful its = refl

-- ---- all of a step

pub set_kept : (setting : Setting) (n stamp : ℕ) (done : List Act) (course : CourseValue) → course.audit ≡ setting.audit → quota_at course n ≡ setting.quota → IsLawful course.book (entries_of n stamp done) → Every (IsAsSet setting) done → Keeps as_set course (entries_of n stamp done)
set_kept setting n stamp [] course audit quota lawful its = tt
set_kept setting n stamp (act ∷ done) course audit quota lawful its =
    let leaves = entry_leaves course (entry_of n stamp act) in
    (act_kept setting course n stamp audit quota act lawful.0 its.0, set_kept setting n stamp done (course_after course (entry_of n stamp act)) (leaves.audit ∙ audit) (leaves.quotas n ∙ quota) lawful.1 its.1)
