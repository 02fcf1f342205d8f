-- Timers are told that a transaction ends that is asked for commit or aborted: of the servers they alone.
use Rattle.qs_world_lawful.proofs.Words.{◌≡◌, ℕ, Bool, true, [], Option, Some, None, refl, sym, ap, subst, ◌∙◌, fold, length, ◌||◌, is_some, if◌then◌else◌, Tid, changes_in, after_notice, TransactionValue, life, ended_part, Part, BookValue, find_transaction, member_of, is_due_at, servers_due, Participant, with_server, end_member, end_members, due_endings, Work, face_of, at_server, HoldsFiles, HoldsTid, HoldsWork, book_at, eqb-false}
use Rattle.qs_ops.specs.declared.vote.Notice.TheVariants as notices
use Rattle.qs_book_machine.specs.Transaction.{part_of, ended, is_abort}
use Rattle.qs_tm.specs.Manager as tm
use Rattle.qs_tm.specs.Members as rules
use Rattle.qs_tm.specs.Members.{all_servers}
use Rattle.qs_tm.specs.declared.participant.Due.TheVariants as dues
use Rattle.qs_world_lawful.proofs.Clauses.{of_tid}
use Rattle.qs_world_lawful.proofs.Learning.{by_end}
use Rattle.qs_world_lawful.proofs.LearningAll.{no}
use Rattle.qs_world_lawful.proofs.LearningChain.{fold_filter}
use Rattle.qs_world_lawful.proofs.MemberTid.{lives_apart}
use Rattle.qs_world_lawful.proofs.Parts.{changed_part_apart}
use Rattle.qs_world_lawful.proofs.Pending.{elsewhere_pending}

abbrev pub end_if : Bool → Tid → Work → Work
end_if b tid work = if b then end_member tid work (no 3) else work

ends_are : (tid : Tid) (part : Participant) (work : Work) → fold (end_member tid) work (servers_due dues.Ending part) ≡ end_if (member_of part (no 3)).fresh tid work
unfolding all_servers
ends_are tid part work = fold_filter (end_member tid) (is_due_at dues.Ending part) work all_servers

-- all that are due are theirs
pub endings_are : (tid : Tid) (part : Participant) (work : Work) → tm.part_of tid work.node.manager ≡ Some part → end_members tid work ≡ end_if (member_of part (no 3)).fresh tid work
endings_are tid part work known = ap (fold (end_member tid) work) due_is ∙ ends_are tid part work
  where
    due_is : due_endings tid work ≡ servers_due dues.Ending part
    due_is = ap (λ (o : Option Participant). elim o [ None ↦ [] | Some p ↦ servers_due dues.Ending p ]) known

module _ (stamp : ℕ) (before : BookValue) (work : Work) (tid : Tid) (part : Participant) (tx : TransactionValue) (h : HoldsWork stamp before work) (files : HoldsFiles work.node.servers)
    (known : tm.part_of tid work.node.manager ≡ Some part) (found : find_transaction (book_at stamp before work) tid ≡ Some tx) where
  held : HoldsTid work.node.setting.node work.node.setting.inc tid tx (record (face_of work.node tid) { known = Some part })
  held = subst (λ (o : Option Participant). HoldsTid work.node.setting.node work.node.setting.inc tid tx (record (face_of work.node tid) { known = o })) known (of_tid stamp (book_at stamp before work) work.node h.holds tid tx found)

  pub ended_held : (is_some tx.asked || is_abort tx.cell) ≡ true → (member_of part (no 3)).fresh ≡ true → HoldsWork stamp before (end_member tid work (no 3))
  ended_held ends fresh = by_end stamp before work tid (no 3) part tx h known found refl refl fresh pending ends
    where
      pending : (part_of (ended (at_server work.node.setting.node (no 3)) work.node.setting.inc tx) (at_server work.node.setting.node rules.files_no) work.node.setting.inc).pending
          ≡ length (changes_in (with_server (no 3) (λ value. after_notice value tid notices.Ending) work.node.servers).files tid)
      pending =
          ap (λ (p : Part). p.pending) (changed_part_apart (life (at_server work.node.setting.node (no 3)) work.node.setting.inc) ended_part tx.parts (at_server work.node.setting.node rules.files_no) work.node.setting.inc (lives_apart work.node.setting.node work.node.setting.inc (no 3) rules.files_no (eqb-false 3 0 refl)))
          ∙ (held.pending ∙ sym (elsewhere_pending work.node.servers files (no 3) tid (λ value. after_notice value tid notices.Ending) refl))
