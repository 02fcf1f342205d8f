-- A client that owns a transaction, or that holds a loan of it, issues a request to a server of its own node lawfully.
use Rattle.qs_world_lawful.proofs.Words.{◌≡◌, ◌≢◌, ℕ, ◌+◌, ◌==◌, Bool, true, false, Option, Some, None, refl, sym, ap, subst, ◌∙◌, arith, nat_lt, nat_tests, not, ◌&&◌, if◌then◌else◌, list_any, ClientNo, NodeNo, ServerNo, Tid, peer_of, Op, TransactionValue, is_commit, BookValue, find_transaction, broken, Outstanding, Participant, Lent, client_server, issue_here, local_count, Work, entry_of, HoldsWork, book_at, face_of, part_in, part_or_new, at_server, is_loan_here, next_to}
use Rattle.qs_base.specs.declared.identifiers.Outcome.TheVariants as outcomes
use Rattle.qs_ipc.specs.Queue as queues
use Rattle.qs_book_journal.specs.declared.entry.Act.TheVariants as acts
use Rattle.qs_tm.specs.Manager as tm
use Rattle.qs_node_step.specs.State.{NodeValue}
use Rattle.qs_world_lawful.proofs.Issuing.{owner_issues, borrower_issues}
use Rattle.qs_world_lawful.proofs.IssuingHere.{by_issue_here}

own : (node : NodeValue) (tid : Tid) (to : NodeNo) → to ≡ node.setting.node → next_to node tid to ≡ local_count tid node + 1
own node tid to near = by (to.0 == node.setting.node.0) is_near
  where
    is_near : (to.0 == node.setting.node.0) ≡ true
    is_near = grind (arith, nat_tests, near)

    by : (b : Bool) → b ≡ true → (if b then local_count tid node + 1 else (peer_of (part_in (face_of node tid)).engage to).sent + 1) ≡ local_count tid node + 1
    by true e = refl
    by false e = absurd (cc e)

module _ (stamp : ℕ) (before : BookValue) (work : Work) (tid : Tid) (outstanding : Outstanding) (op : Op) (part : Participant) (tx : TransactionValue) (h : HoldsWork stamp before work)
    (known : tm.part_of tid work.node.manager ≡ Some part) (found : find_transaction (book_at stamp before work) tid ≡ Some tx) (client : ClientNo) (its : outstanding.issuer ≡ client_server client)
    (near : outstanding.member.node ≡ work.node.setting.node) (next : outstanding.number ≡ local_count tid work.node + 1) (fits : queues.is_for outstanding.member.server op ≡ true)
    (runs : nat_lt work.node.setting.node.0 work.node.setting.nodes ≡ true) where
  abbrev may_issue : ServerNo → ℕ → Type 0
  may_issue issuer number = broken (book_at stamp before work) (entry_of work.node.setting.node.0 stamp (acts.Issue tid (at_server work.node.setting.node issuer) outstanding.member number op)) ≡ None

  it_runs : nat_lt outstanding.member.node.0 work.node.setting.nodes ≡ true
  it_runs = ap (λ (n : NodeNo). nat_lt n.0 work.node.setting.nodes) near ∙ runs

  issued : may_issue (client_server client) (next_to work.node tid outstanding.member.node) → HoldsWork stamp before (issue_here tid outstanding op work)
  issued lawful =
      by_issue_here stamp before work tid outstanding op part tx h known found near next fits
      (subst (λ (s : ServerNo). may_issue s outstanding.number) (sym its)
      (subst (may_issue (client_server client)) (own work.node tid outstanding.member.node near ∙ sym next) lawful))

  pub by_owner : tx.owner ≡ Some client → tid.home ≡ work.node.setting.node → tid.inc ≡ work.node.setting.inc → part.asked ≡ false → part.outcome ≡ None → HoldsWork stamp before (issue_here tid outstanding op work)
  by_owner owns home inc unasked unknown = issued (owner_issues stamp (book_at stamp before work) work.node h.holds tid tx found client outstanding.member op part known owns home inc unasked unknown fits it_runs)

  pub by_borrower : nat_lt client.0 224 ≡ true → list_any (λ (loan : Lent). is_loan_here client work.node.setting.inc loan && not loan.yielded) (face_of work.node tid).loans ≡ true → part.outcome ≢ Some outcomes.Abort → is_commit tx.cell ≡ false
      → HoldsWork stamp before (issue_here tid outstanding op work)
  by_borrower small lent unaborted still =
      issued (borrower_issues stamp (book_at stamp before work) work.node h.holds tid tx found client outstanding.member op small lent
      (λ aborted. unaborted (sym (ap (λ (o : Option Participant). (part_or_new o).outcome) known) ∙ aborted)) still fits it_runs)
