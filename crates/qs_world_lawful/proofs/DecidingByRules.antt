-- A home decides by the rules: it commits what is settled, and aborts for a cause that the machine finds.
use Rattle.qs_world_lawful.proofs.Words.{◌≡◌, ℕ, ◌==◌, true, false, Option, Some, None, refl, ◌∙◌, arith, nat_tests, is_none, is_some, slice_get, ClientNo, Tid, Cause, TransactionValue, is_open, is_unanimous, BookValue, find_transaction, broken, Participant, Work, entry_of, HoldsWork, book_at, face_of, HoldsFiles, Holds, HoldsTid}
use Rattle.qs_base.specs.declared.identifiers.Outcome.TheVariants as outcomes
use Rattle.qs_ops.specs.declared.answer.Cause.TheVariants as causes
use Rattle.qs_book_journal.specs.declared.entry.Act.TheVariants as acts
use Rattle.qs_book_machine.specs.Clauses.{is_cause}
use Rattle.qs_tm.specs.Manager as tm
use Rattle.qs_node_step.specs.Deciding.{decide}
use Rattle.qs_node_step.specs.State.{NodeValue}
use Rattle.qs_world_lawful.proofs.Clauses.{lawful_act, of_tid}
use Rattle.qs_world_lawful.proofs.Decisions.{by_decision}

module _ (stamp : ℕ) (book : BookValue) (node : NodeValue) (h : Holds stamp book node) (tid : Tid) (tx : TransactionValue) (found : find_transaction book tid ≡ Some tx) (home : tid.home ≡ node.setting.node) (still : is_open tx.cell ≡ true) where
  is_home : (tid.home.0 == node.setting.node.0) ≡ true
  is_home = grind (arith, nat_tests, home)

  may_commit : is_unanimous tx ≡ true → broken book (entry_of node.setting.node.0 stamp (acts.Decide tid outcomes.Commit None)) ≡ None
  may_commit all = lawful_act stamp book node h (acts.Decide tid outcomes.Commit None) (λ state. refl) (rw (found, is_home, still, all) refl)

  may_abort : (cause : Cause) → is_cause h.state book.nodes tid tx stamp cause ≡ true → broken book (entry_of node.setting.node.0 stamp (acts.Decide tid outcomes.Abort (Some cause))) ≡ None
  may_abort cause due = lawful_act stamp book node h (acts.Decide tid outcomes.Abort (Some cause)) (λ state. refl) (rw (found, is_home, still, due) refl)

module _ (stamp : ℕ) (before : BookValue) (work : Work) (tid : Tid) (part : Participant) (tx : TransactionValue) (h : HoldsWork stamp before work) (files : HoldsFiles work.node.servers)
    (known : tm.part_of tid work.node.manager ≡ Some part) (found : find_transaction (book_at stamp before work) tid ≡ Some tx) (home : tid.home ≡ work.node.setting.node) (begun : tid.inc ≡ work.node.setting.inc) (unknown : part.outcome ≡ None)
    (slot : (client : ClientNo) → tx.owner ≡ Some client → is_some (slice_get (book_at stamp before work).owners client.0) ≡ true) where
  held : HoldsTid work.node.setting.node work.node.setting.inc tid tx (face_of work.node tid)
  held = of_tid stamp (book_at stamp before work) work.node h.holds tid tx found

  still : is_open tx.cell ≡ true
  still = (held.home home begun).undecided part known unknown

  -- what is unanimous
  pub by_commit : is_unanimous tx ≡ true → HoldsWork stamp before (decide tid outcomes.Commit None work)
  by_commit agreed =
      by_decision stamp before work tid outcomes.Commit part tx h files known found unknown None still slot
      (may_commit stamp (book_at stamp before work) work.node h.holds tid tx found home still agreed)

  -- for a cause that the machine finds
  pub by_abort : (cause : Cause) → is_cause h.holds.state (book_at stamp before work).nodes tid tx stamp cause ≡ true → HoldsWork stamp before (decide tid outcomes.Abort (Some cause) work)
  by_abort cause due =
      by_decision stamp before work tid outcomes.Abort part tx h files known found unknown (Some cause) still slot
      (may_abort stamp (book_at stamp before work) work.node h.holds tid tx found home still cause due)

  -- where commit was not asked for, its owner may ask for abort
  pub by_asked_abort : part.asked ≡ false → HoldsWork stamp before (decide tid outcomes.Abort (Some causes.Asked) work)
  by_asked_abort unasked = by_abort causes.Asked (none tx.asked ((held.home home begun).asked part known still ∙ unasked))
    where
      none : (o : Option ℕ) → is_some o ≡ false → is_none o ≡ true
      none None e = refl
      none (Some n) e = absurd (cc e)
