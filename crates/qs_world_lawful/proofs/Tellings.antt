-- What is told and asked of outcomes, and causes that are passed on: nothing is entered, and nothing is held of it.
use Rattle.qs_world_lawful.proofs.Words.{◌≡◌, ℕ, Bool, true, false, Option, Some, None, refl, if◌then◌else◌, NodeNo, Outcome, Tid, same_node, BookValue, find_transaction, TransactionValue, is_outcome, Cell, Cause, answer_known, answer_unknown, inquiry_came, block, refusal_came, Work, here, with_manager, send, keep_abort_told, learn_unknown, names_at, take_outcome, tell_came, is_undecided, Participant, HoldsWork, IsAborted, book_at, none_is}
use Rattle.qs_node_step.specs.Asking.{pass_unknown}
use Rattle.qs_base.specs.declared.identifiers.Outcome.TheVariants as outcomes
use Rattle.qs_book_machine.specs.Transaction.{is_abort}
use Rattle.qs_book_machine.specs.declared.transaction.Cell.TheVariants as cells
use Rattle.qs_packet.specs.declared.message.Message.TheVariants as messages
use Rattle.qs_node_step.specs.Answering.{inquiry_at_home, was_committed}
use Rattle.qs_node_step.specs.Telling.{learn}
use Rattle.qs_tm.specs.Manager as tm
use Rattle.qs_tm.specs.Outcomes as outcome_rules
use Rattle.qs_tm.specs.Participant as participant
use Rattle.qs_world_lawful.proofs.Asking.{by_send}
use Rattle.qs_world_lawful.proofs.Bare.{by_bare}
use Rattle.qs_world_lawful.proofs.Decisions.{by_told}
use Rattle.qs_world_lawful.proofs.FilesHeld.{files_held}
use Rattle.qs_world_lawful.proofs.KeptAborts.{by_keep_abort}

module _ (stamp : ℕ) (before : BookValue) (work : Work) (h : HoldsWork stamp before work) (tid : Tid) where
  -- ---- a cause why it can't be committed comes

  pub by_refusal : (cause : Cause) → HoldsWork stamp before (refusal_came tid cause work)
  by_refusal cause = by (tm.part_of tid work.node.manager)
    where
      blocked : HoldsWork stamp before (block tid cause work)
      blocked = by_bare stamp before (with_manager (tm.refused tid) work) tid (participant.add_cause cause) (λ p. refl) (by_bare stamp before work tid participant.refused (λ p. refl) h)

      passed : (b : Bool) → HoldsWork stamp before (if b then work else send tid.home (messages.VotedAbort tid cause) work)
      passed true = h
      passed false = by_send stamp before work tid.home (messages.VotedAbort tid cause) h

      of : (b : Bool) → HoldsWork stamp before (if b then block tid cause work else work)
      of true = blocked
      of false = h

      by : (o : Option Participant) → HoldsWork stamp before (elim o [ None ↦ pass_unknown tid cause work | Some part ↦ if is_undecided part then block tid cause work else work ])
      by None = passed (same_node tid.home (here work))
      by (Some part) = of (is_undecided part)

  -- ---- a home that knows nothing of it keeps that it is aborted, and who was told

  pub by_keep_told : (peer : NodeNo) → (tm.part_of tid work.node.manager ≡ None → IsAborted stamp before work tid) → HoldsWork stamp before (keep_abort_told tid peer work)
  by_keep_told peer aborted = by_bare stamp before (with_manager (tm.keep_abort tid) work) tid (outcome_rules.add_tell peer) (λ p. refl) (by_keep_abort stamp before work h tid aborted)

  -- ---- an inquiry: what is not committed, and unknown here, is aborted

  pub by_inquiry : (peer : NodeNo) → (tm.part_of tid work.node.manager ≡ None → was_committed tid work.node ≡ false → IsAborted stamp before work tid) → HoldsWork stamp before (inquiry_came peer tid work)
  by_inquiry peer aborted = asked (same_node tid.home (here work))
    where
      known : (o : Option Outcome) → HoldsWork stamp before (answer_known peer tid o work)
      known None = by_bare stamp before work tid (participant.add_told peer) (λ p. refl) h
      known (Some outcomes.Commit) = by_send stamp before work peer (messages.Tell tid outcomes.Commit) h
      known (Some outcomes.Abort) = by_send stamp before (with_manager (tm.add_tell tid peer) work) peer (messages.Tell tid outcomes.Abort) (by_bare stamp before work tid (outcome_rules.add_tell peer) (λ p. refl) h)

      unknown : tm.part_of tid work.node.manager ≡ None → (b : Bool) → was_committed tid work.node ≡ b
          → HoldsWork stamp before (if b then send peer (messages.Tell tid outcomes.Commit) work else send peer (messages.Tell tid outcomes.Abort) (keep_abort_told tid peer work))
      unknown none true is = by_send stamp before work peer (messages.Tell tid outcomes.Commit) h
      unknown none false is = by_send stamp before (keep_abort_told tid peer work) peer (messages.Tell tid outcomes.Abort) (by_keep_told peer (λ n. aborted n is))

      by : (o : Option Participant) → tm.part_of tid work.node.manager ≡ o → HoldsWork stamp before (elim o [ None ↦ answer_unknown peer tid work | Some part ↦ answer_known peer tid part.outcome work ])
      by None is = unknown is (was_committed tid work.node) refl
      by (Some part) is = known part.outcome

      asked : (b : Bool) → HoldsWork stamp before (if b then inquiry_at_home peer tid work else work)
      asked true = by (tm.part_of tid work.node.manager) refl
      asked false = h

  -- ---- an outcome is told that the cell has

  pub by_tell : (peer : NodeNo) (outcome : Outcome) (tx : TransactionValue) → find_transaction (book_at stamp before work) tid ≡ Some tx → is_outcome outcome tx.cell ≡ true → HoldsWork stamp before (tell_came peer tid outcome work)
  by_tell peer outcome tx found cell = told (same_node tid.home (here work))
    where
      as_abort : (c : Cell) → is_outcome outcomes.Abort c ≡ true → is_abort c ≡ true
      as_abort cells.Abort e = refl
      as_abort cells.Commit e = absurd (cc e)
      as_abort cells.Open e = absurd (cc e)

      unknown : (o : Outcome) → is_outcome o tx.cell ≡ true → HoldsWork stamp before (learn_unknown tid o work)
      unknown outcomes.Commit is = h
      unknown outcomes.Abort is = by_keep_abort stamp before work h tid (λ n. record { tx = tx; found = found; aborted = as_abort tx.cell is })

      learnt : (part : Participant) → tm.part_of tid work.node.manager ≡ Some part → (b : Bool) → is_undecided part ≡ b → HoldsWork stamp before (if b then learn tid outcome part work else work)
      learnt part known true is = by_told stamp before work tid outcome part tx h (files_held stamp before work h) known found (none_is part.outcome is) cell
      learnt part known false is = h

      by : (o : Option Participant) → tm.part_of tid work.node.manager ≡ o → HoldsWork stamp before (elim o [ None ↦ learn_unknown tid outcome work | Some part ↦ if is_undecided part then learn tid outcome part work else work ])
      by None is = unknown outcome cell
      by (Some part) is = learnt part is (is_undecided part) refl

      told : (b : Bool) → HoldsWork stamp before (if b then work else send peer (messages.Told tid (names_at tid outcome work)) (take_outcome tid outcome work))
      told true = h
      told false = by_send stamp before (take_outcome tid outcome work) peer (messages.Told tid (names_at tid outcome work)) (by (tm.part_of tid work.node.manager) refl)
