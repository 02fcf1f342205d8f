-- The servers of a node get their notices: endings first where it is aborted, then the outcome. The rules as wholes.
use Rattle.qs_world_lawful.proofs.Words.{◌≡◌, ℕ, Bool, true, false, Option, Some, refl, sym, subst, is_some, Outcome, Tid, TransactionValue, is_outcome, Cell, BookValue, find_transaction, member_of, Participant, end_member, end_members, give_notices, Work, face_of, HoldsFiles, HoldsTid, HoldsWork, book_at, or_right}
use Rattle.qs_base.specs.declared.identifiers.Outcome.TheVariants as outcomes
use Rattle.qs_ops.specs.declared.vote.Notice.TheVariants as notices
use Rattle.qs_book_machine.specs.Transaction.{is_abort}
use Rattle.qs_book_machine.specs.declared.transaction.Cell.TheVariants as cells
use Rattle.qs_tm.specs.Manager as tm
use Rattle.qs_tm.specs.Outcomes as outcome_rules
use Rattle.qs_node_step.specs.State.{NodeValue}
use Rattle.qs_world_lawful.proofs.Clauses.{of_tid}
use Rattle.qs_world_lawful.proofs.Faces.{part_changed}
use Rattle.qs_world_lawful.proofs.Endings.{end_if, ended_held, endings_are}
use Rattle.qs_world_lawful.proofs.LearningAll.{Midst, stands, no}
use Rattle.qs_world_lawful.proofs.LearningChain.{all_learnt}
use Rattle.qs_world_lawful.proofs.Pending.{notice_filed}

aborted_cell : (c : Cell) → is_outcome outcomes.Abort c ≡ true → is_abort c ≡ true
aborted_cell cells.Abort is = refl
aborted_cell cells.Open is = absurd (cc is)
aborted_cell cells.Commit is = absurd (cc is)

module _ (stamp : ℕ) (before : BookValue) (tid : Tid) where
  module _ (work : Work) (m : Midst stamp before tid outcomes.Abort work) where
    abbrev node : NodeValue
    node = work.node

    in_machine : (tx : TransactionValue) × (find_transaction (book_at stamp before work) tid ≡ Some tx)
    in_machine = stands stamp (book_at stamp before work) node tid m.part m.held.holds m.known

    abbrev tx : TransactionValue
    tx = in_machine.0

    of_held : HoldsTid node.setting.node node.setting.inc tid tx (record (face_of node tid) { known = Some m.part })
    of_held = subst (λ (o : Option Participant). HoldsTid node.setting.node node.setting.inc tid tx (record (face_of node tid) { known = o })) m.known (of_tid stamp (book_at stamp before work) node m.held.holds tid tx in_machine.1)

    ended_now : (member_of m.part (no 3)).fresh ≡ true → Midst stamp before tid outcomes.Abort (end_member tid work (no 3))
    ended_now fresh = record {
      held = ended_held stamp before work tid m.part tx m.held m.files m.known in_machine.1 (or_right (is_some tx.asked) (is_abort tx.cell) (aborted_cell tx.cell (of_held.outcome outcomes.Abort m.knows))) fresh;
      files = notice_filed node.servers m.files (no 3) tid notices.Ending;
      part = outcome_rules.settled (no 3) m.part;
      known = part_changed tid (outcome_rules.settled (no 3)) node.manager m.part m.known;
      knows = m.knows;
    }

    ended_if : (b : Bool) → (member_of m.part (no 3)).fresh ≡ b → Midst stamp before tid outcomes.Abort (end_if b tid work)
    ended_if true fresh = ended_now fresh
    ended_if false fresh = m

    pub all_ended : Midst stamp before tid outcomes.Abort (end_members tid work)
    all_ended = subst (Midst stamp before tid outcomes.Abort) (sym (endings_are tid m.part work m.known)) (ended_if (member_of m.part (no 3)).fresh refl)

  -- the endings where it is aborted, and then the outcome
  pub all_noticed : (outcome : Outcome) (work : Work) → Midst stamp before tid outcome work → Midst stamp before tid outcome (give_notices tid outcome work)
  all_noticed outcomes.Commit work m = all_learnt stamp before tid outcomes.Commit work m
  all_noticed outcomes.Abort work m = all_learnt stamp before tid outcomes.Abort (end_members tid work) (all_ended work m)

-- as a rule over what is held
pub by_notices : (stamp : ℕ) (before : BookValue) (work : Work) (tid : Tid) (outcome : Outcome) (part : Participant) → HoldsWork stamp before work → HoldsFiles work.node.servers → tm.part_of tid work.node.manager ≡ Some part → part.outcome ≡ Some outcome
    → HoldsWork stamp before (give_notices tid outcome work)
by_notices stamp before work tid outcome part h files known knows = (all_noticed stamp before tid outcome work (record { held = h; files = files; part = part; known = known; knows = knows })).held
