-- What is in hand is open still where what that hangs on is left.
use Rattle.std.proofs.Common.{◌≡◌, ◌∙◌, ℕ, ◌==◌, Bool, true, false, Option, Some, None, refl, sym, ap, arith}
use Rattle.std.specs.Prelude.{unwrap_or}
use Rattle.std.specs.BTreeMap.{is_at}
use Rattle.std.specs.List.{find}
use Rattle.std.proofs.lemmas.Bool.Decides.{nat_tests}
use Rattle.qs_base.specs.Order.{tid_cmp}
use Rattle.qs_base.specs.declared.identifiers.ClientNo.{ClientNo}
use Rattle.qs_base.specs.declared.identifiers.Tid.{Tid}
use Rattle.qs_base_lemmas.proofs.Tests.{some_same}
use Rattle.qs_book_laws.proofs.Maps.{changed_alike}
use Rattle.qs_node_kept.specs.Keeping.{has_label, is_outcome_of}
use Rattle.qs_node_kept.specs.Loans.{last_taken}
use Rattle.qs_node_kept.specs.declared.kept.KeptLabel.{KeptLabel}
use Rattle.qs_node_kept.specs.declared.kept.Lent.{Lent}
use Rattle.qs_node_step.specs.Answering.{kept_outcome}
use Rattle.qs_node_step.specs.Borrowing.{is_aborted, is_void}
use Rattle.qs_node_step.specs.Serving.{label_at}
use Rattle.qs_node_step.specs.State.{NodeValue}
use Rattle.qs_node_step.specs.Step.{is_owner}
use Rattle.qs_node_step.specs.declared.state.Issued.{Issued}
use Rattle.qs_node_step.specs.declared.state.OpenCommand.{OpenCommand}
use Rattle.qs_tm.specs.Manager as tm
use Rattle.qs_tm.specs.Outcomes as outcome_rules
use Rattle.qs_tm.specs.declared.manager.Manager.{Manager}
use Rattle.qs_tm.specs.declared.participant.Participant.{Participant}
use Rattle.qs_world_course.specs.Clients.{in_hand_of}
use Rattle.qs_world_course.specs.Worlds.{IsOpenStill, WaitsOnLoan}
use Rattle.qs_world_said.proofs.AfterServe.{told_in}

-- what a client has in hand is open still
abbrev pub IsRested : ClientNo → NodeValue → Type 0
IsRested client node = (command : OpenCommand) → in_hand_of client node.commands ≡ Some command → IsOpenStill node client command

-- ---- what is left of what that hangs on

pub record LeavesKept (k : ClientNo) (old new : NodeValue) : Type 0 where
  pub labels : new.kept.now.labels ≡ old.kept.now.labels
  pub outcomes : new.kept.now.outcomes ≡ old.kept.now.outcomes
  pub last : (tid : Tid) → last_taken k tid new.kept.now.loans ≡ last_taken k tid old.kept.now.loans
  pub aborted : (tid : Tid) → is_aborted tid new ≡ is_aborted tid old
  pub inc : new.setting.inc ≡ old.setting.inc

waits_on : (k : ClientNo) (old new : NodeValue) → LeavesKept k old new → (tid : Tid) (issued : Issued) → WaitsOnLoan old k tid issued → WaitsOnLoan new k tid issued
waits_on k old new l tid issued w = record { its = w.its; unaborted = l.aborted tid ∙ w.unaborted; loan = w.loan; last = l.last tid ∙ w.last; ungiven = w.ungiven; present = w.present ∙ sym l.inc }

pub open_still : (k : ClientNo) (old new : NodeValue) → LeavesKept k old new → (command : OpenCommand) → IsOpenStill old k command → IsOpenStill new k command
open_still k old new l command o = record {
  owned = λ begun tid at of own. ap (find (is_outcome_of tid)) l.outcomes ∙ o.owned begun tid (was begun at) of own;
  lent = λ begun tid issued at of other has. waits_on k old new l tid issued (o.lent begun tid issued (was begun at) of other has);
}
  where
    was : (begun : KeptLabel) → find (has_label command.line.label) new.kept.now.labels ≡ Some begun → find (has_label command.line.label) old.kept.now.labels ≡ Some begun
    was begun at = ap (find (has_label command.line.label)) (sym l.labels) ∙ at

-- ---- the transactions that a node knows are aborted as they were

pub outcome_stays : (tid : Tid) (f : Participant → Participant) → ((p : Participant) → outcome_rules.is_abort (f p).outcome ≡ outcome_rules.is_abort p.outcome) → (m : Manager) (t : Tid)
    → tm.told_of t false (λ (p : Participant). outcome_rules.is_abort p.outcome) (tm.with_part tid f m) ≡ tm.told_of t false (λ (p : Participant). outcome_rules.is_abort p.outcome) m
outcome_stays tid f keeps m t = told_in (tm.part_of t (tm.with_part tid f m))
    ∙ (ap (λ (o : Option Bool). unwrap_or o false) (changed_alike (is_at (tid_cmp tid)) (λ (p : Participant). outcome_rules.is_abort p.outcome) f keeps (is_at (tid_cmp t)) m.known)
    ∙ sym (told_in (tm.part_of t m)))

-- ---- a command that is met

module _ (node : NodeValue) (client : ClientNo) (command : OpenCommand) (begun : KeptLabel) (met : label_at command.line.label node ≡ Some begun) where
  same_label : (other : KeptLabel) → find (has_label command.line.label) node.kept.now.labels ≡ Some other → begun ≡ other
  same_label other at = some_same (sym met ∙ at)

  pub open_owned : is_owner client begun.owner ≡ true → ((tid : Tid) → begun.tid ≡ Some tid → kept_outcome tid node ≡ None) → IsOpenStill node client command
  open_owned own none = record {
    owned = λ other tid at of is. none tid (ap (λ (b : KeptLabel). b.tid) (same_label other at) ∙ of);
    lent = λ other tid issued at of is has. absurd (cc (sym own ∙ (ap (λ (b : KeptLabel). is_owner client b.owner) (same_label other at) ∙ is)));
  }

  pub open_lent : is_owner client begun.owner ≡ false → ((tid : Tid) (issued : Issued) → begun.tid ≡ Some tid → command.issued ≡ Some issued → WaitsOnLoan node client tid issued) → IsOpenStill node client command
  open_lent own waits = record {
    owned = λ other tid at of is. absurd (cc (sym own ∙ (ap (λ (b : KeptLabel). is_owner client b.owner) (same_label other at) ∙ is)));
    lent = λ other tid issued at of is has. waits tid issued (ap (λ (b : KeptLabel). b.tid) (same_label other at) ∙ of) has;
  }

pub open_unmet : (node : NodeValue) (client : ClientNo) (command : OpenCommand) → label_at command.line.label node ≡ None → IsOpenStill node client command
open_unmet node client command none = record { owned = λ begun tid at of own. absurd (cc (sym none ∙ at)); lent = λ begun tid issued at of own has. absurd (cc (sym none ∙ at)) }

-- a loan that is not void was made since the node started, of what the node does not know aborted
pub good_loan : (tid : Tid) (loan : Lent) (node : NodeValue) → is_void tid loan node ≡ false → (loan.inc ≡ node.setting.inc) × (is_aborted tid node ≡ false)
good_loan tid loan node good = by (loan.inc == node.setting.inc) refl
  where
    same : (a b : ℕ) → (a == b) ≡ true → a ≡ b
    same a b is = grind (arith, nat_tests, is)

    by : (b : Bool) → (loan.inc == node.setting.inc) ≡ b → (loan.inc ≡ node.setting.inc) × (is_aborted tid node ≡ false)
    by true is = (same loan.inc node.setting.inc is, rw is at good)
    by false is = absurd (cc (rw is at good))
