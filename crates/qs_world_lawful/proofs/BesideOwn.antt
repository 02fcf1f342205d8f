-- An entry that changes one transaction: what the machine has beside the node stands on where it does for that one.
use Rattle.qs_world_lawful.proofs.Words.{◌≡◌, ◌⊎◌, inl, inr, true, false, List, Option, Some, None, refl, sym, ap, subst, ◌∙◌, is_at, lookup, is_some, tid_cmp, Tid, BookValue, find_transaction, with_transaction, has_no_record, TransactionValue, is_commit, Cause, Participant, HoldsBeside, HoldsClock, HoldsEnded, HoldsPart, HoldsStranger, HoldsTidBeside, IsTrueCause}
use Rattle.qs_book_machine.specs.Nodes as machine
use Rattle.qs_node_step.specs.Answering.{was_committed}
use Rattle.qs_node_step.specs.State.{NodeValue}
use Rattle.qs_tm.specs.Manager as tm
use Rattle.qs_world_lawful.proofs.Apart.{Apart, same_or_apart}
use Rattle.qs_world_lawful.proofs.BesideParts.{CommittedOn, TxStep, part_same, tid_on}
use Rattle.qs_world_lawful.proofs.BesidePlain.{MachineOn, beside_by}
use Rattle.qs_world_lawful.proofs.Steps.{tx_changed}
use Rattle.qs_world_lawful.proofs.Truths.{of_some}

-- one that is known stays so
abbrev pub KnownOn : NodeValue → NodeValue → Tid → (Participant → Type 0) → Type 0
KnownOn node fresh tid P = (p : Participant) → tm.part_of tid node.manager ≡ Some p → (q : Participant) × (tm.part_of tid fresh.manager ≡ Some q) × P q

-- the transaction that is changed
pub own_by : (new : BookValue) (next : machine.NodeValue) (node fresh : NodeValue) (tid : Tid) (later : TransactionValue) → find_transaction new tid ≡ Some later
    → (tm.part_of tid node.manager ≡ None → tm.part_of tid fresh.manager ≡ None) → KnownOn node fresh tid (HoldsPart new next fresh tid later)
    → (tm.part_of tid node.manager ≡ None → is_commit later.cell ≡ false → HoldsStranger fresh.setting.node fresh.setting.inc tid later)
    → (tid.home ≡ fresh.setting.node → (tm.part_of tid fresh.manager ≡ None → tm.part_of tid node.manager ≡ None) → HoldsEnded fresh tid later) → HoldsTidBeside new next fresh tid
own_by new next node fresh tid later found none known stranger ended = record {
  stands = λ q at. ap is_some found;
  parts = λ l q at is. subst (λ (x : TransactionValue). HoldsPart new next fresh tid x q) (same at) (part q is (tm.part_of tid node.manager) refl);
  strangers = λ l at is open_still. subst (λ (x : TransactionValue). HoldsStranger fresh.setting.node fresh.setting.inc tid x) (same at) (stranger (back (tm.part_of tid node.manager) refl is) (ap (λ (x : TransactionValue). is_commit x.cell) (same at) ∙ open_still));
  unbegun = λ is. absurd (no (sym found ∙ is));
  ended = λ l home at. subst (HoldsEnded fresh tid) (same at) (ended home (back (tm.part_of tid node.manager) refl));
}
  where
    same : {l : TransactionValue} → find_transaction new tid ≡ Some l → later ≡ l
    same at = of_some (sym found ∙ at)

    no : {x : TransactionValue} → Some x ≡ None → ⊥
    no e = cc e

    lost : {x : Participant} → Some x ≡ None → ⊥
    lost e = cc e

    part : (q : Participant) → tm.part_of tid fresh.manager ≡ Some q → (o : Option Participant) → tm.part_of tid node.manager ≡ o → HoldsPart new next fresh tid later q
    part q is None was = absurd (lost (sym is ∙ none was))
    part q is (Some p) was = let k : (q : Participant) × (tm.part_of tid fresh.manager ≡ Some q) × HoldsPart new next fresh tid later q = known p was in
        subst (HoldsPart new next fresh tid later) (of_some (sym k.1 ∙ is)) k.2

    back : (o : Option Participant) → tm.part_of tid node.manager ≡ o → tm.part_of tid fresh.manager ≡ None → tm.part_of tid node.manager ≡ None
    back None was is = was
    back (Some p) was is = let k : (q : Participant) × (tm.part_of tid fresh.manager ≡ Some q) × HoldsPart new next fresh tid later q = known p was in absurd (lost (sym k.1 ∙ is))

-- where it is known before, and so after
pub own_known : (new : BookValue) (next : machine.NodeValue) (node fresh : NodeValue) (tid : Tid) (later : TransactionValue) → find_transaction new tid ≡ Some later → (p q : Participant) → tm.part_of tid node.manager ≡ Some p → tm.part_of tid fresh.manager ≡ Some q
    → HoldsPart new next fresh tid later q → (tid.home ≡ fresh.setting.node → is_commit later.cell ≡ true → was_committed tid fresh ≡ true) → HoldsTidBeside new next fresh tid
own_known new next node fresh tid later found p q was is part committed = own_by new next node fresh tid later found (λ none. absurd (no (sym was ∙ none))) (λ r known. (q, is, part)) (λ none open_still. absurd (no (sym was ∙ none)))
    (λ home back. record { committed = committed home; unknown = λ none kept. absurd (no (sym is ∙ none)) })
  where
    no : {x : Participant} → Some x ≡ None → ⊥
    no e = cc e

-- ---- all of it

module _ (old new : BookValue) (node fresh : NodeValue) (setting : fresh.setting ≡ node.setting) (h : HoldsBeside old node) (m : MachineOn old new node.setting.node.0 h.state)
    (causes : (t : Tid) (cause : Cause) → IsTrueCause old t cause → IsTrueCause new t cause) (tid : Tid) (committed : (t : Tid) → CommittedOn node fresh t) (others : (t : Tid) → Apart tid t → tm.part_of t fresh.manager ≡ tm.part_of t node.manager)
    (records : (t : Tid) → Apart tid t → has_no_record h.state t ≡ true → has_no_record m.next t ≡ true) where
  pub beside_one : ((t : Tid) → Apart tid t → TxStep node.setting.node node.setting.inc old new t) → HoldsClock fresh → HoldsTidBeside new m.next fresh tid → HoldsBeside new fresh
  beside_one steps clock own = beside_by old new node fresh setting h m clock (λ t. of t (same_or_apart tid t))
    where
      of : (t : Tid) → (tid ≡ t) ⊎ Apart tid t → HoldsTidBeside new m.next fresh t
      of t (inl same) = subst (HoldsTidBeside new m.next fresh) same own
      of t (inr far) = tid_on old new h.state m.next node fresh t setting (causes t) (records t far) (steps t far) (committed t) (h.at t) (part_same node fresh t (others t far))

-- what was changed is found so
pub found_changed : (tid : Tid) (f : TransactionValue → TransactionValue) (book new : BookValue) (tx : TransactionValue) → new.transactions ≡ (with_transaction tid f book).transactions → find_transaction book tid ≡ Some tx → find_transaction new tid ≡ Some (f tx)
found_changed tid f book new tx txs found = ap (λ (es : List (Tid × TransactionValue)). lookup (is_at (tid_cmp tid)) es) txs ∙ tx_changed tid f book.transactions tx found
