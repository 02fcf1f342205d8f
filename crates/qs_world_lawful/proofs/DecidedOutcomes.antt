-- What is kept of an outcome as one more is decided: what was committed stays so, the record is of its transaction, and who knows an outcome says what is so.
use Rattle.qs_world_lawful.proofs.Words.{◌≡◌, Bool, true, false, List, [], ◌∷◌, ◌++◌, Option, Some, None, refl, sym, ap, ◌∙◌, if◌then◌else◌, find, list_any, ◌||◌, is_some, same_tid, Outcome, Tid, listed, is_outcome_of, Decided, BookValue, cell_of_transaction, find_transaction, TransactionValue, cell_of, is_outcome, Cell, Record, is_kept_commit, kept_outcome, tid_of, Decision, Manager, Participant, HoldsBeside, HasOutcome, or_right}
use Rattle.qs_base.specs.declared.identifiers.Outcome.TheVariants as outcomes
use Rattle.qs_book_machine.specs.declared.transaction.Cell.TheVariants as cells
use Rattle.qs_record.specs.declared.record.Record.TheVariants as records
use Rattle.qs_node_step.specs.Answering.{was_committed}
use Rattle.qs_node_step.specs.State.{NodeValue}
use Rattle.qs_tm.specs.Manager as tm
use Rattle.qs_tm.specs.Outcomes as outcome_rules
use Rattle.qs_world_lawful.proofs.Truths.{clash, of_some}

-- ---- what is kept for owners, and one more

found_first : (p : Decided → Bool) (xs ys : List Decided) (x : Decided) → find p xs ≡ Some x → find p (xs ++ ys) ≡ Some x
found_first p [] ys x e = absurd (cc e)
found_first p (d ∷ xs) ys x e = by (p d) e (found_first p xs ys x)
  where
    by : (b : Bool) → (if b then Some d else find p xs) ≡ Some x → (find p xs ≡ Some x → find p (xs ++ ys) ≡ Some x) → (if b then Some d else find p (xs ++ ys)) ≡ Some x
    by true e more = e
    by false e more = more e

pub found_last : (p : Decided → Bool) (xs : List Decided) (d : Decided) → find p xs ≡ None → p d ≡ true → find p (xs ++ d ∷ []) ≡ Some d
found_last p [] d e has = rw has refl
found_last p (x ∷ xs) d e has = by (p x) e (λ n. found_last p xs d n has)
  where
    by : (b : Bool) → (if b then Some x else find p xs) ≡ None → (find p xs ≡ None → find p (xs ++ d ∷ []) ≡ Some d) → (if b then Some x else find p (xs ++ d ∷ [])) ≡ Some d
    by true e more = absurd (cc e)
    by false e more = more e

-- what was committed stays so
pub committed_more : (t : Tid) (node fresh : NodeValue) (d : Decided) → fresh.kept.now.outcomes ≡ node.kept.now.outcomes ++ d ∷ [] → fresh.committed ≡ node.committed → was_committed t node ≡ true → was_committed t fresh ≡ true
committed_more t node fresh d outcomes committed is = by (kept_outcome t node) refl is
  where
    by : (o : Option Decided) → kept_outcome t node ≡ o → (is_kept_commit o || list_any (same_tid t) node.committed) ≡ true → was_committed t fresh ≡ true
    by None none e = rw committed (or_right (is_kept_commit (kept_outcome t fresh)) (list_any (same_tid t) node.committed) e)
    by (Some x) some e = rw (committed, outcomes, found_first (is_outcome_of t) node.kept.now.outcomes (d ∷ []) x some) e

-- ---- the record of a decision is of its transaction

abbrev pub made_of : Tid → Outcome → Option Participant → Decision
made_of tid outcome o = elim o [ None ↦ tm.no_decision | Some part ↦ record { rec = outcome_rules.record_of tid outcome part; tell = listed (outcome_rules.tell_of outcome part) } ]

pub decision_of : (tid : Tid) (outcome : Outcome) (manager : Manager) (rec : Record) → (tm.decision tid outcome manager).rec ≡ Some rec → tid_of rec ≡ tid
decision_of tid outcome manager rec is = by (tm.part_of tid manager) is
  where
    of : (o : Outcome) (part : Participant) → outcome_rules.record_of tid o part ≡ Some rec → tid_of rec ≡ tid
    of outcomes.Commit part e = at (outcome_rules.writes_commit part) e
      where
        at : (b : Bool) → (if b then Some (records.Commit tid (listed part.told)) else None) ≡ Some rec → tid_of rec ≡ tid
        at true e = ap tid_of (of_some (sym e))
        at false e = absurd (cc e)
    of outcomes.Abort part e = at part.log.prepared e
      where
        at : (b : Bool) → (if b then Some (records.Aborted tid) else None) ≡ Some rec → tid_of rec ≡ tid
        at true e = ap tid_of (of_some (sym e))
        at false e = absurd (cc e)

    by : (o : Option Participant) → (made_of tid outcome o).rec ≡ Some rec → tid_of rec ≡ tid
    by None e = absurd (cc e)
    by (Some part) e = of outcome part e

pub outcome_is : (o : Outcome) → is_outcome o (cell_of o) ≡ true
outcome_is outcomes.Commit = refl
outcome_is outcomes.Abort = refl

-- the cell that has an outcome
pub cell_is : (o : Outcome) (c : Cell) → is_outcome o c ≡ true → c ≡ cell_of o
cell_is outcomes.Commit cells.Commit e = refl
cell_is outcomes.Abort cells.Abort e = refl
cell_is outcomes.Commit cells.Abort e = absurd (cc e)
cell_is outcomes.Commit cells.Open e = absurd (cc e)
cell_is outcomes.Abort cells.Commit e = absurd (cc e)
cell_is outcomes.Abort cells.Open e = absurd (cc e)

-- a node that knows how it ended says what is so
pub outcome_said : (book : BookValue) (node : NodeValue) (tid : Tid) (p : Participant) (o : Outcome) → tm.part_of tid node.manager ≡ Some p → p.outcome ≡ Some o → HoldsBeside book node → HasOutcome book tid o
outcome_said book node tid p o known decided h = by (find_transaction book tid) refl ((h.at tid).stands p known)
  where
    by : (x : Option TransactionValue) → find_transaction book tid ≡ x → is_some (find_transaction book tid) ≡ true → cell_of_transaction (find_transaction book tid) ≡ Some (cell_of o)
    by None is there = absurd (clash (sym (ap is_some is) ∙ there))
    by (Some tx) is there = ap cell_of_transaction is ∙ ap Some (cell_is o tx.cell (((h.at tid).parts tx p is known).outcome o decided))
