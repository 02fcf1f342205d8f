-- What the sources of a step's records say of what the machine had before: what is aborted was so or could be, and what is ended was committed.
use Rattle.qs_world_runs.proofs.Words.{◌≡◌, ◌⊎◌, inl, inr, ℕ, true, false, List, [], Option, Some, None, refl, sym, ap, subst, ◌∙◌, is_some, Tid, Act, BookValue, cell_of_transaction, find_transaction, is_among, may_be_lost, TransactionValue, cell_of, Cell, Record, Recovery, effects_of, end_record, Event, entries_of, HasAborted, HasCommitted, HasOutcome, IsTrueEvent, LastsWell, EntersDecide, IsSource, some_same, eq-eqb}
use Rattle.qs_base.specs.declared.identifiers.Outcome.{Outcome}
use Rattle.qs_base.specs.declared.identifiers.Outcome.TheVariants as outcomes
use Rattle.qs_book_machine.specs.Lawful.{IsLawful}
use Rattle.qs_book_machine.specs.Transaction.{is_open}
use Rattle.qs_book_machine.specs.declared.transaction.Cell.TheVariants as cells
use Rattle.qs_record.specs.declared.record.Record.TheVariants as made
use Rattle.qs_node_step.specs.State.{NodeValue}
use Rattle.qs_world_lawful.specs.Logged.{KnowsLog}
use Rattle.qs_world_runs.specs.CutRecords.{IsTold}
use Rattle.qs_world_runs.proofs.DecidedOnce.{Decided, IsShut, decided_so}

module _ (n stamp free : ℕ) (node : NodeValue) (event : Event) (book : BookValue) (well : LastsWell book) (lawful : IsLawful book (entries_of n stamp (effects_of node event free).entries)) (true_event : IsTrueEvent book event)
    (log : Recovery) (knows : KnowsLog book node.manager log) (commits : (tid : Tid) → is_among log.committed tid ≡ true → HasCommitted book tid) (undoubted : (tid : Tid) → HasCommitted book tid → (event_part : IsTold node event (made.Commit tid [])) → is_among log.committed tid ≡ false) where
  abbrev done : List Act
  done = (effects_of node event free).entries

  abbrev records : List Record
  records = (effects_of node event free).records

  abbrev Source : Record → Type 0
  Source rec = IsSource node event done rec

  -- ---- outcomes

  pub shut_of : (tid : Tid) (outcome : Outcome) → HasOutcome book tid outcome → IsShut n stamp book tid (cell_of outcome)
  shut_of tid outcome has = by (find_transaction book tid) refl
    where
      off : (o : Outcome) → is_open (cell_of o) ≡ false
      off outcomes.Commit = refl
      off outcomes.Abort = refl

      by : (o : Option TransactionValue) → find_transaction book tid ≡ o → IsShut n stamp book tid (cell_of outcome)
      by None none = absurd (cc (sym (ap cell_of_transaction none) ∙ has))
      by (Some tx) found = record { tx = tx; found = found; cell_is = some_same (sym (ap cell_of_transaction found) ∙ has); shut = off outcome }

  pub told_has : (rec : Record) (t : IsTold node event rec) → HasOutcome book t.tid t.outcome
  told_has rec t = subst (IsTrueEvent book) t.comes true_event

  -- ---- what is aborted

  aborted_lost : (tid : Tid) → HasAborted book tid → may_be_lost n tid (find_transaction book tid) ≡ true
  aborted_lost tid has = by (find_transaction book tid) has
    where
      by : (o : Option TransactionValue) → cell_of_transaction o ≡ Some cells.Abort → may_be_lost n tid o ≡ true
      by None e = absurd (cc e)
      by (Some tx) e = let c : tx.cell ≡ cells.Abort = some_same e in rw c refl

  -- it was so as the step began, or is decided in it
  pub aborted_either : (tid : Tid) → Source (made.Aborted tid) → EntersDecide tid outcomes.Abort done ⊎ HasAborted book tid
  aborted_either tid (inl e) = inl e
  aborted_either tid (inr (inl t)) = inr (by t.outcome refl t.is)
    where
      one : {x y : Tid} → made.Aborted x ≡ made.Aborted y → x ≡ y
      one e = cc e

      by : (o : Outcome) → t.outcome ≡ o → made.Aborted tid ≡ end_record t.tid t.outcome → HasAborted book tid
      by outcomes.Commit is e = absurd (clash (e ∙ ap (end_record t.tid) is))
        where
          clash : made.Aborted tid ≡ made.Commit t.tid [] → ⊥
          clash e = cc e
      by outcomes.Abort is e = subst (HasAborted book) (sym (one (e ∙ ap (end_record t.tid) is))) (subst (HasOutcome book t.tid) is (told_has (made.Aborted tid) t))
  aborted_either tid (inr (inr (inl t))) = absurd (clash t.is)
    where
      clash : made.Aborted tid ≡ made.End t.tid → ⊥
      clash e = cc e
  aborted_either tid (inr (inr (inr r))) = inr (subst (HasAborted book) (sym (one r.is)) ((knows.parts r.tid r.part r.known).aborted r.prepared r.aborted))
    where
      one : {x y : Tid} → made.Aborted x ≡ made.Aborted y → x ≡ y
      one e = cc e

  pub aborted_fits : (tid : Tid) → Source (made.Aborted tid) → is_some (find_transaction book tid) ≡ true → may_be_lost n tid (find_transaction book tid) ≡ true
  aborted_fits tid source some = by (aborted_either tid source)
    where
      by : EntersDecide tid outcomes.Abort done ⊎ HasAborted book tid → may_be_lost n tid (find_transaction book tid) ≡ true
      by (inr has) = aborted_lost tid has
      by (inl e) = of (find_transaction book tid) refl some
        where
          d : Decided n stamp book tid outcomes.Abort done
          d = decided_so n stamp done book well tid outcomes.Abort lawful e

          of : (o : Option TransactionValue) → find_transaction book tid ≡ o → is_some o ≡ true → may_be_lost n tid o ≡ true
          of None none is = absurd (cc is)
          of (Some tx) found is = cell tx.cell refl
            where
              cell : (c : Cell) → tx.cell ≡ c → may_be_lost n tid (Some tx) ≡ true
              cell cells.Open c = rw (c, eq-eqb tid.home.0 n d.home) refl
              cell cells.Abort c = rw c refl
              cell cells.Commit c = absurd (d.was_open cells.Commit (record { tx = tx; found = found; cell_is = c; shut = refl }))

  -- ---- what is ended

  pub end_fits : (tid : Tid) → Source (made.End tid) → is_among log.committed tid ≡ true
  end_fits tid (inl e) = absurd e
  end_fits tid (inr (inl t)) = absurd (by t.outcome t.is)
    where
      by : (o : Outcome) → made.End tid ≡ end_record t.tid o → ⊥
      by outcomes.Commit e = cc e
      by outcomes.Abort e = cc e
  end_fits tid (inr (inr (inl t))) = subst (λ (x : Tid). is_among log.committed x ≡ true) (sym (one t.is)) ((knows.parts t.tid t.part t.known).has_commit t.listed)
    where
      one : {x y : Tid} → made.End x ≡ made.End y → x ≡ y
      one e = cc e
  end_fits tid (inr (inr (inr r))) = absurd (clash r.is)
    where
      clash : made.End tid ≡ made.Aborted r.tid → ⊥
      clash e = cc e
