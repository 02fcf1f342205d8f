-- Of what a step commits, or is told to be committed, its log had no Commit before; no server votes on it in the step, it is not aborted, and it is committed once.
use Rattle.qs_world_runs.proofs.Words.{◌≡◌, ◌⊎◌, inl, inr, ℕ, ◌≤◌, ◌+◌, ◌++◌, arith, Bool, true, false, List, [], ◌∷◌, Some, refl, sym, ap, subst, ◌∙◌, is_some, list_any-append, list_any, same_tid-self, same_tid-true, same_tid, NodeNo, Tid, Act, BookValue, is_among, TransactionValue, cell_of, Record, Recovery, names_transaction, effects_of, step_work, end_record, Event, entries_of, HasAborted, HasCommitted, HasOutcome, IsTrueEvent, lasts_ran, LastsWell, EntersDecide, IsSource, decides_of}
use Rattle.qs_world_runs.proofs.Words.{one_if, told_commit, deeds_of, is_noted, or_right, or_parts, some_same}
use Rattle.qs_base.specs.declared.identifiers.Outcome.{Outcome}
use Rattle.qs_base.specs.declared.identifiers.Outcome.TheVariants as outcomes
use Rattle.qs_book_journal.specs.declared.entry.Act.TheVariants as acts
use Rattle.qs_book_machine.specs.Lawful.{IsLawful}
use Rattle.qs_book_machine.specs.declared.transaction.Cell.TheVariants as cells
use Rattle.qs_packet.specs.declared.message.Message.TheVariants as messages
use Rattle.qs_record.specs.declared.record.Record.TheVariants as made
use Rattle.qs_node_step.specs.State.{NodeValue}
use Rattle.qs_node_step.specs.declared.event.Event.TheVariants as events
use Rattle.qs_world_lawful.specs.Logged.{KnowsLog}
use Rattle.qs_world_runs.specs.CutRecords.{IsTold}
use Rattle.qs_world_runs.specs.Firsts.{CommitsFirst, StaysOpen, is_commit_of, is_vote_of}
use Rattle.qs_world_runs.proofs.BatchSources.{aborted_either, shut_of, told_has}
use Rattle.qs_world_runs.proofs.CommitsFirst.{commits_so}
use Rattle.qs_world_runs.proofs.DecidedOnce.{Decided, IsShut, decided_so, none_decided, once_decided}
use Rattle.qs_world_runs.proofs.VotesShut.{unvoted, unvoted_behind}

module _ (n stamp free : ℕ) (node : NodeValue) (event : Event) (book : BookValue) (well : LastsWell book) (lawful : IsLawful book (entries_of n stamp (effects_of node event free).entries)) (true_event : IsTrueEvent book event)
    (log : Recovery) (knows : KnowsLog book node.manager log) (commits : (tid : Tid) → is_among log.committed tid ≡ true → HasCommitted book tid) (undoubted : (tid : Tid) → HasCommitted book tid → (event_part : IsTold node event (made.Commit tid [])) → is_among log.committed tid ≡ false) where
  abbrev done : List Act
  done = (effects_of node event free).entries

  abbrev Source : Record → Type 0
  Source rec = IsSource node event done rec

  -- ---- what is told to be committed

  abbrev Told : Tid → Event → Type 0
  Told tid e = (told_commit e tid ≡ 0) ⊎ ((told_commit e tid ≡ 1) × HasCommitted book tid)

  told_is : (tid : Tid) (e : Event) → IsTrueEvent book e → Told tid e
  told_is tid (events.Command client line label command) is = inl refl
  told_is tid events.ServeAll is = inl refl
  told_is tid (events.PeerRestarted peer old new) is = inl refl
  told_is tid events.Tick is = inl refl
  told_is tid (events.Received peer messages.Hello) is = inl refl
  told_is tid (events.Received peer (messages.Request t label member number issuer op)) is = inl refl
  told_is tid (events.Received peer (messages.Answered t member number reply)) is = inl refl
  told_is tid (events.Received peer (messages.AskVote t)) is = inl refl
  told_is tid (events.Received peer (messages.Covered t up_to)) is = inl refl
  told_is tid (events.Received peer (messages.VotedYes t up_to told)) is = inl refl
  told_is tid (events.Received peer (messages.VotedAbort t cause)) is = inl refl
  told_is tid (events.Received peer (messages.Tell t outcomes.Abort)) is = inl refl
  told_is tid (events.Received peer (messages.Tell t outcomes.Commit)) is = by (same_tid t tid) refl
    where
      by : (b : Bool) → same_tid t tid ≡ b → (one_if (same_tid t tid) ≡ 0) ⊎ ((one_if (same_tid t tid) ≡ 1) × HasCommitted book tid)
      by false e = inl (ap one_if e)
      by true e = inr (ap one_if e, subst (HasCommitted book) (same_tid-true t tid e) is)
  told_is tid (events.Received peer (messages.Told t further)) is = inl refl
  told_is tid (events.Received peer (messages.Inquire t)) is = inl refl

  -- ---- a Commit

  pub record Commits (tid : Tid) : Type 0 where
    pub named : names_transaction tid ≡ true
    pub fresh : is_among log.committed tid ≡ false
    pub unvoted : list_any (is_vote_of tid) done ≡ false
    pub stands : Source (made.Aborted tid) → ⊥
    pub once : decides_of tid done + told_commit event tid ≤ 1

  -- that is decided in the step
  module _ (tid : Tid) (e : EntersDecide tid outcomes.Commit done) where
    d : Decided n stamp book tid outcomes.Commit done
    d = decided_so n stamp done book well tid outcomes.Commit lawful e

    before_off : (xs : List Act) → list_any (is_noted tid) xs ≡ false → list_any (is_vote_of tid) xs ≡ false
    before_off [] off = refl
    before_off (x ∷ xs) off = rw (head x (or_parts (is_noted tid x) _ off).0) (before_off xs (or_parts (is_noted tid x) _ off).1)
      where
        head : (a : Act) → is_noted tid a ≡ false → is_vote_of tid a ≡ false
        head (acts.Vote t member ballot covers) is = is
        head (acts.Decide t outcome cause) is = refl
        head (acts.Begin t label client) is = refl
        head (acts.Issue t issuer member number op) is = refl
        head (acts.Serve t member from number reply) is = refl
        head (acts.Ask t) is = refl
        head (acts.Counted t peer up_to) is = refl
        head (acts.Ending t member) is = refl
        head (acts.Learn t member outcome) is = refl
        head (acts.Answer client line said) is = refl
        head (acts.Loan t client) is = refl
        head (acts.Yield t client) is = refl
        head acts.Tick is = refl
        head (acts.Crash cause) is = refl
        head (acts.Restart inc pend found) is = refl

    decided_unvoted : list_any (is_vote_of tid) done ≡ false
    decided_unvoted = by (commits_so tid node event free)
      where
        any_in : (xs ys : List Act) (x : Act) (p : Act → Bool) → p x ≡ true → list_any p (xs ++ x ∷ ys) ≡ true
        any_in [] ys x p is = rw is refl
        any_in (w ∷ xs) ys x p is = or_right (p w) _ (any_in xs ys x p is)

        by : CommitsFirst tid done ⊎ StaysOpen tid (deeds_of (step_work node event free)) → list_any (is_vote_of tid) done ≡ false
        by (inl c) = ap (list_any (is_vote_of tid)) c.is ∙ (list_any-append (is_vote_of tid) c.before (acts.Decide tid outcomes.Commit c.cause ∷ c.after)
            ∙ rw (before_off c.before c.unnoted, unvoted_behind n stamp c.before c.after book well tid c.cause (subst (λ (as_done : List Act). IsLawful book (entries_of n stamp as_done)) c.is lawful)) refl)
        by (inr s) = absurd (let some : list_any (is_commit_of tid) done ≡ true = ap (list_any (is_commit_of tid)) e.is ∙ any_in e.before e.after (acts.Decide tid outcomes.Commit e.cause) (is_commit_of tid) (same_tid-self tid) in let none : list_any (is_commit_of tid) done ≡ false = s.none in cc (some, none))

    decided_commits : Commits tid
    decided_commits = record {
      named = (lasts_ran (entries_of n stamp done) book well lawful).named tid (ap is_some d.then_is.found);
      fresh = by (is_among log.committed tid) refl;
      unvoted = decided_unvoted;
      stands = λ source. other (aborted_either n stamp free node event book well lawful true_event log knows commits undoubted tid source);
      once = told (told_is tid event true_event);
    }
      where
        was : (outcome : Outcome) → HasOutcome book tid outcome → ⊥
        was outcome has = d.was_open (cell_of outcome) (shut_of n stamp free node event book well lawful true_event log knows commits undoubted tid outcome has)

        by : (b : Bool) → is_among log.committed tid ≡ b → is_among log.committed tid ≡ false
        by false is = is
        by true is = absurd (was outcomes.Commit (commits tid is))

        other : EntersDecide tid outcomes.Abort done ⊎ HasAborted book tid → ⊥
        other (inr has) = was outcomes.Abort has
        other (inl a) = let x : Decided n stamp book tid outcomes.Abort done = decided_so n stamp done book well tid outcomes.Abort lawful a in
            let same : x.then_is.tx ≡ d.then_is.tx = some_same (sym x.then_is.found ∙ d.then_is.found) in clash (sym x.then_is.cell_is ∙ (ap (λ (tx : TransactionValue). tx.cell) same ∙ d.then_is.cell_is))
          where
            clash : cells.Abort ≡ cells.Commit → ⊥
            clash e = cc e

        told : Told tid event → decides_of tid done + told_commit event tid ≤ 1
        told (inl none) = sum (decides_of tid done) (told_commit event tid) (once_decided n stamp done book well tid lawful) none
          where
            sum : (a b : ℕ) → a ≤ 1 → b ≡ 0 → a + b ≤ 1
            sum a b p q = grind (arith, p, q)
        told (inr t) = absurd (was outcomes.Commit t.1)

  -- that was told
  told_commits : (tid : Tid) → HasCommitted book tid → IsTold node event (made.Commit tid []) → Commits tid
  told_commits tid has t = record {
    named = well.named tid (ap is_some s.found);
    fresh = undoubted tid has t;
    unvoted = unvoted n stamp done book well tid s lawful;
    stands = λ source. other (aborted_either n stamp free node event book well lawful true_event log knows commits undoubted tid source);
    once = told (told_is tid event true_event);
  }
    where
      s : IsShut n stamp book tid cells.Commit
      s = shut_of n stamp free node event book well lawful true_event log knows commits undoubted tid outcomes.Commit has

      other : EntersDecide tid outcomes.Abort done ⊎ HasAborted book tid → ⊥
      other (inl a) = (decided_so n stamp done book well tid outcomes.Abort lawful a).was_open cells.Commit s
      other (inr aborted) = clash (sym aborted ∙ has)
        where
          clash : Some cells.Abort ≡ Some cells.Commit → ⊥
          clash e = cc e

      none : decides_of tid done ≡ 0
      none = none_decided n stamp done book well tid cells.Commit s lawful

      zero_sum : (a b : ℕ) → a ≡ 0 → b ≡ 0 → a + b ≤ 1
      zero_sum a b p q = grind (arith, p, q)

      one_sum : (a b : ℕ) → a ≡ 0 → b ≡ 1 → a + b ≤ 1
      one_sum a b p q = grind (arith, p, q)

      told : Told tid event → decides_of tid done + told_commit event tid ≤ 1
      told (inl zero) = zero_sum (decides_of tid done) (told_commit event tid) none zero
      told (inr (one, has)) = one_sum (decides_of tid done) (told_commit event tid) none one

  pub commit_is : (tid : Tid) (told : List NodeNo) → Source (made.Commit tid told) → Commits tid
  commit_is tid told (inl e) = decided_commits tid e
  commit_is tid told (inr (inl t)) = by t.outcome refl
    where
      as_told : {x y : Record} → x ≡ y → IsTold node event x → IsTold node event y
      as_told e k = subst (IsTold node event) e k

      by : (o : Outcome) → t.outcome ≡ o → Commits tid
      by outcomes.Abort is = absurd (clash (t.is ∙ ap (end_record t.tid) is))
        where
          clash : made.Commit tid told ≡ made.Aborted t.tid → ⊥
          clash e = cc e
      by outcomes.Commit is = let whole : made.Commit tid told ≡ made.Commit t.tid [] = t.is ∙ ap (end_record t.tid) is in let same : tid ≡ t.tid = one whole in
          subst Commits (sym same) (told_commits t.tid (subst (HasOutcome book t.tid) is (told_has n stamp free node event book well lawful true_event log knows commits undoubted (made.Commit tid told) t)) (as_told whole t))
        where
          one : {x y : Tid} {a b : List NodeNo} → made.Commit x a ≡ made.Commit y b → x ≡ y
          one e = cc e
  commit_is tid told (inr (inr (inl t))) = absurd (clash t.is)
    where
      clash : made.Commit tid told ≡ made.End t.tid → ⊥
      clash e = cc e
  commit_is tid told (inr (inr (inr r))) = absurd (clash r.is)
    where
      clash : made.Commit tid told ≡ made.Aborted r.tid → ⊥
      clash e = cc e
