-- What a step decides was open as it began, and is so for the rest of it: so it is decided once, and no server votes on it once it is committed.
use Rattle.qs_world_runs.proofs.Words.{◌≡◌, ℕ, ◌≤◌, ◌+◌, ◌==◌, ◌++◌, arith, Bool, true, false, List, [], ◌∷◌, Option, Some, None, refl, sym, ap, subst, ◌∙◌, nat_tests, slice_get, same_tid, same_tid-true, Tid, Act, Entry, held, BookValue, cell_of_transaction, find_transaction, book_after, broken, broken_act, broken_at, effect, TransactionValue, cell_of, Cell, Cause, entries_of, entry_of, HasOutcome, Every, goes_aside, lasts_ran, LastsWell, EntersDecide, decides_of, one_if, some_same, and_parts}
use Rattle.qs_world_runs.proofs.Words.{eqb-true}
use Rattle.qs_base.specs.declared.identifiers.Outcome.{Outcome}
use Rattle.qs_base.specs.declared.identifiers.Outcome.TheVariants as outcomes
use Rattle.qs_book_journal.specs.declared.entry.Act.TheVariants as acts
use Rattle.qs_book_machine.specs.Clauses.{broken_decide, may_decide}
use Rattle.qs_book_machine.specs.Lawful.{IsLawful, is_in_order}
use Rattle.qs_book_machine.specs.Nodes as machine
use Rattle.qs_book_machine.specs.Transaction.{is_open}
use Rattle.qs_world_lawful.proofs.LogDeciding.{decided_now}
use Rattle.qs_world_runs.specs.CutRecords.{decides_commit}

next_apart : (a : ℕ) → (a == a + 1) ≡ false
next_apart a = grind (arith, nat_tests)

module _ (n stamp : ℕ) where
  abbrev pub after : BookValue → List Act → BookValue
  after book done = book_after book (entries_of n stamp done)

  abbrev pub Lawfully : BookValue → List Act → Type 0
  Lawfully book done = IsLawful book (entries_of n stamp done)

  pub well_on : (book : BookValue) (act : Act) → LastsWell book → broken book (entry_of n stamp act) ≡ None → LastsWell (effect book (entry_of n stamp act))
  well_on book act well lawful = lasts_ran (entry_of n stamp act ∷ []) book well (lawful, tt)

  -- it is over
  pub record IsShut (book : BookValue) (tid : Tid) (cell : Cell) : Type 0 where
    pub tx : TransactionValue
    pub found : find_transaction book tid ≡ Some tx
    pub cell_is : tx.cell ≡ cell
    pub shut : is_open cell ≡ false

  pub shut_on : (done : List Act) (book : BookValue) → LastsWell book → Lawfully book done → (tid : Tid) (cell : Cell) → IsShut book tid cell → IsShut (after book done) tid cell
  shut_on done book well lawful tid cell s =
      let p = goes_aside (n + 1) (entries_of n stamp done) book well lawful (all done) tid s.tx s.found in
      record { tx = p.0; found = p.1; cell_is = p.2.shut (ap is_open s.cell_is ∙ s.shut) ∙ s.cell_is; shut = s.shut }
    where
      all : (acts : List Act) → Every (λ (entry : Entry). (entry.node.0 == n + 1) ≡ false) (entries_of n stamp acts)
      all [] = tt
      all (act ∷ acts) = (next_apart n, all acts)

  -- ---- a decision

  pub record MayDecide (book : BookValue) (tid : Tid) : Type 0 where
    pub tx : TransactionValue
    pub found : find_transaction book tid ≡ Some tx
    pub undecided : is_open tx.cell ≡ true
    pub home : tid.home.0 ≡ n

  may : (book : BookValue) (tid : Tid) (outcome : Outcome) (cause : Option Cause) → broken book (entry_of n stamp (acts.Decide tid outcome cause)) ≡ None → MayDecide book tid
  may book tid outcome cause lawful = at (slice_get book.nodes n) (held (is_in_order book (entry_of n stamp (acts.Decide tid outcome cause))) 1 _ lawful).1
    where
      of : (node : machine.NodeValue) (x : Option TransactionValue) → find_transaction book tid ≡ x → broken_decide n node book.nodes tid x stamp outcome cause ≡ None → MayDecide book tid
      of node None none is = absurd (cc is)
      of node (Some tx) found is = let p = and_parts (tid.home.0 == n) (is_open tx.cell) (held (may_decide n tid tx) 70 _ is).0 in record { tx = tx; found = found; undecided = p.1; home = eqb-true tid.home.0 n p.0 }

      at : (o : Option machine.NodeValue) → broken_at book stamp n o (acts.Decide tid outcome cause) ≡ None → MayDecide book tid
      at None is = absurd (cc is)
      at (Some node) is = of node (find_transaction book tid) refl (held node.up 2 (broken_act book stamp n node (acts.Decide tid outcome cause)) is).1

  -- what is over is decided no more
  unmay : (book : BookValue) (tid : Tid) (cell : Cell) → IsShut book tid cell → MayDecide book tid → ⊥
  unmay book tid cell s m = let same : s.tx ≡ m.tx = some_same (sym s.found ∙ m.found) in let open_now : is_open cell ≡ true = sym (ap is_open s.cell_is) ∙ (ap (λ (tx : TransactionValue). is_open tx.cell) same ∙ m.undecided) in let off : is_open cell ≡ false = s.shut in cc (open_now, off)

  pub record Decided (book : BookValue) (tid : Tid) (outcome : Outcome) (done : List Act) : Type 0 where
    pub was_open : (cell : Cell) → IsShut book tid cell → ⊥
    pub home : tid.home.0 ≡ n
    pub then_is : IsShut (after book done) tid (cell_of outcome)

  shut_cell : (outcome : Outcome) → is_open (cell_of outcome) ≡ false
  shut_cell outcomes.Commit = refl
  shut_cell outcomes.Abort = refl

  pub decided_at : (before rest : List Act) (book : BookValue) → LastsWell book → (tid : Tid) (outcome : Outcome) (cause : Option Cause) → Lawfully book (before ++ acts.Decide tid outcome cause ∷ rest) → Decided book tid outcome (before ++ acts.Decide tid outcome cause ∷ rest)
  decided_at [] rest book well tid outcome cause lawful =
      let m : MayDecide book tid = may book tid outcome cause lawful.0 in
      record {
        was_open = λ cell s. unmay book tid cell s m;
        home = m.home;
        then_is = shut_on rest (effect book (entry_of n stamp (acts.Decide tid outcome cause))) (well_on book (acts.Decide tid outcome cause) well lawful.0) lawful.1 tid (cell_of outcome) (now (find_transaction (effect book (entry_of n stamp (acts.Decide tid outcome cause))) tid) refl (decided_now book stamp n tid outcome cause m.tx m.found));
      }
    where
      now : (o : Option TransactionValue) → find_transaction (effect book (entry_of n stamp (acts.Decide tid outcome cause))) tid ≡ o → HasOutcome (effect book (entry_of n stamp (acts.Decide tid outcome cause))) tid outcome → IsShut (effect book (entry_of n stamp (acts.Decide tid outcome cause))) tid (cell_of outcome)
      now None none is = absurd (cc (sym (ap cell_of_transaction none) ∙ is))
      now (Some tx) found is = record { tx = tx; found = found; cell_is = some_same (sym (ap cell_of_transaction found) ∙ is); shut = shut_cell outcome }
  decided_at (act ∷ before) rest book well tid outcome cause lawful =
      let d : Decided (effect book (entry_of n stamp act)) tid outcome (before ++ acts.Decide tid outcome cause ∷ rest) = decided_at before rest (effect book (entry_of n stamp act)) (well_on book act well lawful.0) tid outcome cause lawful.1 in
      record { was_open = λ cell s. d.was_open cell (shut_on (act ∷ []) book well (lawful.0, tt) tid cell s); home = d.home; then_is = d.then_is }

  pub decided_so : (done : List Act) (book : BookValue) → LastsWell book → (tid : Tid) (outcome : Outcome) → Lawfully book done → EntersDecide tid outcome done → Decided book tid outcome done
  decided_so done book well tid outcome lawful e = subst (Decided book tid outcome) (sym e.is) (decided_at e.before e.after book well tid outcome e.cause (subst (Lawfully book) e.is lawful))

  -- ---- how often

  pub none_decided : (done : List Act) (book : BookValue) → LastsWell book → (tid : Tid) (cell : Cell) → IsShut book tid cell → Lawfully book done → decides_of tid done ≡ 0
  none_decided [] book well tid cell s lawful = refl
  none_decided (act ∷ done) book well tid cell s lawful = both (decides_commit tid act) _ (head act lawful.0) (none_decided done (effect book (entry_of n stamp act)) (well_on book act well lawful.0) tid cell (shut_on (act ∷ []) book well (lawful.0, tt) tid cell s) lawful.1)
    where
      both : (b : Bool) (k : ℕ) → b ≡ false → k ≡ 0 → one_if b + k ≡ 0
      both true k e f = absurd (cc e)
      both false k e f = grind (arith, f)

      head : (a : Act) → broken book (entry_of n stamp a) ≡ None → decides_commit tid a ≡ false
      head (acts.Decide t outcomes.Commit cause) is = by (same_tid t tid) refl
        where
          by : (b : Bool) → same_tid t tid ≡ b → same_tid t tid ≡ false
          by false e = e
          by true e = absurd (unmay book tid cell s (subst (MayDecide book) (same_tid-true t tid e) (may book t outcomes.Commit cause is)))
      head (acts.Decide t outcomes.Abort cause) is = refl
      head (acts.Begin t label client) is = refl
      head (acts.Issue t issuer member number op) is = refl
      head (acts.Serve t member from number reply) is = refl
      head (acts.Vote t member ballot covers) is = refl
      head (acts.Ask t) is = refl
      head (acts.Counted t peer up_to) is = refl
      head (acts.Ending t member) is = refl
      head (acts.Learn t member outcome) is = refl
      head (acts.Answer client line said) is = refl
      head (acts.Loan t client) is = refl
      head (acts.Yield t client) is = refl
      head acts.Tick is = refl
      head (acts.Crash cause) is = refl
      head (acts.Restart inc pend found) is = refl

  pub once_decided : (done : List Act) (book : BookValue) → LastsWell book → (tid : Tid) → Lawfully book done → decides_of tid done ≤ 1
  once_decided [] book well tid lawful = small
    where
      small : 0 ≤ 1
      small = grind (arith)
  once_decided (act ∷ done) book well tid lawful = by (decides_commit tid act) refl (once_decided done (effect book (entry_of n stamp act)) (well_on book act well lawful.0) tid lawful.1)
    where
      add : (k : ℕ) → k ≤ 1 → 0 + k ≤ 1
      add k p = grind (arith, p)

      last : (k : ℕ) → k ≡ 0 → 1 + k ≤ 1
      last k e = grind (arith, e)

      is_decide : (a : Act) → decides_commit tid a ≡ true → EntersDecide tid outcomes.Commit (a ∷ [])
      is_decide (acts.Decide t outcomes.Commit cause) e = record { before = []; cause = cause; after = []; is = ap (λ (x : Tid). acts.Decide x outcomes.Commit cause ∷ []) (same_tid-true t tid e) }
      is_decide (acts.Decide t outcomes.Abort cause) e = absurd (cc e)
      is_decide (acts.Begin t label client) e = absurd (cc e)
      is_decide (acts.Issue t issuer member number op) e = absurd (cc e)
      is_decide (acts.Serve t member from number reply) e = absurd (cc e)
      is_decide (acts.Vote t member ballot covers) e = absurd (cc e)
      is_decide (acts.Ask t) e = absurd (cc e)
      is_decide (acts.Counted t peer up_to) e = absurd (cc e)
      is_decide (acts.Ending t member) e = absurd (cc e)
      is_decide (acts.Learn t member outcome) e = absurd (cc e)
      is_decide (acts.Answer client line said) e = absurd (cc e)
      is_decide (acts.Loan t client) e = absurd (cc e)
      is_decide (acts.Yield t client) e = absurd (cc e)
      is_decide acts.Tick e = absurd (cc e)
      is_decide (acts.Crash cause) e = absurd (cc e)
      is_decide (acts.Restart inc pend found) e = absurd (cc e)

      by : (b : Bool) → decides_commit tid act ≡ b → decides_of tid done ≤ 1 → one_if b + decides_of tid done ≤ 1
      by false e rest = add (decides_of tid done) rest
      by true e rest = last (decides_of tid done) (none_decided done (effect book (entry_of n stamp act)) (well_on book act well lawful.0) tid (cell_of outcomes.Commit) (decided_so (act ∷ []) book well tid outcomes.Commit (lawful.0, tt) (is_decide act e)).then_is lawful.1)
