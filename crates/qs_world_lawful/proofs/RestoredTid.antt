-- After a restart the machine holds of each transaction what the node has that begins its incarnation.
use Rattle.qs_world_lawful.proofs.Words.{◌≡◌, inl, inr, ℕ, ◌<◌, ◌==◌, ◌&&◌, ◌||◌, Bool, true, false, Option, Some, None, refl, sym, ap, subst, ◌∙◌, is_some, slice_get, list_all, same_tid, NodeNo, Tid, BookValue, cell_of_transaction, find_transaction, is_recoverable, count_of, is_among, is_committed, member_at, record_at, TransactionValue, is_commit, is_empty, is_open, is_unanimous, learnt_abort, no_part, Cell, Part, Prepared, Recovery, is_in_doubt, names_transaction, doubt_at, member_as}
use Rattle.qs_world_lawful.proofs.Words.{HoldsMember, IsBefore, Lasts, HasAborted, HasCommitted, IsMarked, StandsIn, Every, HoldsStopped, IsCommitLogged, HoldsLeft, IsApart, eqb-true, not-true, ltb_some}
use Rattle.qs_book_machine.specs.Nodes as machine
use Rattle.qs_book_machine.specs.Transaction.{part_of}
use Rattle.qs_book_machine.specs.declared.transaction.Cell.TheVariants as cells
use Rattle.qs_world_lawful.specs.Lasting.{LastsAt}
use Rattle.qs_world_lawful.specs.Said.{IsUndone}
use Rattle.qs_world_lawful.proofs.FoundMembers.{all_true, and_both, every_among, every_two, member_found, member_none}
use Rattle.qs_world_lawful.proofs.Reopened.{doubt_is}
use Rattle.qs_world_lawful.proofs.RestartGoes.{Goes, IsElsewhere}
use Rattle.qs_world_lawful.proofs.RestartVotes.{IsSorted, part_as}
use Rattle.qs_world_lawful.proofs.Restored.{aborted_new, committed_new, goes_new, new_book, none_new, part_new, with_found}
use Rattle.qs_world_lawful.proofs.TakenCommits.{IsListed}

-- what stands of a node that is down as it restarts
pub record Restarts (book : BookValue) (here : NodeNo) (inc : ℕ) (log : Recovery) (state : machine.NodeValue) : Type 0 where
  pub there : slice_get book.nodes here.0 ≡ Some state
  pub stopped : HoldsStopped here.0 book state log
  pub stands : Every (StandsIn book) log.prepared
  pub marked : Every (IsMarked log) log.prepared
  pub left : HoldsLeft here.0 book state log
  pub lasts : Lasts book
  pub listed : Every (IsListed log.committed) log.untold
  pub rises : state.inc < inc

-- ---- the whole

module _ (book : BookValue) (here : NodeNo) (stamp inc : ℕ) (log : Recovery) (state : machine.NodeValue) (r : Restarts book here inc log state) where
  abbrev pub new : BookValue
  new = new_book book here.0 stamp inc log state r.there

  pub sorted : Every (IsSorted log.committed) log.prepared
  sorted = every_two (IsMarked log) (IsApart log) (IsSorted log.committed) (λ v marked apart named. by v v.committed refl marked apart named) log.prepared r.marked r.left.apart
    where
      by : (v : Prepared) (b : Bool) → v.committed ≡ b → IsMarked log v → IsApart log v → names_transaction v.tid ≡ true → is_among log.committed v.tid ≡ v.committed
      by v true is marked apart named = marked is ∙ sym is
      by v false is marked apart named = apart named is ∙ sym is

  pub kinds : list_all (λ (v : Prepared). is_recoverable v.server.0) log.prepared ≡ true
  kinds = all_true (λ (v : Prepared). is_recoverable v.server.0) log.prepared r.stopped.kinds

  pub at_node : LastsAt book here state
  at_node = r.lasts.nodes here state r.there

  pub goes : (tid : Tid) (tx : TransactionValue) → find_transaction book tid ≡ Some tx → (later : TransactionValue) × (find_transaction new tid ≡ Some later) × Goes here.0 (IsElsewhere here.0 inc) book.place tid tx later
  goes = goes_new book here.0 stamp inc log state r.there r.stopped.kinds sorted

  pub none : (tid : Tid) → find_transaction book tid ≡ None → find_transaction new tid ≡ None
  none = none_new book here.0 stamp inc log state r.there r.stopped.kinds sorted

  -- what is found was there
  pub was : (tid : Tid) (later : TransactionValue) → find_transaction new tid ≡ Some later → (tx : TransactionValue) × (find_transaction book tid ≡ Some tx) × Goes here.0 (IsElsewhere here.0 inc) book.place tid tx later
  was tid later found = by (find_transaction book tid) refl
    where
      by : (o : Option TransactionValue) → find_transaction book tid ≡ o → (tx : TransactionValue) × (find_transaction book tid ≡ Some tx) × Goes here.0 (IsElsewhere here.0 inc) book.place tid tx later
      by None nothing = absurd (cc (sym (none tid nothing) ∙ found))
      by (Some tx) had =
          let p = goes tid tx had in
          (tx, had, subst (Goes here.0 (IsElsewhere here.0 inc) book.place tid tx) (ap (λ (o : Option TransactionValue). elim o [ None ↦ p.0 | Some x ↦ x ]) (sym p.1 ∙ found)) p.2)

  -- ---- outcomes

  shut_stays : (tid : Tid) (c : Cell) → is_open c ≡ false → cell_of_transaction (find_transaction book tid) ≡ Some c → cell_of_transaction (find_transaction new tid) ≡ Some c
  shut_stays tid c shut is = by (find_transaction book tid) refl
    where
      by : (o : Option TransactionValue) → find_transaction book tid ≡ o → cell_of_transaction (find_transaction new tid) ≡ Some c
      by None nothing = absurd (cc (sym (ap cell_of_transaction nothing) ∙ is))
      by (Some tx) had =
          let p = goes tid tx had in
          let e : Some tx.cell ≡ Some c = sym (ap cell_of_transaction had) ∙ is in
          let closed : is_open tx.cell ≡ false = ap (λ (o : Option Cell). elim o [ None ↦ false | Some x ↦ is_open x ]) e ∙ shut in
          ap cell_of_transaction p.1 ∙ (ap Some (p.2.decided closed) ∙ e)

  pub committed_stays : (tid : Tid) → HasCommitted book tid → HasCommitted new tid
  committed_stays tid is = shut_stays tid cells.Commit refl is

  pub aborted_stays : (tid : Tid) → HasAborted book tid → HasAborted new tid
  aborted_stays tid is = shut_stays tid cells.Abort refl is

  pub done_committed : (tid : Tid) → is_among log.committed tid ≡ true → HasCommitted new tid
  done_committed tid among = by (every_among (IsCommitLogged here.0 book state) log.committed tid r.stopped.commits among)
    where
      commit_is : (c : Cell) → is_commit c ≡ true → c ≡ cells.Commit
      commit_is cells.Commit e = refl
      commit_is cells.Open e = absurd (cc e)
      commit_is cells.Abort e = absurd (cc e)

      of : (o : Option TransactionValue) → find_transaction book tid ≡ o → is_committed here.0 tid o ≡ true → HasCommitted new tid
      of None nothing is = absurd (cc is)
      of (Some tx) had is = cell (is_commit tx.cell) refl
        where
          cell : (b : Bool) → is_commit tx.cell ≡ b → HasCommitted new tid
          cell true c = committed_stays tid (ap cell_of_transaction had ∙ ap Some (commit_is tx.cell c))
          cell false c =
              let two = and_both (is_open tx.cell && (tid.home.0 == here.0)) (is_unanimous tx) (rw c at is) in
              let one = and_both (is_open tx.cell) (tid.home.0 == here.0) two.0 in
              committed_new book here.0 stamp inc log state r.there r.stopped.kinds sorted tid tx had among (eqb-true tid.home.0 here.0 one.1) one.0

      by : IsCommitLogged here.0 book state tid → HasCommitted new tid
      by (inl opening) = committed_stays tid (at_node.committed tid opening)
      by (inr is) = of (find_transaction book tid) refl is

  -- what is open at the node that restarts, and not committed in its log, is aborted
  pub open_aborted : (tid : Tid) (tx : TransactionValue) → find_transaction book tid ≡ Some tx → tid.home ≡ here → is_open tx.cell ≡ true → is_among log.committed tid ≡ false → HasAborted new tid
  open_aborted tid tx had home undecided far =
      aborted_new book here.0 stamp inc log state r.there r.stopped.kinds sorted tid tx had far (ap (λ (m : NodeNo). m.0) home) undecided (at_node.open_now tid tx had home undecided) (ltb_some tid.seq (r.lasts.named tid (ap is_some had)))

  -- ---- what is in doubt

  -- of each vote in doubt: its transaction stands, and is aborted where this is its home
  pub record InDoubt (tid : Tid) : Type 0 where
    pub stands : is_some (find_transaction book tid) ≡ true
    pub away : tid.home ≡ here → HasAborted new tid
    pub far : is_among log.committed tid ≡ false

  pub in_doubt : Every (λ (v : Prepared). is_in_doubt v ≡ true → InDoubt v.tid) log.prepared
  in_doubt = every_two (λ (v : Prepared). StandsIn book v × IsUndone here.0 book v) (IsApart log) (λ (v : Prepared). is_in_doubt v ≡ true → InDoubt v.tid) one log.prepared (every_two (StandsIn book) (IsUndone here.0 book) (λ (v : Prepared). StandsIn book v × IsUndone here.0 book v) (λ v a b. (a, b)) log.prepared r.stands r.left.undone) r.left.apart
    where
      one : (v : Prepared) → StandsIn book v × IsUndone here.0 book v → IsApart log v → is_in_doubt v ≡ true → InDoubt v.tid
      one v both apart doubt = record { stands = both.0; away = λ home. away home (find_transaction book v.tid) refl; far = apart named clear }
        where
          named : names_transaction v.tid ≡ true
          named = (and_both (names_transaction v.tid) _ doubt).0

          clear : v.committed ≡ false
          clear = not-true v.committed (and_both (names_transaction v.tid) _ doubt).1

          away : v.tid.home ≡ here → (o : Option TransactionValue) → find_transaction book v.tid ≡ o → HasAborted new v.tid
          away home None nothing = absurd (cc (sym (ap is_some nothing) ∙ both.0))
          away home (Some tx) had = cell tx.cell refl
            where
              cell : (c : Cell) → tx.cell ≡ c → HasAborted new v.tid
              cell cells.Open is = open_aborted v.tid tx had home (ap is_open is) (apart named clear)
              cell cells.Abort is = aborted_stays v.tid (ap cell_of_transaction had ∙ ap Some is)
              cell cells.Commit is = absurd (both.1 (ap (λ (m : NodeNo). m.0) home) named clear (ap cell_of_transaction had ∙ ap Some is))

  -- ---- members

  module _ (tid : Tid) (later : TransactionValue) (found : find_transaction new tid ≡ Some later) where
    abbrev pub tx : TransactionValue
    tx = (was tid later found).0

    pub had : find_transaction book tid ≡ Some tx
    had = (was tid later found).1

    pub before : IsBefore tx here inc
    before = at_node.before tid tx inc had r.rises

    abbrev pub count : ℕ → ℕ
    count s = count_of (record_at here.0 (with_found book here.0 stamp inc log state r.there) tid s)

    pub part_is : (s : ℕ) → part_of later (member_at here.0 s) inc ≡ part_as None (doubt_at log.prepared tid s) (count s)
    part_is s = part_new book here.0 stamp inc log state r.there r.stopped.kinds sorted tid s (λ t at. subst (λ (x : TransactionValue). part_of x (member_at here.0 s) inc ≡ no_part) (ap (λ (o : Option TransactionValue). elim o [ None ↦ tx | Some x ↦ x ]) (sym had ∙ at)) (before.parts (record { 0 = s }))) later found

    -- a vote in doubt is of a member that keeps its votes in a log
    pub doubt_kept : (s : ℕ) (v : Prepared) → doubt_at log.prepared tid s ≡ Some v → is_recoverable s ≡ true
    doubt_kept s v is =
        let p = doubt_is (λ (x : Prepared). is_recoverable x.server.0 ≡ true) tid s log.prepared r.stopped.kinds v is in
        let same = (and_both (same_tid v.tid tid) (v.server.0 == s) (and_both (is_in_doubt v) _ p.1).1).1 in
        subst (λ (k : ℕ). is_recoverable k ≡ true) (eqb-true v.server.0 s same) p.0

    pub part_plain : (s : ℕ) → is_recoverable s ≡ false → part_of later (member_at here.0 s) inc ≡ no_part
    part_plain s plain = by (doubt_at log.prepared tid s) refl
      where
        by : (o : Option Prepared) → doubt_at log.prepared tid s ≡ o → part_of later (member_at here.0 s) inc ≡ no_part
        by None is = part_is s ∙ ap (λ (o : Option Prepared). part_as None o (count s)) is
        by (Some v) is = absurd (cc (sym (doubt_kept s v is) ∙ plain))

    pub member_held : (s : ℕ) → HoldsMember later (member_at here.0 s) inc (member_as (doubt_at log.prepared tid s))
    member_held s = by (doubt_at log.prepared tid s) refl
      where
        by : (o : Option Prepared) → doubt_at log.prepared tid s ≡ o → HoldsMember later (member_at here.0 s) inc (member_as o)
        by None is = member_none later (member_at here.0 s) inc (part_is s ∙ ap (λ (o : Option Prepared). part_as None o (count s)) is)
        by (Some v) is = member_found later (member_at here.0 s) inc (count s) v (doubt_kept s v is) (part_is s ∙ ap (λ (o : Option Prepared). part_as None o (count s)) is)

    never_aborted : (s : ℕ) → (part_of later (member_at here.0 s) inc).aborted ≡ false
    never_aborted s = ap (λ (p : Part). p.aborted) (part_is s) ∙ by (doubt_at log.prepared tid s)
      where
        by : (o : Option Prepared) → (part_as None o (count s)).aborted ≡ false
        by None = refl
        by (Some v) = refl

    pub unlearnt_abort : learnt_abort later here inc ≡ false
    unlearnt_abort = rw (never_aborted 0, never_aborted 1, never_aborted 2, never_aborted 4, never_aborted 5, never_aborted 6) refl

    -- what is decided as its Commit is found is crossed nowhere
    pub found_whole : is_commit later.cell ≡ true → is_open tx.cell ≡ true → is_empty tx.crossed ≡ true
    found_whole is undecided = by (tid.home.0 == here.0) (is_among log.committed tid) refl refl
      where
        g : Goes here.0 (IsElsewhere here.0 inc) book.place tid tx later
        g = (was tid later found).2

        open_commit : (c : Cell) → is_open c ≡ true → is_commit c ≡ true → ⊥
        open_commit cells.Open p q = cc q
        open_commit cells.Commit p q = cc p
        open_commit cells.Abort p q = cc p

        same_no : (m n : NodeNo) → (m.0 == n.0) ≡ true → m ≡ n
        same_no m n e = ap (λ (x : ℕ). record { 0 = x }) (eqb-true m.0 n.0 e)

        clean : (o : Option TransactionValue) → find_transaction book tid ≡ o → is_committed here.0 tid o ≡ true → is_empty tx.crossed ≡ true
        clean None nothing c = absurd (cc c)
        clean (Some t) at c = of t (ap (λ (o : Option TransactionValue). elim o [ None ↦ tx | Some x ↦ x ]) (sym at ∙ had)) c
          where
            of : (t : TransactionValue) → t ≡ tx → (is_commit t.cell || ((is_open t.cell && (tid.home.0 == here.0)) && is_unanimous t)) ≡ true → is_empty tx.crossed ≡ true
            of t same c = cell (is_commit t.cell) refl
              where
                cell : (b : Bool) → is_commit t.cell ≡ b → is_empty tx.crossed ≡ true
                cell true e = absurd (open_commit tx.cell undecided (ap (λ (x : TransactionValue). is_commit x.cell) (sym same) ∙ e))
                cell false e =
                    let u = (and_both (is_open t.cell && (tid.home.0 == here.0)) (is_unanimous t) (rw e at c)).1 in
                    ap (λ (x : TransactionValue). is_empty x.crossed) (sym same) ∙ (and_both (is_empty t.refusals) (is_empty t.crossed) (and_both _ (is_empty t.refusals && is_empty t.crossed) (and_both _ _ u).1).1).1

        by : (a b : Bool) → (tid.home.0 == here.0) ≡ a → is_among log.committed tid ≡ b → is_empty tx.crossed ≡ true
        by false b far _ = absurd (open_commit tx.cell undecided (sym (ap is_commit (g.away far)) ∙ is))
        by true false home far = absurd (cc (sym (ap is_commit (ap (λ (o : Option Cell). elim o [ None ↦ later.cell | Some x ↦ x ]) (sym (ap cell_of_transaction found) ∙ open_aborted tid tx had (same_no tid.home here home) undecided far))) ∙ is))
        by true true home among = of (every_among (IsCommitLogged here.0 book state) log.committed tid r.stopped.commits among)
          where
            of : IsCommitLogged here.0 book state tid → is_empty tx.crossed ≡ true
            of (inl opening) = absurd (open_commit tx.cell undecided (ap is_commit (ap (λ (o : Option Cell). elim o [ None ↦ tx.cell | Some x ↦ x ]) (sym (ap cell_of_transaction had) ∙ at_node.committed tid opening))))
            of (inr c) = clean (find_transaction book tid) refl c
