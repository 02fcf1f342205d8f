-- The machine after a restart that finds what a log says: its transactions, its node, and who may be told what.
use Rattle.qs_world_lawful.proofs.Words.{◌≡◌, ◌⊎◌, inl, inr, ℕ, ◌==◌, ◌≤◌, Bool, true, false, List, [], ◌∷◌, Option, Some, None, fold, refl, sym, ap, subst, ◌∙◌, arith, if◌then◌else◌, is_some, nat_tests, slice_get, is_at, tid_cmp, same_tid-self, Member, Tid, Found, Age, changed_apart, changed_at_here, BookValue, cell_of_transaction, find_transaction, with_transaction, effect, is_recoverable, abort_begun, begun_at, commit_found, count_of, is_among, is_open_here, learn_found, member_at, new_votes}
use Rattle.qs_world_lawful.proofs.Words.{put_new_votes, record_at, reopened, restarted_node, up_to, vote_found, with_votes, TransactionValue, is_open, no_part, with_learnt, Cell, Prepared, Recovery, names_transaction, open_vote, entry_of, doubt_at, IsOfNow, Every, found_votes}
use Rattle.qs_base.specs.declared.identifiers.Outcome.TheVariants as outcomes
use Rattle.qs_book_journal.specs.declared.entry.Act.TheVariants as acts
use Rattle.qs_book_laws.proofs.Again.{reopened_there}
use Rattle.qs_book_laws.proofs.Restarts.{votes_age}
use Rattle.qs_book_machine.specs.Book.{decide}
use Rattle.qs_book_machine.specs.Nodes as machine
use Rattle.qs_book_machine.specs.Transaction.{part_of}
use Rattle.qs_book_machine.specs.Transaction as transaction
use Rattle.qs_book_machine.specs.Book as machine_book
use Rattle.qs_book_machine.specs.declared.transaction.Cell.TheVariants as cells
use Rattle.qs_ops.specs.Servers.{audit_no, extra_no, files_no}
use Rattle.qs_world.specs.Moves as moves
use Rattle.qs_world_lawful.proofs.Apart.{Apart, same_or_apart}
use Rattle.qs_world_lawful.proofs.LogRecords.{every_filter, every_map}
use Rattle.qs_world_lawful.proofs.RestartCells.{CellsBy, Shut, abort_cells, aborts_on, aborts_shut, cells_changed, cells_fold, cells_self, commit_cells, commits_learn, commits_on, commits_shut, learnt_stays}
use Rattle.qs_world_lawful.proofs.RestartGoes.{Goes, IsElsewhere, Onward, on_fold, on_then, vote_on}
use Rattle.qs_world_lawful.proofs.RestartVotes.{HasPart, IsSorted, found_each, part_as, votes_found}

-- ---- a transaction of which no Commit is found

module _ (here : ℕ) (tid : Tid) where
  learn_far : (t : Tid) → Apart t tid → (server : ℕ) (book : BookValue) → find_transaction (learn_found here t server book) tid ≡ find_transaction book tid
  learn_far t far server book = by (is_some (record_at here book t server))
    where
      by : (b : Bool) → find_transaction (if b then with_transaction t (with_learnt (member_at here server)) book else book) tid ≡ find_transaction book tid
      by true = changed_apart (is_at (tid_cmp t)) (is_at (tid_cmp tid)) far.keys (with_learnt (member_at here server)) book.transactions
      by false = refl

  commit_far : (t : Tid) → Apart t tid → (book : BookValue) → find_transaction (commit_found here book t) tid ≡ find_transaction book tid
  commit_far t far book = by (is_open_here here t (find_transaction c t)) ∙ (learn_far t far extra_no b ∙ (learn_far t far audit_no a ∙ learn_far t far files_no book))
    where
      a : BookValue
      a = learn_found here t files_no book

      b : BookValue
      b = learn_found here t audit_no a

      c : BookValue
      c = learn_found here t extra_no b

      by : (d : Bool) → find_transaction (if d then decide t outcomes.Commit None c else c) tid ≡ find_transaction c tid
      by true = changed_apart (is_at (tid_cmp t)) (is_at (tid_cmp tid)) far.keys _ c.transactions
      by false = refl

  commits_far : (done : List Tid) (book : BookValue) → is_among done tid ≡ false → find_transaction (fold (commit_found here) book done) tid ≡ find_transaction book tid
  commits_far [] book none = refl
  commits_far (t ∷ done) book none = by (same_or_apart t tid) (λ rest. commits_far done (commit_found here book t) rest)
    where
      by : (t ≡ tid) ⊎ Apart t tid → (is_among done tid ≡ false → find_transaction (fold (commit_found here) (commit_found here book t) done) tid ≡ find_transaction (commit_found here book t) tid) → find_transaction (fold (commit_found here) (commit_found here book t) done) tid ≡ find_transaction book tid
      by (inl same) more = absurd (cc (subst (λ (u : Tid). is_among (u ∷ done) tid ≡ false) same none, same_tid-self tid))
      by (inr far) more = more (rw far.of at none) ∙ commit_far t far book

-- ---- the whole

module _ (book : BookValue) (n stamp inc : ℕ) (log : Recovery) (state : machine.NodeValue) (there : slice_get book.nodes n ≡ Some state) where
  abbrev pub done : List Tid
  done = log.committed

  -- with the votes that are found on record
  abbrev pub with_found : BookValue
  with_found = put_new_votes n (found_votes log) book

  abbrev pub state_found : machine.NodeValue
  state_found = with_votes (new_votes n book (found_votes log)) state

  abbrev pub new_state : machine.NodeValue
  new_state = restarted_node (reopened n inc (found_votes log) done with_found) (found_votes log) done state_found

  abbrev pub new_book : BookValue
  new_book = effect book (entry_of n stamp (acts.Restart inc (found_votes log) done))

  abbrev pub committed : BookValue
  committed = fold (commit_found n) with_found done

  abbrev pub voted : BookValue
  voted = fold (vote_found n inc done) committed (found_votes log)

  abbrev pub settled : BookValue
  settled = fold (abort_begun n state.inc) voted (up_to state.begun)

  found_there : slice_get with_found.nodes n ≡ Some state_found
  found_there = changed_at_here (with_votes (new_votes n book (found_votes log))) book.nodes n state there

  same_inc : state_found.inc ≡ state.inc
  same_inc = ap (λ (a : Age). a.inc) (votes_age (new_votes n book (found_votes log)) state)

  same_begun : state_found.begun ≡ state.begun
  same_begun = ap (λ (a : Age). a.begun) (votes_age (new_votes n book (found_votes log)) state)

  inc_is : machine_book.inc_at with_found (record { 0 = n }) ≡ state.inc
  inc_is = ap (λ (o : Option machine.NodeValue). elim o [ None ↦ 0 | Some v ↦ v.inc ]) found_there ∙ same_inc

  begun_is : begun_at n with_found ≡ state.begun
  begun_is = ap (λ (o : Option machine.NodeValue). elim o [ None ↦ 0 | Some v ↦ v.begun ]) found_there ∙ same_begun

  settled_is : fold (abort_begun n (machine_book.inc_at with_found (record { 0 = n }))) voted (up_to (begun_at n with_found)) ≡ settled
  settled_is = ap (λ (i : ℕ). fold (abort_begun n i) voted (up_to (begun_at n with_found))) inc_is ∙ ap (λ (k : ℕ). fold (abort_begun n state.inc) voted (up_to k)) begun_is

  pub found_new : (tid : Tid) → find_transaction new_book tid ≡ find_transaction settled tid
  found_new tid = ap (λ (b : BookValue). find_transaction b tid) settled_is

  pub owners_new : new_book.owners ≡ settled.owners
  owners_new = ap (λ (b : BookValue). b.owners) settled_is

  pub there_new : slice_get new_book.nodes n ≡ Some new_state
  there_new = reopened_there n inc (found_votes log) done book state there

  -- ---- what is left

  module _ (kinds : Every (λ (vote : Prepared). is_recoverable vote.server.0 ≡ true) log.prepared) (sorted : Every (IsSorted done) log.prepared) where
    abbrev pub Away : Member → ℕ → Type 0
    Away = IsElsewhere n inc

    found_kinds : Every (λ (found : Found). is_recoverable found.server.0 ≡ true) (found_votes log)
    found_kinds = every_map (λ v. is_recoverable v.server.0 ≡ true) (λ found. is_recoverable found.server.0 ≡ true) moves.found_of (λ v is. is) _
        (every_map (λ (vote : Prepared). is_recoverable vote.server.0 ≡ true) (λ v. is_recoverable v.server.0 ≡ true) open_vote (λ v is. is) _
        (every_filter (λ (vote : Prepared). is_recoverable vote.server.0 ≡ true) (λ (vote : Prepared). names_transaction vote.tid) log.prepared kinds))

    to_committed : Onward n Away with_found committed
    to_committed = commits_on n Away done with_found

    to_voted : Onward n Away committed voted
    to_voted = on_fold n Away (λ (found : Found). is_recoverable found.server.0 ≡ true) (vote_found n inc done) (λ b f kept. vote_on n Away inc (λ m i far. far) done b f kept) (found_votes log) found_kinds committed

    to_settled : Onward n Away voted settled
    to_settled = aborts_on n Away state.inc (up_to state.begun) voted

    onward : Onward n Away with_found settled
    onward = on_then n Away with_found committed settled to_committed (on_then n Away committed voted settled to_voted to_settled)

    pub none_new : (tid : Tid) → find_transaction book tid ≡ None → find_transaction new_book tid ≡ None
    none_new tid is = found_new tid ∙ onward.none tid is

    pub goes_new : (tid : Tid) (tx : TransactionValue) → find_transaction book tid ≡ Some tx → (later : TransactionValue) × (find_transaction new_book tid ≡ Some later) × Goes n Away book.place tid tx later
    goes_new tid tx found =
        let p = onward.goes tid tx found in
        (p.0, found_new tid ∙ p.1, p.2)

    -- ---- outcomes

    found_cells : (c : Cell) (b : BookValue) (found : Found) → CellsBy c b (vote_found n inc done b found)
    found_cells c b found = by (is_among done found.tid)
      where
        f : TransactionValue → TransactionValue
        f = transaction.found_at (member_at n found.server.0) inc found.covers (count_of (record_at n b found.tid found.server.0))

        by : (x : Bool) → CellsBy c b (if x then b else with_transaction found.tid f b)
        by true = cells_self c b
        by false = cells_changed c found.tid f (λ tx. inl refl) b (with_transaction found.tid f b) refl

    shut_cell : (tid : Tid) (b : BookValue) (c : Cell) → tid.home.0 ≡ n → Shut n tid b → cell_of_transaction (find_transaction b tid) ≡ Some c → is_open c ≡ false
    shut_cell tid b c home shut is = by (find_transaction b tid) refl
      where
        near : (tid.home.0 == n) ≡ true
        near = rw home (grind (arith, nat_tests))

        by : (o : Option TransactionValue) → find_transaction b tid ≡ o → is_open c ≡ false
        by None none = absurd (cc (sym (ap cell_of_transaction none) ∙ is))
        by (Some tx) found =
            let e : tx.cell ≡ c = ap (λ (o : Option Cell). elim o [ None ↦ c | Some x ↦ x ]) (sym (ap cell_of_transaction found) ∙ is) in
            subst (λ (x : Cell). is_open x ≡ false) e (rw near at (sym (ap (is_open_here n tid) found) ∙ shut))

    open_is : (c : Cell) → is_open c ≡ true → c ≡ cells.Open
    open_is cells.Open is = refl
    open_is cells.Commit is = absurd (cc is)
    open_is cells.Abort is = absurd (cc is)

    -- what is committed in the log is committed
    pub committed_new : (tid : Tid) (tx : TransactionValue) → find_transaction book tid ≡ Some tx → is_among done tid ≡ true → tid.home.0 ≡ n → is_open tx.cell ≡ true → cell_of_transaction (find_transaction new_book tid) ≡ Some cells.Commit
    committed_new tid tx found among home undecided = ap cell_of_transaction (found_new tid) ∙ stays (commit_cell (cells_fold cells.Commit (commit_found n) (commit_cells n) done with_found tid))
      where
        shut : Shut n tid committed
        shut = commits_shut n Away tid done with_found among

        commit_cell : (cell_of_transaction (find_transaction committed tid) ≡ cell_of_transaction (find_transaction with_found tid)) ⊎ (cell_of_transaction (find_transaction committed tid) ≡ Some cells.Commit) → cell_of_transaction (find_transaction committed tid) ≡ Some cells.Commit
        commit_cell (inr is) = is
        commit_cell (inl same) = absurd (cc (sym undecided ∙ shut_cell tid committed tx.cell home shut (same ∙ ap cell_of_transaction found)))

        stays : cell_of_transaction (find_transaction committed tid) ≡ Some cells.Commit → cell_of_transaction (find_transaction settled tid) ≡ Some cells.Commit
        stays is = by (find_transaction committed tid) refl
          where
            by : (o : Option TransactionValue) → find_transaction committed tid ≡ o → cell_of_transaction (find_transaction settled tid) ≡ Some cells.Commit
            by None none = absurd (cc (sym (ap cell_of_transaction none) ∙ is))
            by (Some mid) at =
                let p = (on_then n Away committed voted settled to_voted to_settled).goes tid mid at in
                let e : Some mid.cell ≡ Some cells.Commit = sym (ap cell_of_transaction at) ∙ is in
                let shut_mid : is_open mid.cell ≡ false = ap (λ (o : Option Cell). elim o [ None ↦ false | Some x ↦ is_open x ]) e in
                ap cell_of_transaction p.1 ∙ (ap Some (p.2.decided shut_mid) ∙ e)

    -- what began in the incarnation that ended, and is not committed there, is aborted
    pub aborted_new : (tid : Tid) (tx : TransactionValue) → find_transaction book tid ≡ Some tx → is_among done tid ≡ false → tid.home.0 ≡ n → is_open tx.cell ≡ true → IsOfNow state tid → 1 ≤ tid.seq → cell_of_transaction (find_transaction new_book tid) ≡ Some cells.Abort
    aborted_new tid tx found among home undecided now low = ap cell_of_transaction (found_new tid) ∙ last (cells_fold cells.Abort (abort_begun n state.inc) (abort_cells n state.inc) (up_to state.begun) voted tid)
      where
        shut : Shut n tid settled
        shut = aborts_shut n Away state.inc tid state.begun voted home now.inc low now.counted

        was_open : cell_of_transaction (find_transaction with_found tid) ≡ Some cells.Open
        was_open = ap cell_of_transaction found ∙ ap Some (open_is tx.cell undecided)

        open_mid : cell_of_transaction (find_transaction voted tid) ≡ Some cells.Open
        open_mid = by (cells_fold cells.Open (vote_found n inc done) (found_cells cells.Open) (found_votes log) committed tid)
          where
            by : (cell_of_transaction (find_transaction voted tid) ≡ cell_of_transaction (find_transaction committed tid)) ⊎ (cell_of_transaction (find_transaction voted tid) ≡ Some cells.Open) → cell_of_transaction (find_transaction voted tid) ≡ Some cells.Open
            by (inr is) = is
            by (inl same) = same ∙ (ap cell_of_transaction (commits_far n tid done with_found among) ∙ was_open)

        last : (cell_of_transaction (find_transaction settled tid) ≡ cell_of_transaction (find_transaction voted tid)) ⊎ (cell_of_transaction (find_transaction settled tid) ≡ Some cells.Abort) → cell_of_transaction (find_transaction settled tid) ≡ Some cells.Abort
        last (inr is) = is
        last (inl same) = absurd (open_shut (shut_cell tid settled cells.Open home shut (same ∙ open_mid)))
          where
            open_shut : is_open cells.Open ≡ false → ⊥
            open_shut e = cc e

    -- ---- a member of the node that is found again

    pub learnt_new : (tid : Tid) (server : ℕ) (later : TransactionValue) → is_recoverable server ≡ true → is_among done tid ≡ true → is_some (record_at n with_found tid server) ≡ true → find_transaction new_book tid ≡ Some later → transaction.has_learnt later (member_at n server) ≡ true
    learnt_new tid server later kept among some found =
        learnt_stays n Away tid (member_at n server) committed settled (on_then n Away committed voted settled to_voted to_settled) (commits_learn n Away tid server done with_found kept among some) later (sym (found_new tid) ∙ found)

    -- the part of a member in the new incarnation
    pub part_new : (tid : Tid) (s : ℕ) → ((tx : TransactionValue) → find_transaction book tid ≡ Some tx → part_of tx (member_at n s) inc ≡ no_part) → (later : TransactionValue) → find_transaction new_book tid ≡ Some later
        → part_of later (member_at n s) inc ≡ part_as None (doubt_at log.prepared tid s) (count_of (record_at n with_found tid s))
    part_new tid s before later found = at_end later (sym (found_new tid) ∙ found)
      where
        count : ℕ
        count = count_of (record_at n with_found tid s)

        any_place : Member → ℕ → Type 0
        any_place m i = ℕ

        first : HasPart n inc done tid s count None committed
        first tx at = by (find_transaction with_found tid) refl
          where
            on : Onward n any_place with_found committed
            on = commits_on n any_place done with_found

            some_is : (x : TransactionValue) → Some x ≡ Some tx → x ≡ tx
            some_is x e = ap (λ (o : Option TransactionValue). elim o [ None ↦ tx | Some z ↦ z ]) e

            by : (o : Option TransactionValue) → find_transaction with_found tid ≡ o → part_of tx (member_at n s) inc ≡ no_part
            by None none = absurd (cc (sym (on.none tid none) ∙ at))
            by (Some was) had =
                let p = on.goes tid was had in
                subst (λ (x : TransactionValue). part_of x (member_at n s) inc ≡ no_part) (some_is p.0 (sym p.1 ∙ at)) (p.2.parts (member_at n s) inc 0 ∙ before was had)

        mid : HasPart n inc done tid s count (doubt_at log.prepared tid s) voted
        mid = subst (HasPart n inc done tid s count (doubt_at log.prepared tid s)) (sym (found_each n inc done log.prepared committed))
            (votes_found n inc done tid s count log.prepared committed None (ap (λ (nodes : List machine.NodeValue). count_of (elim (slice_get nodes n) [ None ↦ None | Some node ↦ machine.record_of node tid s ])) to_committed.nodes) sorted first)

        at_end : (tx : TransactionValue) → find_transaction settled tid ≡ Some tx → part_of tx (member_at n s) inc ≡ part_as None (doubt_at log.prepared tid s) count
        at_end tx at = by (find_transaction voted tid) refl
          where
            on : Onward n any_place voted settled
            on = aborts_on n any_place state.inc (up_to state.begun) voted

            some_is : (x : TransactionValue) → Some x ≡ Some tx → x ≡ tx
            some_is x e = ap (λ (o : Option TransactionValue). elim o [ None ↦ tx | Some z ↦ z ]) e

            by : (o : Option TransactionValue) → find_transaction voted tid ≡ o → part_of tx (member_at n s) inc ≡ part_as None (doubt_at log.prepared tid s) count
            by None none = absurd (cc (sym (on.none tid none) ∙ at))
            by (Some was) had =
                let p = on.goes tid was had in
                subst (λ (x : TransactionValue). part_of x (member_at n s) inc ≡ part_as None (doubt_at log.prepared tid s) count) (some_is p.0 (sym p.1 ∙ at)) (p.2.parts (member_at n s) inc 0 ∙ mid was had)
