-- A vote that a server can commit is of files or audit, and none is on what is committed.
use Rattle.qs_world_runs.proofs.Words.{◌≡◌, ℕ, ◌==◌, ◌&&◌, ◌||◌, ◌++◌, not, Bool, true, false, List, [], ◌∷◌, Option, Some, None, refl, sym, ap, subst, ◌∙◌, if◌then◌else◌, list_any, is_some, nat_lt, slice_get, same_tid, same_tid-true, Member, Tid, Act, held, BookValue, find_transaction, has_vote, broken, broken_act, broken_at, effect, TransactionValue, is_commit, is_covering, is_crossed, extra_no, names_no, Cause, Vote, entry_of, LastsWell, EntersVote, some_same}
use Rattle.qs_base.specs.declared.identifiers.Outcome.TheVariants as outcomes
use Rattle.qs_book_journal.specs.declared.entry.Act.TheVariants as acts
use Rattle.qs_book_laws.proofs.Steps.{passed, past}
use Rattle.qs_book_machine.specs.Clauses.{broken_vote, is_server_vote, is_vote, is_vote_due}
use Rattle.qs_book_machine.specs.Lawful.{is_in_order}
use Rattle.qs_book_machine.specs.Nodes as machine
use Rattle.qs_book_machine.specs.Transaction.{part_of}
use Rattle.qs_book_machine.specs.declared.transaction.Cell.TheVariants as cells
use Rattle.qs_ops.specs.Servers.{audit_no, files_no}
use Rattle.qs_ops.specs.declared.vote.Vote.TheVariants as votes
use Rattle.qs_world_runs.specs.Firsts.{is_vote_of}
use Rattle.qs_world_runs.proofs.DecidedOnce.{Decided, IsShut, Lawfully, decided_at, shut_on, well_on}

-- ---- the vote itself

-- what may vote so
server_keeps : (node : machine.NodeValue) (tid : Tid) (tx : TransactionValue) (member : Member) → is_vote node tid tx member votes.Recoverable ≡ true → has_vote member.server.0 votes.Recoverable ≡ true
server_keeps node tid tx member is = by (is_crossed tx member) is
  where
    extra : (b : Bool) → (b && false) ≡ true → ⊥
    extra true e = cc e
    extra false e = cc e

    of : (f a m x : Bool) (one two : Bool) → (if f then one else if a then two else if m then false else (x && false)) ≡ true → (f || a) ≡ true
    of true a m x one two e = refl
    of false true m x one two e = refl
    of false false true x one two e = absurd (cc e)
    of false false false x one two e = absurd (extra x e)

    by : (b : Bool) → (if b then has_vote member.server.0 votes.Recoverable else is_server_vote node member.server.0 tid votes.Recoverable) ≡ true → has_vote member.server.0 votes.Recoverable ≡ true
    by true e = e
    by false e = of (member.server.0 == files_no) (member.server.0 == audit_no) (member.server.0 == names_no) (member.server.0 == extra_no) _ _ e

module _ (n stamp : ℕ) where
  record IsVoting (book : BookValue) (tid : Tid) (member : Member) (ballot : Vote) (covers : ℕ) : Type 0 where
    node : machine.NodeValue
    tx : TransactionValue
    found : find_transaction book tid ≡ Some tx
    uncommitted : is_commit tx.cell ≡ false
    votes_so : is_vote node tid tx member ballot ≡ true

  voting : (book : BookValue) (tid : Tid) (member : Member) (ballot : Vote) (covers : ℕ) → broken book (entry_of n stamp (acts.Vote tid member ballot covers)) ≡ None → IsVoting book tid member ballot covers
  voting book tid member ballot covers lawful = at (slice_get book.nodes n) (held (is_in_order book (entry_of n stamp (acts.Vote tid member ballot covers))) 1 _ lawful).1
    where
      no_commit : (a b c d : Bool) → (a && ((b && not c) && d)) ≡ true → c ≡ false
      no_commit a b false d e = refl
      no_commit true true true d e = absurd (cc e)
      no_commit true false true d e = absurd (cc e)
      no_commit false b true d e = absurd (cc e)

      of : (node : machine.NodeValue) (o : Option TransactionValue) → find_transaction book tid ≡ o → broken_vote n node tid o member ballot covers ≡ None → IsVoting book tid member ballot covers
      of node None none e = absurd (cc e)
      of node (Some tx) found e =
          let rest = past (is_vote_due n tx member (part_of tx member node.inc)) 40 _ e in
          record {
            node = node;
            tx = tx;
            found = found;
            uncommitted = no_commit _ (is_some tx.asked) (is_commit tx.cell) (nat_lt (part_of tx member node.inc).voted (part_of tx member node.inc).served) (passed (is_vote_due n tx member (part_of tx member node.inc)) 40 _ e);
            votes_so = passed (is_vote node tid tx member ballot) 42 None (past (is_covering tx member node.inc covers) 41 _ rest);
          }

      at : (o : Option machine.NodeValue) → broken_at book stamp n o (acts.Vote tid member ballot covers) ≡ None → IsVoting book tid member ballot covers
      at None e = absurd (cc e)
      at (Some node) e = of node (find_transaction book tid) refl (held node.up 2 (broken_act book stamp n node (acts.Vote tid member ballot covers)) e).1

  -- ---- in a step

  keeps_at : (before rest : List Act) (book : BookValue) (tid : Tid) (member : Member) (covers : ℕ) → Lawfully n stamp book (before ++ acts.Vote tid member votes.Recoverable covers ∷ rest) → has_vote member.server.0 votes.Recoverable ≡ true
  keeps_at [] rest book tid member covers lawful = let v : IsVoting book tid member votes.Recoverable covers = voting book tid member votes.Recoverable covers lawful.0 in server_keeps v.node tid v.tx member v.votes_so
  keeps_at (act ∷ before) rest book tid member covers lawful = keeps_at before rest (effect book (entry_of n stamp act)) tid member covers lawful.1

  pub vote_keeps : (done : List Act) (book : BookValue) (tid : Tid) (member : Member) (covers : ℕ) → Lawfully n stamp book done → EntersVote tid member votes.Recoverable covers done → has_vote member.server.0 votes.Recoverable ≡ true
  vote_keeps done book tid member covers lawful e = keeps_at e.before e.after book tid member covers (subst (Lawfully n stamp book) e.is lawful)

  pub unvoted : (done : List Act) (book : BookValue) → LastsWell book → (tid : Tid) → IsShut n stamp book tid cells.Commit → Lawfully n stamp book done → list_any (is_vote_of tid) done ≡ false
  unvoted [] book well tid s lawful = refl
  unvoted (act ∷ done) book well tid s lawful = rw (head act lawful.0) (unvoted done (effect book (entry_of n stamp act)) (well_on n stamp book act well lawful.0) tid (shut_on n stamp (act ∷ []) book well (lawful.0, tt) tid cells.Commit s) lawful.1)
    where
      head : (a : Act) → broken book (entry_of n stamp a) ≡ None → is_vote_of tid a ≡ false
      head (acts.Vote t member ballot covers) is = by (same_tid t tid) refl
        where
          by : (b : Bool) → same_tid t tid ≡ b → same_tid t tid ≡ false
          by false e = e
          by true e = absurd (let v : IsVoting book t member ballot covers = voting book t member ballot covers is in
              let same : s.tx ≡ v.tx = some_same (sym s.found ∙ subst (λ (x : Tid). find_transaction book x ≡ Some v.tx) (same_tid-true t tid e) v.found) in
              let on : is_commit v.tx.cell ≡ true = ap (λ (tx : TransactionValue). is_commit tx.cell) (sym same) ∙ ap is_commit s.cell_is in
              let off : is_commit v.tx.cell ≡ false = v.uncommitted in cc (on, off))
      head (acts.Decide t outcome cause) is = refl
      head (acts.Begin t label client) is = refl
      head (acts.Issue t issuer member number op) is = refl
      head (acts.Serve t member from number reply) is = refl
      head (acts.Ask t) is = refl
      head (acts.Counted t peer up_to) is = refl
      head (acts.Ending t member) is = refl
      head (acts.Learn t member outcome) is = refl
      head (acts.Answer client line said) is = refl
      head (acts.Loan t client) is = refl
      head (acts.Yield t client) is = refl
      head acts.Tick is = refl
      head (acts.Crash cause) is = refl
      head (acts.Restart inc pend found) is = refl

  -- behind its commit
  pub unvoted_behind : (before rest : List Act) (book : BookValue) → LastsWell book → (tid : Tid) (cause : Option Cause) → Lawfully n stamp book (before ++ acts.Decide tid outcomes.Commit cause ∷ rest) → list_any (is_vote_of tid) rest ≡ false
  unvoted_behind [] rest book well tid cause lawful =
      let d : Decided n stamp book tid outcomes.Commit (acts.Decide tid outcomes.Commit cause ∷ []) = decided_at n stamp [] [] book well tid outcomes.Commit cause (lawful.0, tt) in
      unvoted rest (effect book (entry_of n stamp (acts.Decide tid outcomes.Commit cause))) (well_on n stamp book (acts.Decide tid outcomes.Commit cause) well lawful.0) tid d.then_is lawful.1
  unvoted_behind (act ∷ before) rest book well tid cause lawful = unvoted_behind before rest (effect book (entry_of n stamp act)) (well_on n stamp book act well lawful.0) tid cause lawful.1
