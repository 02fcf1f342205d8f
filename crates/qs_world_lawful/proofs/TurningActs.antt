-- Each act of a node that runs turns each transaction: at most one request is new or served, and what others did is left.
use Rattle.qs_world_lawful.proofs.Words.{◌≡◌, inl, inr, ℕ, ◌==◌, ◌&&◌, Bool, true, false, Option, None, refl, ◌∙◌, ⊤, length, list_any, Member, NodeNo, Outcome, Tid, Act, clash, left_of, right_of, BookValue, crosses, find_transaction, inc_at, with_transaction, with_waiting, broken_decide, broken_issue, link_to, broken_act, effect_act, TransactionValue, asked_at, decided_at, ended_part, is_open, is_start, issued, learnt, learnt_part, life, served_in, serving_part, starts_after, voted, voted_part}
use Rattle.qs_world_lawful.proofs.Words.{Link, Request, RequestNo, class_of, Cause, Op, Vote, none_is}
use Rattle.qs_base.specs.declared.identifiers.Outcome.TheVariants as outcomes
use Rattle.qs_book_journal.specs.declared.entry.Act.TheVariants as acts
use Rattle.qs_book_laws.proofs.Holding.{crossing_transactions, learn_here, serve_here, vote_here, waiting_transactions}
use Rattle.qs_book_machine.specs.Book.{decide, is_done, issue}
use Rattle.qs_book_machine.specs.Clauses.{broken_ask, may_ask}
use Rattle.qs_book_machine.specs.Nodes as machine
use Rattle.qs_book_machine.specs.Transaction.{counted, ended, part_of}
use Rattle.qs_ops.specs.declared.vote.Vote.TheVariants as votes
use Rattle.qs_world_lawful.proofs.ActsHere.{MayIssue, ask_here, decide_here, end_here, issue_here}
use Rattle.qs_world_lawful.proofs.LearntOn.{more_learnt}
use Rattle.qs_world_lawful.proofs.NotesServed.{served_issued, served_note}
use Rattle.qs_world_lawful.proofs.Turning.{IsFar, Plain, Turned, Turns, turned_by, turned_same, turns_plain, turns_self}
use Rattle.qs_world_lawful.proofs.TurningOwners.{answer_turns, loan_turns, yield_turns}
use Rattle.qs_world_lawful.proofs.TurningParts.{count_sent, issue_issued, issue_sent, part_changed, part_put, start_put}

-- ---- acts

module _ (book : BookValue) (stamp here : ℕ) (state : machine.NodeValue) where
  abbrev pub now : ℕ
  now = inc_at book (record { 0 = here })

  abbrev pub R : Tid → TransactionValue → TransactionValue → Type 0
  R = Turns here now book.place

  own : (tid : Tid) (tx : TransactionValue) → R tid tx tx
  own tid tx = turns_self here now book.place tid tx

  by_plain : (tid : Tid) (tx later : TransactionValue) → Plain here now tx later → R tid tx later
  by_plain tid tx later p = turns_plain here now book.place tid tx later p

  issue_turns : (tid : Tid) (issuer member : Member) (number : ℕ) (op : Op) → broken_issue here state (length book.nodes) tid (find_transaction book tid) issuer member number op ≡ None → Turned R book (issue here tid issuer member number op book)
  issue_turns tid issuer member number op h =
      turned_by R own tid (issued at request (inc_at book member.node) book.place) book (issue here tid issuer member number op book)
      (crossing_transactions (crosses (find_transaction book tid) at member) tid member (with_waiting tid issuer member one) ∙ waiting_transactions tid issuer member one)
      (λ tx found. turns tx (issue_here here state (length book.nodes) tid (find_transaction book tid) issuer member number op h tx found))
    where
      at : RequestNo
      at = record { link = link_to here member; number = number }

      request : Request
      request = record { issuer = issuer; member = member; op = op; inc = now; served = false }

      one : BookValue
      one = with_transaction tid (issued at request (inc_at book member.node) book.place) book

      turns : (tx : TransactionValue) → MayIssue here state (length book.nodes) tid tx issuer member number op → R tid tx (issued at request (inc_at book member.node) book.place tx)
      turns tx m = record {
        requests = inr (inl (record { at = at; request = request; from = refl; to = refl; issuer = m.own; inc = refl; unserved = refl; fits = m.fits; undone = m.undone; cell = refl; requests = refl; crossed = refl }));
        sent = issue_sent here now at request refl refl tx;
        issued = issue_issued here now at request refl refl tx m.own;
        noted = λ node i text is. inl is;
        asked = inl refl;
        owner = refl;
        when = inl (refl, refl);
        decided = λ shut. refl;
        away = λ far. refl;
        parts = λ other i far. refl;
        starts = λ other i served covers far. refl;
        learnt = λ other is. is;
      }

  serve_turns : (tid : Tid) (member : Member) (from : NodeNo) (number : ℕ) (done : Bool) (new : BookValue) → member.node.0 ≡ here → new.transactions ≡ (with_transaction tid (served_in (record { link = record { from = from; to = member.node }; number = number }) member now stamp done) book).transactions → Turned R book new
  serve_turns tid member from number done new near same = turned_by R own tid (served_in at member now stamp done) book new same (λ tx found. turns tx)
    where
      at : RequestNo
      at = record { link = record { from = from; to = member.node }; number = number }

      turns : (tx : TransactionValue) → R tid tx (served_in at member now stamp done tx)
      turns tx = record {
        requests = inr (inr (record { at = at; member = member; own = near; to = refl; requests = refl; crossed = refl }));
        sent = λ link i far. inl refl;
        issued = λ node i text far. served_issued at member now stamp done tx node i text;
        noted = λ node i text is. served_note at member now stamp done tx node i text is;
        asked = inl refl;
        owner = refl;
        when = inl (refl, refl);
        decided = λ shut. refl;
        away = λ far. refl;
        parts = λ other i far. part_put here now member near (serving_part (class_of member.server.0) stamp done (part_of tx member now)) tx other i far;
        starts = λ other i served covers far. refl;
        learnt = λ other is. is;
      }

  vote_plain : (member : Member) (ballot : Vote) (tx : TransactionValue) → member.node.0 ≡ here → Plain here now tx (voted member now ballot tx)
  vote_plain member ballot tx near = record {
    requests = refl;
    crossed = refl;
    sent = λ link i. refl;
    noted = refl;
    asked = refl;
    owner = refl;
    cell = refl;
    decided = refl;
    parts = λ other i far. part_changed here now member near (voted_part ballot) tx other i far;
    starts = λ other i served covers far. by ballot other i served covers far;
    learnt = λ other is. is;
  }
    where
      by : (ballot : Vote) (other : Member) (i served covers : ℕ) → IsFar here now other.node i → list_any (is_start other i served covers) (starts_after ballot (life member now) (part_of tx member now).served tx.starts) ≡ list_any (is_start other i served covers) tx.starts
      by votes.ReadOnly other i served covers far = start_put here now member near (part_of tx member now).served tx.starts other i served covers far
      by votes.Volatile other i served covers far = refl
      by votes.Recoverable other i served covers far = refl
      by (votes.Abort reason) other i served covers far = refl

  learn_plain : (member : Member) (outcome : Outcome) (tx : TransactionValue) → member.node.0 ≡ here → Plain here now tx (learnt member now outcome tx)
  learn_plain member outcomes.Commit tx near = record {
    requests = refl;
    crossed = refl;
    sent = λ link i. refl;
    noted = refl;
    asked = refl;
    owner = refl;
    cell = refl;
    decided = refl;
    parts = λ other i far. part_changed here now member near (learnt_part outcomes.Commit) tx other i far;
    starts = λ other i served covers far. refl;
    learnt = λ other is. more_learnt member tx other is;
  }
  learn_plain member outcomes.Abort tx near = record {
    requests = refl;
    crossed = refl;
    sent = λ link i. refl;
    noted = refl;
    asked = refl;
    owner = refl;
    cell = refl;
    decided = refl;
    parts = λ other i far. part_changed here now member near (learnt_part outcomes.Abort) tx other i far;
    starts = λ other i served covers far. refl;
    learnt = λ other is. is;
  }

  ask_turns : (tid : Tid) → broken_ask here tid (find_transaction book tid) ≡ None → Turned R book (with_transaction tid (asked_at book.place) book)
  ask_turns tid h = turned_by R own tid (asked_at book.place) book (with_transaction tid (asked_at book.place) book) refl (λ tx found. turns tx (ask_here here tid (find_transaction book tid) h tx found))
    where
      turns : (tx : TransactionValue) → may_ask here tid tx ≡ true → R tid tx (asked_at book.place tx)
      turns tx may = record {
        requests = inl (record { requests = refl; crossed = refl });
        sent = λ link i far. inl refl;
        issued = λ node i text far. refl;
        noted = λ node i text is. inl is;
        asked = inr (left_of (tid.home.0 == here) _ may, (none_is tx.asked (right_of (is_open tx.cell) _ (right_of (tid.home.0 == here) _ may)), refl));
        owner = refl;
        when = inl (refl, refl);
        decided = λ shut. refl;
        away = λ far. refl;
        parts = λ other i far. refl;
        starts = λ other i served covers far. refl;
        learnt = λ other is. is;
      }

  decide_turns : (tid : Tid) (outcome : Outcome) (cause : Option Cause) → broken_decide here state book.nodes tid (find_transaction book tid) stamp outcome cause ≡ None → Turned R book (decide tid outcome cause book)
  decide_turns tid outcome cause h = turned_by R own tid (decided_at book.place outcome cause) book (decide tid outcome cause book) refl (λ tx found. turns tx (decide_here here state book.nodes tid (find_transaction book tid) stamp outcome cause h tx found))
    where
      turns : (tx : TransactionValue) → ((tid.home.0 == here) && is_open tx.cell) ≡ true → R tid tx (decided_at book.place outcome cause tx)
      turns tx may = record {
        requests = inl (record { requests = refl; crossed = refl });
        sent = λ link i far. inl refl;
        issued = λ node i text far. refl;
        noted = λ node i text is. inl is;
        asked = inl refl;
        owner = refl;
        when = inr (right_of (tid.home.0 == here) _ may, refl);
        decided = λ shut. absurd (clash (right_of (tid.home.0 == here) _ may) shut);
        away = λ far. absurd (clash (left_of (tid.home.0 == here) _ may) far);
        parts = λ other i far. refl;
        starts = λ other i served covers far. refl;
        learnt = λ other is. is;
      }

  count_turns : (tid : Tid) (peer : NodeNo) (up_to : ℕ) → Turned R book (with_transaction tid (counted (record { from = record { 0 = here }; to = peer }) now up_to (inc_at book peer)) book)
  count_turns tid peer up_to =
      turned_by R own tid (counted l now up_to (inc_at book peer)) book (with_transaction tid (counted l now up_to (inc_at book peer)) book) refl (λ tx found. by_plain tid tx (counted l now up_to (inc_at book peer) tx) (record {
        requests = refl;
        crossed = refl;
        sent = λ link i. count_sent l now up_to tx link i;
        noted = refl;
        asked = refl;
        owner = refl;
        cell = refl;
        decided = refl;
        parts = λ other i far. refl;
        starts = λ other i served covers far. refl;
        learnt = λ other is. is;
      }))
    where
      l : Link
      l = record { from = record { 0 = here }; to = peer }

  -- all acts but a begin and a restart
  abbrev pub IsActing : Act → Type 0
  IsActing (acts.Begin tid label client) = ⊥
  IsActing (acts.Restart inc pend done) = ⊥
  IsActing act = ⊤

  pub act_turns : (act : Act) → IsActing act → broken_act book stamp here state act ≡ None → Turned R book (effect_act stamp here act book)
  act_turns (acts.Begin tid label client) is h = absurd is
  act_turns (acts.Restart inc pend done) is h = absurd is
  act_turns (acts.Issue tid issuer member number op) is h = issue_turns tid issuer member number op h
  act_turns (acts.Serve tid member from number reply) is h = serve_turns tid member from number (is_done reply) (effect_act stamp here (acts.Serve tid member from number reply) book) (serve_here book here state tid (find_transaction book tid) member from.0 number reply h) refl
  act_turns (acts.Vote tid member ballot covers) is h = turned_by R own tid (voted member now ballot) book (effect_act stamp here (acts.Vote tid member ballot covers) book) refl
      (λ tx found. by_plain tid tx (voted member now ballot tx) (vote_plain member ballot tx (vote_here here state tid (find_transaction book tid) member ballot covers h)))
  act_turns (acts.Ask tid) is h = ask_turns tid h
  act_turns (acts.Counted tid peer up_to) is h = count_turns tid peer up_to
  act_turns (acts.Decide tid outcome cause) is h = decide_turns tid outcome cause h
  act_turns (acts.Ending tid member) is h = turned_by R own tid (ended member now) book (effect_act stamp here (acts.Ending tid member) book) refl (λ tx found. by_plain tid tx (ended member now tx) (record {
    requests = refl;
    crossed = refl;
    sent = λ link i. refl;
    noted = refl;
    asked = refl;
    owner = refl;
    cell = refl;
    decided = refl;
    parts = λ other i far. part_changed here now member (end_here here state (find_transaction book tid) member h) ended_part tx other i far;
    starts = λ other i served covers far. refl;
    learnt = λ other is. is;
  }))
  act_turns (acts.Learn tid member outcome) is h = turned_by R own tid (learnt member now outcome) book (effect_act stamp here (acts.Learn tid member outcome) book) refl
      (λ tx found. by_plain tid tx (learnt member now outcome tx) (learn_plain member outcome tx (learn_here here state (find_transaction book tid) member outcome h)))
  act_turns (acts.Answer client line said) is h = answer_turns book stamp here state client line
  act_turns (acts.Loan tid client) is h = loan_turns book stamp here state tid client
  act_turns (acts.Yield tid client) is h = yield_turns book stamp here state tid client
  act_turns acts.Tick is h = turned_same R own book (effect_act stamp here acts.Tick book) refl
  act_turns (acts.Crash cause) is h = turned_same R own book (effect_act stamp here (acts.Crash cause) book) refl
