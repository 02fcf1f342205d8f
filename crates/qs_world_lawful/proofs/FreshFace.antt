-- What a node has of each transaction as an incarnation of it begins is what the machine has of it, where that has nothing else of the
-- incarnation.
use Rattle.qs_world_lawful.proofs.Words.{◌≡◌, ◌⊎◌, inl, inr, ℕ, ◌<◌, ◌==◌, Bool, true, false, List, [], length, Option, Some, None, fold, refl, sym, ap, subst, ◌∙◌, arith, is_some, nat_lt, nat_tests, Global, filter, list_all, same_tid, same_tid-true, ClientNo, NodeNo, Outcome, Tid, same_node, Lent, BookValue, cell_of_transaction, find_transaction, is_recoverable, is_among, member_at, TransactionValue, has_note, is_outcome, learnt_abort, no_part, sent_in, sent_on, Cell, Part, ServerValue, client_no}
use Rattle.qs_world_lawful.proofs.Words.{applied, no_table, share_of, Share, Prepared, Recovery, is_in_doubt, opened_servers, recovered_as, Setting, Participant, doubt_at, member_as, share_as, IsEmpty, at_server, face_of, is_given_back, is_loan_here, is_loan_in, HoldsAt, HoldsMember, HoldsTid, StandsOnce, HasAborted, HasCommitted, Every, HoldsWaits, HoldsWaitsAt, is_idle, and_right, eqb-true, and_parts}
use Rattle.std.proofs.lemmas.Bool.{and_left}
use Rattle.qs_base.specs.declared.identifiers.Outcome.TheVariants as outcomes
use Rattle.qs_node_kept.specs.declared.kept.Kept.{Kept}
use Rattle.qs_book_machine.specs.Clauses.{note_text}
use Rattle.qs_book_machine.specs.Transaction.{borrower, part_of}
use Rattle.qs_book_machine.specs.declared.transaction.Cell.TheVariants as cells
use Rattle.qs_ops.specs.Servers.{files_no}
use Rattle.qs_node_step.specs.Opening.{opened_node}
use Rattle.qs_node_step.specs.State.{NodeValue}
use Rattle.qs_world_lawful.proofs.FoundMembers.{every_passed, none_pass}
use Rattle.qs_world_lawful.proofs.LogFrames.{every_on}
use Rattle.qs_world_lawful.proofs.Reopened.{IsReopened, doubt_is, manager_reopened, share_taken}
use Rattle.qs_world_lawful.proofs.Reopened as reopened
use Rattle.qs_world_lawful.proofs.RestartTables.{HasLogged, HaveTables, tables_kept, take_changes}
use Rattle.qs_world_lawful.proofs.RestartVotes.{IsSorted}
use Rattle.qs_world_lawful.proofs.TakenCommits.{IsListed}
use Rattle.qs_base_lemmas.proofs.Tests.{lt_not_equal, lt_apart}

-- of a transaction the machine has in the incarnation what stands in doubt in the log, and nothing else
pub record FreshAt (here : NodeNo) (inc : ℕ) (log : Recovery) (tid : Tid) (tx : TransactionValue) : Type 0 where
  pub members : (s : ℕ) → HoldsMember tx (member_at here.0 s) inc (member_as (doubt_at log.prepared tid s))
  pub unaborted : learnt_abort tx here inc ≡ false
  pub plain : (s : ℕ) → is_recoverable s ≡ false → part_of tx (member_at here.0 s) inc ≡ no_part
  pub sent : (peer : NodeNo) → sent_in inc (sent_on tx (record { from = here; to = peer })) ≡ 0
  pub noted : (text : List ℕ) → has_note tx (record { node = here; inc = inc; text = text }) ≡ false
  pub pending : (part_of tx (member_at here.0 files_no) inc).pending ≡ length (share_as (doubt_at log.prepared tid files_no)).changes
  pub due : is_idle (share_as (doubt_at log.prepared tid files_no)) ≡ false → (part_of tx (member_at here.0 files_no) inc).due ≡ true
  pub begun : tid.home ≡ here → tid.inc < inc
  pub once : StandsOnce tx

-- what stands in doubt stands in the machine, and is aborted where this is its home
pub record IsDoubt (book : BookValue) (here : NodeNo) (log : Recovery) (tid : Tid) : Type 0 where
  pub stands : is_some (find_transaction book tid) ≡ true
  pub away : tid.home ≡ here → HasAborted book tid
  pub far : is_among log.committed tid ≡ false

pub record Fresh (book : BookValue) (here : NodeNo) (inc : ℕ) (log : Recovery) : Type 0 where
  pub kinds : list_all (λ (v : Prepared). is_recoverable v.server.0) log.prepared ≡ true
  pub sorted : Every (IsSorted log.committed) log.prepared
  pub listed : Every (IsListed log.committed) log.untold
  pub doubts : Every (λ (v : Prepared). is_in_doubt v ≡ true → IsDoubt book here log v.tid) log.prepared
  pub committed : (tid : Tid) → is_among log.committed tid ≡ true → HasCommitted book tid
  pub at : (tid : Tid) (tx : TransactionValue) → find_transaction book tid ≡ Some tx → FreshAt here inc log tid tx

-- a loan of an earlier incarnation, of what stands
pub record IsOldLoan (book : BookValue) (inc : ℕ) (loan : Lent) : Type 0 where
  pub stands : is_some (find_transaction book loan.tid) ≡ true
  pub made : loan.inc < inc

module _ (alloc : Global) (setting : Setting) (saved : Kept) (after : BookValue) (log : Recovery) (r : Fresh after setting.node setting.inc log) (loans : Every (IsOldLoan after setting.inc) saved.loans) where
  abbrev pub node : NodeValue
  node = opened_node alloc setting (recovered_as log) saved

  abbrev pub In : Tid → Type 0
  In tid = IsDoubt after setting.node log tid

  pub known_as : (tid : Tid) → IsReopened (same_node tid.home setting.node) log.committed tid (In tid) (λ s. doubt_at log.prepared tid s) (face_of node tid).known
  known_as tid = manager_reopened alloc setting log r.kinds r.sorted r.listed tid In r.doubts

  -- ---- servers

  begun : HasLogged (opened_servers setting.quota (recovered_as log))
  begun = record { quota = setting.quota; files = refl; audit = refl; extra = refl }

  pub tables : HaveTables (opened_servers setting.quota (recovered_as log)) node.servers (fold (take_changes files_no) (applied no_table log.files) log.prepared) (fold (take_changes 1) (applied no_table log.audit) log.prepared)
  tables = tables_kept log.prepared (opened_servers setting.quota (recovered_as log)) begun r.kinds

  pub share_is : (tid : Tid) → share_of node.servers.files.table tid ≡ share_as (doubt_at log.prepared tid files_no)
  share_is tid = ap (λ (s : ServerValue). share_of s.table tid) tables.files_are ∙ share_taken tid files_no log.prepared None (applied no_table log.files) refl

  -- ---- loans

  earlier : (loan : Lent) → IsOldLoan after setting.inc loan → (loan.inc == setting.inc) ≡ false
  earlier loan is = lt_apart loan.inc setting.inc is.made

  no_loans : (tid : Tid) (p : Lent → Bool) → ((loan : Lent) → (loan.inc == setting.inc) ≡ false → p loan ≡ false) → length (filter p (face_of node tid).loans) ≡ 0
  no_loans tid p fails = ap length (none_pass p (filter (is_loan_in tid) saved.loans) (every_on (IsOldLoan after setting.inc) (λ (loan : Lent). p loan ≡ false) (λ loan is. fails loan (earlier loan is)) (filter (is_loan_in tid) saved.loans) (every_passed (IsOldLoan after setting.inc) (is_loan_in tid) saved.loans loans)))

  -- ---- a transaction that the machine has

  module _ (tid : Tid) (later : TransactionValue) (found : find_transaction after tid ≡ Some later) where
    f : FreshAt setting.node setting.inc log tid later
    f = r.at tid later found

    k : IsReopened (same_node tid.home setting.node) log.committed tid (In tid) (λ s. doubt_at log.prepared tid s) (face_of node tid).known
    k = known_as tid

    some_cell : (c : Cell) → cell_of_transaction (find_transaction after tid) ≡ Some c → later.cell ≡ c
    some_cell c is = ap (λ (o : Option Cell). elim o [ None ↦ later.cell | Some x ↦ x ]) (sym (ap cell_of_transaction found) ∙ is)

    is_home_of : same_node tid.home setting.node ≡ true → tid.home ≡ setting.node
    is_home_of e = of tid.home setting.node e
      where
        of : (a b : NodeNo) → (a.0 == b.0) ≡ true → a ≡ b
        of a b e = ap (λ (x : ℕ). record { 0 = x }) (eqb-true a.0 b.0 e)

    outcome : (o : Outcome) → ((o ≡ outcomes.Abort) × (same_node tid.home setting.node ≡ true) × In tid) ⊎ ((o ≡ outcomes.Commit) × (is_among log.committed tid ≡ true)) → is_outcome o later.cell ≡ true
    outcome o (inl abort) = rw (abort.0, some_cell cells.Abort (abort.2.away (is_home_of abort.1))) refl
    outcome o (inr commit) = rw (commit.0, some_cell cells.Commit (r.committed tid commit.1)) refl

    plain_client : (client : ClientNo) → part_of later (borrower client setting.node) setting.inc ≡ no_part
    plain_client client = f.plain (client_no client.0) (high client.0)
      where
        high : (c : ℕ) → is_recoverable (client_no c) ≡ false
        high c = grind (arith, nat_tests)

    not_now : tid.home ≡ setting.node → tid.inc ≡ setting.inc → ⊥
    not_now home is = lt_not_equal tid.inc setting.inc (f.begun home) is

    pub tid_held : HoldsTid setting.node setting.inc tid later (face_of node tid)
    tid_held = record {
      sized = k.sized;
      members = λ held server kept. subst (HoldsMember later (at_server setting.node server) setting.inc) (sym (k.members server.0 (low server.0 kept))) (f.members server.0);
      asked = λ is. absurd (cc (sym k.asked ∙ is));
      outcome = λ o is. outcome o (k.outcome o is);
      silent = λ is. absurd (cc (sym f.unaborted ∙ is));
      local = f.sent setting.node;
      sent = λ held peer far. f.sent peer ∙ sym (k.sent peer);
      pending = f.pending ∙ sym (ap (λ (s : Share). length s.changes) (share_is tid));
      noted = λ held count low is. absurd (cc (sym (f.noted (note_text tid setting.node.0 count)) ∙ is));
      queued = λ server at to. grind (arith);
      made = λ client small. ap (λ (p : Part). p.made) (plain_client client) ∙ sym (no_loans tid (is_loan_here client setting.inc) (λ loan far. and_right (loan.client.0 == client.0) _ far));
      yielded = λ client small. ap (λ (p : Part). p.yielded) (plain_client client) ∙ sym (no_loans tid (is_given_back client setting.inc) (λ loan far. and_left _ loan.yielded (and_right (loan.client.0 == client.0) _ far)));
      home = λ home is. absurd (not_now home is);
    }
      where
        low : (s : ℕ) → nat_lt s 7 ≡ true → s < 7
        low s e = grind (arith, nat_tests, e)

    pub waits_held : HoldsWaits setting.node setting.inc tid later (face_of node tid).waiting node.servers
    waits_held = record {
      whole = f.once.whole;
      due = λ busy. f.due (sym (ap is_idle (share_is tid)) ∙ busy);
      within = λ server at to. tt;
      once = λ server at clean. f.once.once (at_server setting.node server) at clean;
      fits = λ server at to. f.once.fits (at_server setting.node server) at;
    }

  -- ---- one that it has not

  module _ (tid : Tid) (nothing : find_transaction after tid ≡ None) where
    no_doubt : (s : ℕ) → doubt_at log.prepared tid s ≡ None
    no_doubt s = by (doubt_at log.prepared tid s) refl
      where
        by : (o : Option Prepared) → doubt_at log.prepared tid s ≡ o → doubt_at log.prepared tid s ≡ None
        by None is = is
        by (Some v) is =
            let p = doubt_is (λ (v : Prepared). is_in_doubt v ≡ true → In v.tid) tid s log.prepared r.doubts v is in
            let two = and_parts (is_in_doubt v) _ p.1 in
            let same = same_tid-true v.tid tid (and_parts (same_tid v.tid tid) (v.server.0 == s) two.1).0 in
            absurd (cc (sym (ap is_some nothing) ∙ subst (λ (t : Tid). is_some (find_transaction after t) ≡ true) same (p.0 two.0).stands))

    no_part_known : (o : Option Participant) → (face_of node tid).known ≡ o → (face_of node tid).known ≡ None
    no_part_known None is = is
    no_part_known (Some part) is = absurd (by ((known_as tid).marks part is))
      where
        by : reopened.IsMarkedAs (same_node tid.home setting.node) log.committed tid (In tid) part → ⊥
        by (inl vote) = cc (sym (ap is_some nothing) ∙ vote.so.stands)
        by (inr commit) = cc (sym (ap cell_of_transaction nothing) ∙ r.committed tid commit.among)

    no_loans_of : filter (is_loan_in tid) saved.loans ≡ []
    no_loans_of = none_pass (is_loan_in tid) saved.loans (every_on (IsOldLoan after setting.inc) (λ (loan : Lent). is_loan_in tid loan ≡ false) other saved.loans loans)
      where
        other : (loan : Lent) → IsOldLoan after setting.inc loan → is_loan_in tid loan ≡ false
        other loan is = by (same_tid tid loan.tid) refl
          where
            by : (b : Bool) → same_tid tid loan.tid ≡ b → same_tid tid loan.tid ≡ false
            by false e = e
            by true e = absurd (cc (sym (ap is_some nothing) ∙ subst (λ (t : Tid). is_some (find_transaction after t) ≡ true) (sym (same_tid-true tid loan.tid e)) is.stands))

    pub empty_held : IsEmpty (face_of node tid)
    empty_held = record {
      known = no_part_known (face_of node tid).known refl;
      local = refl;
      changes = ap (λ (s : Share). length s.changes) (share_is tid ∙ ap share_as (no_doubt files_no));
      loans = no_loans_of;
      waiting = λ server. refl;
    }

    pub idle_held : is_idle (share_of node.servers.files.table tid) ≡ true
    idle_held = ap is_idle (share_is tid ∙ ap share_as (no_doubt files_no))

  -- ---- of each transaction

  pub at_held : (tid : Tid) → HoldsAt setting.node setting.inc tid (find_transaction after tid) (face_of node tid)
  at_held tid = by (find_transaction after tid) refl
    where
      by : (o : Option TransactionValue) → find_transaction after tid ≡ o → HoldsAt setting.node setting.inc tid o (face_of node tid)
      by None is = empty_held tid is
      by (Some later) is = tid_held tid later is

  pub waits_at : (tid : Tid) → HoldsWaitsAt setting.node setting.inc tid (find_transaction after tid) (face_of node tid).waiting node.servers
  waits_at tid = by (find_transaction after tid) refl
    where
      by : (o : Option TransactionValue) → find_transaction after tid ≡ o → HoldsWaitsAt setting.node setting.inc tid o (face_of node tid).waiting node.servers
      by None is = idle_held tid is
      by (Some later) is = waits_held tid later is
