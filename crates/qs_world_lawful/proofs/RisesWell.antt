-- A node that is down restarts: its entry is lawful, and the machine holds the node that begins, its log, and what is kept for clients.
use Rattle.qs_world_lawful.proofs.Words.{◌≡◌, ℕ, ◌<◌, ◌==◌, ◌&&◌, ◌++◌, not, Bool, true, false, List, [], ◌∷◌, Option, Some, None, fold, refl, sym, ap, subst, ◌∙◌, if◌then◌else◌, is_some, nat_lt, append-nil, slice_get, find, list_any, same_tid, same_tid-self, NodeNo, Tid, same_node, Entry, is_outcome_of, KeptLabel, Decided, Lent, BookValue, find_transaction, broken, effect, votes_once, TransactionValue, Record, Recovery, recovery, entry_of, close_outcome, close_tid, is_left_open, outcome_in_log}
use Rattle.qs_world_lawful.proofs.Words.{recovered_of, Setting, Rise, may_move, moved, risen_host, Host, World, inc_of, Lasts, HoldsHost, Every, HoldsStopped, found_votes, HoldsLeft, HoldsSaid, rise_entry, HoldsDown, HoldsKept, HoldsNodeAt, HoldsNodeOf, HoldsUp, HoldsWorld, IsLeftOpen, IsLoanOf, eqb-self, not-true, ltb-true, and_parts}
use Rattle.qs_base.specs.declared.identifiers.Outcome.TheVariants as outcomes
use Rattle.qs_book_journal.specs.declared.entry.Act.TheVariants as acts
use Rattle.qs_book_machine.specs.Lawful.{is_in_order}
use Rattle.qs_book_machine.specs.Nodes as machine
use Rattle.qs_ops.specs.declared.answer.Cause.TheVariants as causes
use Rattle.qs_world.specs.Moves as moves
use Rattle.qs_world_lawful.proofs.FoundOnce.{found_once}
use Rattle.qs_world_lawful.proofs.LogFrames.{every_on}
use Rattle.qs_world_lawful.proofs.Restarting.{may_restart}
use Rattle.qs_world_lawful.proofs.RestoredClients.{outcomes_held, owner_still}
use Rattle.qs_world_lawful.proofs.RestoredLog.{said_held}
use Rattle.qs_world_lawful.proofs.RestoredNode.{held, host_held, now, state_now}
use Rattle.qs_world_lawful.proofs.RestoredServers.{same_found}
use Rattle.qs_world_lawful.proofs.Restored.{there_new}
use Rattle.qs_world_lawful.proofs.RestoredTid.{Restarts, goes}
use Rattle.qs_world_lawful.proofs.UntoldListed.{untold_listed}
use Rattle.qs_base_lemmas.proofs.Tests.{le_lt_le}

-- ---- each label has its outcome then

module _ (here : NodeNo) (done : List Tid) (tid : Tid) (home : tid.home ≡ here) where
  abbrev HasOutcome : List Decided → Type 0
  HasOutcome os = is_some (find (is_outcome_of tid) os) ≡ true

  more_outcome : (os more : List Decided) → HasOutcome os → HasOutcome (os ++ more)
  more_outcome [] more is = absurd (cc is)
  more_outcome (o ∷ os) more is = by (is_outcome_of tid o) refl is (more_outcome os more)
    where
      by : (b : Bool) → is_outcome_of tid o ≡ b → is_some (if b then Some o else find (is_outcome_of tid) os) ≡ true → (HasOutcome os → HasOutcome (os ++ more)) → HasOutcome ((o ∷ os) ++ more)
      by true e h rest = rw e refl
      by false e h rest = rw e (rest h)

  last_outcome : (os : List Decided) (d : Decided) → is_outcome_of tid d ≡ true → HasOutcome (os ++ d ∷ [])
  last_outcome [] d is = rw is refl
  last_outcome (o ∷ os) d is = by (is_outcome_of tid o) refl (last_outcome os d is)
    where
      by : (b : Bool) → is_outcome_of tid o ≡ b → HasOutcome (os ++ d ∷ []) → HasOutcome ((o ∷ os) ++ d ∷ [])
      by true e rest = rw e refl
      by false e rest = rw e rest

  close_more : (begun : KeptLabel) (os : List Decided) → HasOutcome os → HasOutcome (close_outcome here done os begun)
  close_more begun os h = by begun.tid
    where
      if_more : (b : Bool) (d : Decided) → HasOutcome (if b then os ++ d ∷ [] else os)
      if_more true d = more_outcome os (d ∷ []) h
      if_more false d = h

      by : (o : Option Tid) → HasOutcome (close_tid here done os o)
      by None = h
      by (Some t) = if_more (is_left_open here os t) (outcome_in_log done t)

  close_own : (begun : KeptLabel) (os : List Decided) → begun.tid ≡ Some tid → HasOutcome (close_outcome here done os begun)
  close_own begun os is = subst (λ (o : Option Tid). HasOutcome (close_tid here done os o)) (sym is) (by (find (is_outcome_of tid) os) refl)
    where
      near : same_node tid.home here ≡ true
      near = subst (λ (n : NodeNo). (n.0 == here.0) ≡ true) (sym home) (eqb-self here.0)

      own : is_outcome_of tid (outcome_in_log done tid) ≡ true
      own = at (list_any (same_tid tid) done)
        where
          at : (b : Bool) → is_outcome_of tid (if◌then◌else◌ {A = Decided} b (record { tid = tid; outcome = outcomes.Commit; cause = None }) (record { tid = tid; outcome = outcomes.Abort; cause = Some (causes.Home tid.inc) })) ≡ true
          at true = same_tid-self tid
          at false = same_tid-self tid

      by : (o : Option Decided) → find (is_outcome_of tid) os ≡ o → HasOutcome (close_tid here done os (Some tid))
      by None e = subst (λ (b : Bool). HasOutcome (if b then os ++ outcome_in_log done tid ∷ [] else os)) (sym both) (last_outcome os (outcome_in_log done tid) own)
        where
          both : is_left_open here os tid ≡ true
          both = rw (near, e) refl
      by (Some d) e = subst (λ (b : Bool). HasOutcome (if b then os ++ outcome_in_log done tid ∷ [] else os)) (sym both) (ap is_some e)
        where
          both : is_left_open here os tid ≡ false
          both = rw (near, e) refl

  fold_more : (labels : List KeptLabel) (os : List Decided) → HasOutcome os → HasOutcome (fold (close_outcome here done) os labels)
  fold_more [] os h = h
  fold_more (b ∷ labels) os h = fold_more labels (close_outcome here done os b) (close_more b os h)

  pub fold_own : (begun : KeptLabel) → begun.tid ≡ Some tid → (labels : List KeptLabel) (os : List Decided) → HasOutcome (fold (close_outcome here done) (close_outcome here done os begun) labels)
  fold_own begun is labels os = fold_more labels (close_outcome here done os begun) (close_own begun os is)

all_closed : (here : NodeNo) (done : List Tid) (book : BookValue) (labels : List KeptLabel) (os : List Decided) → Every (λ (b : KeptLabel). (tid : Tid) → b.tid ≡ Some tid → tid.home ≡ here → is_some (find (is_outcome_of tid) (fold (close_outcome here done) os labels)) ≡ true) labels
all_closed here done book [] os = tt
all_closed here done book (b ∷ labels) os = ((λ tid is home. fold_own here done tid home b is labels os), all_closed here done book labels (close_outcome here done os b))

-- ---- the whole

module _ (book : BookValue) (world : World) (n stamp inc : ℕ) (lasts : Lasts book) (h : HoldsWorld book world) (may : may_move world (Rise n stamp inc) ≡ true) where
  down : world.channels.up n ≡ false
  down = not-true (world.channels.up n) (and_parts (not (world.channels.up n)) _ may).0

  pub ordered : moves.is_in_order world n stamp ≡ true
  ordered = (and_parts (moves.is_in_order world n stamp) _ (and_parts (not (world.channels.up n)) _ may).1).0

  later : nat_lt (inc_of world n) inc ≡ true
  later = (and_parts (moves.is_in_order world n stamp) _ (and_parts (not (world.channels.up n)) _ may).1).1

  in_run : n < world.size
  in_run = ltb-true n world.size (and_parts (nat_lt n world.size) (nat_lt stamp moves.stamp_limit) (and_parts (nat_lt n world.size && nat_lt stamp moves.stamp_limit) _ ordered).0).0

  pub at : HoldsNodeAt book world n
  at = h.nodes n in_run

  abbrev pub log : Recovery
  log = recovery (world.hosts n).log

  abbrev pub setting : Setting
  setting = record (world.hosts n).node.setting { inc = inc }

  d : HoldsDown n book at.state (world.hosts n)
  d = at.stopped down

  rises : at.state.inc < inc
  rises = ltb-true at.state.inc inc (ap (λ (i : ℕ). nat_lt i inc) at.inc_is ∙ later)

  -- by the number that the node has itself
  record At (k : ℕ) : Type 0 where
    there : slice_get book.nodes k ≡ Some at.state
    stopped : HoldsStopped k book at.state log
    left : HoldsLeft k book at.state log

  at_own : At (world.hosts n).node.setting.node.0
  at_own = subst At (sym at.node) (record { there = at.there; stopped = d.log; left = d.left })

  pub r : Restarts book setting.node setting.inc log at.state
  r = record { there = at_own.there; stopped = at_own.stopped; stands = d.stands; marked = d.marked; left = at_own.left; lasts = lasts; listed = untold_listed (world.hosts n).log; rises = rises }

  pub once : votes_once (found_votes log) ≡ true
  once = found_once (world.hosts n).log

  -- ---- its entry

  abbrev pub entry : Entry
  entry = rise_entry world n stamp inc

  entry_lawful : broken book entry ≡ None
  entry_lawful = rw (order, at.there, at.up_is, down) (may_restart n book at.state (world.hosts n).log inc (ap (λ (i : ℕ). nat_lt i inc) at.inc_is ∙ later) d.log)
    where
      order : is_in_order book entry ≡ true
      order = h.order n stamp ordered

  pub kept_before : HoldsKept setting.node at.state.inc book (world.hosts n).node.kept.saved
  kept_before = subst (λ (i : ℕ). HoldsKept setting.node i book (world.hosts n).node.kept.saved) (sym at.inc_is) at.kept

  -- ---- what is held then

  abbrev risen : Host
  risen = risen_host stamp inc (recovered_of (world.hosts n).log) (world.hosts n)

  abbrev pub book_now : BookValue
  book_now = now (world.hosts n).node.manager.alloc setting (world.hosts n).node.kept.saved book stamp log at.state r kept_before once

  abbrev new_state : machine.NodeValue
  new_state = state_now (world.hosts n).node.manager.alloc setting (world.hosts n).node.kept.saved book stamp log at.state r kept_before once

  -- by the number that the node has itself
  record Held (k : ℕ) : Type 0 where
    there : slice_get book_now.nodes k ≡ Some new_state
    log : HoldsHost k book_now risen.node.manager (world.hosts n).log []
    said : HoldsSaid k book_now new_state (recovery (world.hosts n).log)

  held_own : Held (world.hosts n).node.setting.node.0
  held_own = record {
    there = there_new book setting.node.0 stamp setting.inc log at.state r.there;
    log = host_held (world.hosts n).node.manager.alloc setting (world.hosts n).node.kept.saved book stamp log at.state r kept_before once (world.hosts n).log refl;
    said = said_held book setting.node stamp setting.inc log at.state r once;
  }

  held_now : Held n
  held_now = subst Held at.node held_own

  pub same_book : effect book entry ≡ book_now
  same_book = ap (λ (k : ℕ). effect book (entry_of k stamp (acts.Restart inc (found_votes log) log.committed))) (sym at.node)

  up_to_date : HoldsUp n book_now new_state risen
  up_to_date = record {
    still = held (world.hosts n).node.manager.alloc setting (world.hosts n).node.kept.saved book stamp log at.state r kept_before once (h.size ∙ sym at.run) at.format;
    log = subst (λ (rs : List Record). HoldsHost n book_now risen.node.manager (world.hosts n).log rs) (sym d.nothing_waits) held_now.log;
    said = subst (λ (rs : List Record). HoldsSaid n book_now new_state (recovery ((world.hosts n).log ++ rs))) (sym d.nothing_waits) (subst (λ (rs : List Record). HoldsSaid n book_now new_state (recovery rs)) (sym (append-nil (world.hosts n).log)) held_now.said);
    on_disk = held_now.said;
  }

  kept_now : HoldsKept setting.node inc book_now risen.node.kept.saved
  kept_now = record {
    owners = λ label begun tid client labelled is owned. owner_still book setting.node stamp setting.inc log at.state r (world.hosts n).node.kept.saved kept_before tid client (kept_before.owners label begun tid client labelled is owned);
    outcomes = λ tid decided is. outcomes_held book setting.node stamp setting.inc log at.state r (world.hosts n).node.kept.saved kept_before tid decided is;
    undecided = every_on _ (IsLeftOpen setting.node book_now risen.node.kept.saved.outcomes) (λ b has tid is home none. absurd (cc (sym (ap is_some none) ∙ has tid is home))) (world.hosts n).node.kept.saved.labels (all_closed setting.node log.committed book (world.hosts n).node.kept.saved.labels (world.hosts n).node.kept.saved.outcomes);
    loans = every_on (IsLoanOf book at.state.inc) (IsLoanOf book_now inc) loan_now (world.hosts n).node.kept.saved.loans kept_before.loans;
  }
    where
      loan_now : (loan : Lent) → IsLoanOf book at.state.inc loan → IsLoanOf book_now inc loan
      loan_now loan is = record { stands = by (find_transaction book loan.tid) refl; made = le_lt_le loan.inc at.state.inc inc is.made rises }
        where
          by : (o : Option TransactionValue) → find_transaction book loan.tid ≡ o → is_some (find_transaction book_now loan.tid) ≡ true
          by None none = absurd (cc (sym (ap is_some none) ∙ is.stands))
          by (Some tx) had = ap is_some (goes book setting.node stamp setting.inc log at.state r loan.tid tx had).1

  node_now : HoldsNodeOf book_now world.size n inc true risen
  node_now = record {
    state = new_state;
    there = held_now.there;
    up_is = refl;
    inc_is = refl;
    node = at.node;
    run = at.run;
    format = (ap machine.extra_of same_format ∙ at.format.0, ap machine.keep_of same_format ∙ at.format.1);
    accepted = refl;
    kept = kept_now;
    runs = λ up. up_to_date;
    stopped = λ up. absurd (cc up);
  }
    where
      same_format : new_state.format ≡ at.state.format
      same_format = (same_found (world.hosts n).node.manager.alloc setting (world.hosts n).node.kept.saved book stamp log at.state r kept_before.loans).format

  -- its entry is lawful, and the machine holds the node that begins
  pub rises_own : (broken book entry ≡ None) × HoldsNodeAt (effect book entry) (moved (Rise n stamp inc) world) n
  rises_own = (entry_lawful, subst (λ (b : BookValue). HoldsNodeAt b (moved (Rise n stamp inc) world) n) (sym same_book) (subst (λ (b : Bool). HoldsNodeOf book_now world.size n (if b then inc else inc_of world n) (if b then true else world.channels.up n) (if b then risen else world.hosts n)) (sym (eqb-self n)) node_now))
