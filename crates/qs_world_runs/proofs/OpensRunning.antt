-- As a run begins the machine has beside each node all that it is to have, over old logs too: it opened with what the logs hold, and nothing else.
use Rattle.qs_world_runs.proofs.Words.{◌≡◌, ℕ, ◌<◌, ◌+◌, Bool, true, false, length, Option, Some, None, fold, refl, sym, ap, subst, ◌∙◌, arith, is_some, nat_lt, if◌then◌else◌, nat_tests, list_any, slice_get, NodeNo, Tid, no_kept, BookValue, find_transaction, is_among, TransactionValue, is_commit, Recovery, recovered_of, Setting, book_of, IsOpening, Opening, start, has_issued, HoldsLogged, HoldsNodeOf, opening_empty, state, state_there, world_held, clash, of_some, HoldsRunning, RunningAt}
use Rattle.qs_world_runs.proofs.Words.{is_zero_plus}
use Rattle.qs_book_laws.proofs.Openings.{first_book, opening_names}
use Rattle.qs_book_machine.specs.Nodes as machine
use Rattle.qs_book_machine.specs.Opening.{has_commit}
use Rattle.qs_book_machine.specs.Transaction.{opened_as}
use Rattle.qs_book_machine.specs.declared.opened.Pending.{Pending}
use Rattle.qs_book_machine.specs.declared.transaction.Cell.TheVariants as cells
use Rattle.qs_ops.specs.declared.answer.Cause.TheVariants as causes
use Rattle.qs_node_step.specs.Answering.{was_committed}
use Rattle.qs_node_step.specs.State.{NodeValue}
use Rattle.qs_world.specs.Histories.{opened_with}
use Rattle.qs_world_lawful.specs.Beside.{HasOwner}
use Rattle.qs_world_lawful.proofs.OpenedBook.{IsNamedAs, Reads, Stands, last_pending, logs_read}
use Rattle.qs_world_lawful.proofs.OpenedCommits.{none_commits}
use Rattle.qs_world_lawful.proofs.OpenedFresh.{coherent, lasts, log, one, opened}
use Rattle.qs_world_lawful.proofs.OpenedServers.{begins, fresh_own, no_loans}
use Rattle.qs_world_lawful.proofs.OpenedVotes.{opened_there}
use Rattle.qs_world_lawful.proofs.Truths.{node_is}
use Rattle.qs_world_runs.specs.JoinedLaws.{Opens}
use Rattle.qs_world_runs.proofs.FreshBeside.{BeginsWell, running_held}
use Rattle.qs_world_runs.proofs.JoinedFacts.{opens_facts}

module _ (o : Opening) (opens : IsOpening o) where
  abbrev now : BookValue
  now = book_of o

  -- nobody of the run owns what a log names
  pub opens_owned : (tid : Tid) (tx : TransactionValue) → find_transaction now tid ≡ Some tx → HasOwner now tx
  opens_owned tid tx found client owns = absurd (cc (sym (opening_empty (opened o opens) tid tx found).owner ∙ owns))

  module _ (n : ℕ) (low : n < o.size) where
    abbrev setting : Setting
    setting = o.settings n

    its : HoldsNodeOf now o.size n setting.inc true ((start o).hosts n)
    its = (world_held o opens).nodes n low

    own : setting.node ≡ record { 0 = n }
    own = node_is setting.node (record { 0 = n }) its.node

    abbrev node : NodeValue
    node = begins o opens n low own

    logged : HoldsLogged setting.node.0 now (state o opens n low) (log o opens n low)
    logged = subst (λ (k : ℕ). HoldsLogged k now (state o opens n low) (log o opens n low)) (sym its.node)
        (subst (λ (s : machine.NodeValue). HoldsLogged n now s (log o opens n low)) (of_some (sym (its.runs refl).log.there ∙ state_there o opens n low)) (its.runs refl).log.on_disk)

    -- ---- what is committed at its home, the home's log has

    module _ (tid : Tid) (tx : TransactionValue) (found : find_transaction now tid ≡ Some tx) (home : tid.home ≡ setting.node) where
      there : slice_get (opened o opens) n ≡ Some (one o opens n low)
      there = opened_there o 0 o.size n low ∙ ap (λ (m : ℕ). Some (opened_with (o.settings m) (recovered_of (o.logs m)))) (zero_plus n)
        where
          zero_plus : (k : ℕ) → 0 + k ≡ k
          zero_plus k = grind (arith)

      abbrev pending : Option Pending
      pending = fold (last_pending tid 0) None (one o opens n low).pending

      reads : Reads now.nodes tid n setting.inc 0 (fold (last_pending tid 0) None (one o opens n low).pending) now
      reads = logs_read now.nodes tid n setting.inc 0 0 n (opened o opens) (one o opens n low) there (is_zero_plus n) refl (first_book (opened o opens)) (record { nodes_are = sym (opening_names (opened o opens) (coherent o opens)).nodes; stands = refl })

      named : IsNamedAs now.nodes tid n setting.inc 0 (fold (last_pending tid 0) None (one o opens n low).pending) tx
      named = subst (Stands now.nodes tid n setting.inc 0 (fold (last_pending tid 0) None (one o opens n low).pending)) found reads.stands

      home_is : tid.home.0 ≡ n
      home_is = ap (λ (k : NodeNo). k.0) (home ∙ own)

      in_run : nat_lt tid.home.0 o.size ≡ true
      in_run = less tid.home.0 n o.size home_is low
        where
          less : (a b c : ℕ) → a ≡ b → b < c → nat_lt a c ≡ true
          less a b c e p = grind (arith, nat_tests, e, p)

      uncommitted : is_among (log o opens n low).committed tid ≡ false → is_commit tx.cell ≡ false
      uncommitted none = ap (λ (x : TransactionValue). is_commit x.cell) named.rest ∙ cell (list_any (has_commit tid) now.nodes) (nat_lt tid.home.0 (length now.nodes)) nobody
        where
          nobody : list_any (has_commit tid) now.nodes ≡ false
          nobody = ap (list_any (has_commit tid)) (opening_names (opened o opens) (coherent o opens)).nodes
              ∙ none_commits o opens tid ((lasts o opens).named tid (ap is_some found)) in_run (ap (λ (k : ℕ). is_among (Rattle.qs_restart.specs.Recovery.recovery (o.logs k)).committed tid) home_is ∙ none)

          cell : (b c : Bool) → b ≡ false → is_commit (if b then opened_as cells.Commit None else if c then opened_as cells.Abort (Some (causes.Home tid.inc)) else opened_as cells.Open None).cell ≡ false
          cell false true e = refl
          cell false false e = refl
          cell true c e = absurd (clash (sym e))

      has : is_commit tx.cell ≡ true → was_committed tid node ≡ true
      has committed = by (is_among (log o opens n low).committed tid) refl
        where
          by : (b : Bool) → is_among (log o opens n low).committed tid ≡ b → was_committed tid node ≡ true
          by true is = is
          by false is = absurd (clash (sym (uncommitted is) ∙ committed))

    begins_well : BeginsWell now (state o opens n low) node
    begins_well = record {
      there = ap (slice_get now.nodes) its.node ∙ state_there o opens n low;
      inc = refl;
      owners = opens_owned;
      unissued = λ tid tx text found. ap (λ rs. has_issued (record tx { requests = rs }) setting.node setting.inc text) (opening_empty (opened o opens) tid tx found).requests;
      committed = λ tid tx home found is. has tid tx found home is;
      lasts = lasts o opens;
    }

    opened_running : HoldsRunning now ((start o).hosts n).node
    opened_running = running_held o.alloc setting no_kept now (log o opens n low) (state o opens n low) (fresh_own o opens n low own) (no_loans o opens n low own) begins_well logged (opens_facts o opens n low)

pub opens_running : Opens RunningAt
opens_running o opens n low up = opened_running o opens n low
