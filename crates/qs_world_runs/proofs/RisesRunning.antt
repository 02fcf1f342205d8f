-- A node that restarts has all that the machine has beside it: what it had in memory is gone, its log and what is kept for its clients stand, and of what began here the machine has nothing open any more.
use Rattle.qs_world_runs.proofs.Words.{◌≡◌, ◌⊎◌, inl, inr, ℕ, ◌<◌, ◌==◌, ◌&&◌, not, Bool, true, false, List, [], ◌∷◌, ◌++◌, Option, Some, None, fold, nat_lt, refl, sym, ap, subst, ◌∙◌, arith, if◌then◌else◌, nat_tests, find, list_any, slice_get, same_tid, NodeNo, Tid, is_outcome_of, KeptLabel, Decided, after_both, BookValue, cell_of_transaction, find_transaction, effect, is_among, TransactionValue, is_commit, Cell, Recovery, recovery, is_kept_commit, recovered_of, Setting, Participant, book_of}
use Rattle.qs_world_runs.proofs.Words.{opened_from, Rise, may_move, moved, risen_host, Opening, World, inc_of, began_here, has_issued, is_committed_at, Lasts, HoldsLogged, Every, rise_entry, HoldsNodeOf, opens_soundly, in_runs, lasts_first, lasts_ran, LastsWell, opened_numbered, opening_named, rises_well, clash, of_some, HoldsRunning, Joined, book_in, same_Some, ltb-true, or_right, or_left, or_cases, eqb-self}
use Rattle.std.proofs.lemmas.List.Folds.{find-append}
use Rattle.std.specs.Option.{option_or}
use Rattle.qs_base.specs.declared.identifiers.Outcome.{Outcome}
use Rattle.qs_base.specs.declared.identifiers.Outcome.TheVariants as outcomes
use Rattle.qs_node_kept.specs.declared.kept.Kept.{Kept}
use Rattle.qs_book_machine.specs.Nodes as machine
use Rattle.qs_book_machine.specs.Transaction.{is_open}
use Rattle.qs_book_machine.specs.declared.transaction.Cell.TheVariants as cells
use Rattle.qs_node_step.specs.Answering.{was_committed}
use Rattle.qs_node_step.specs.Opening.{close_outcome, close_tid, is_left_open, outcome_in_log}
use Rattle.qs_node_step.specs.State.{NodeValue}
use Rattle.qs_tm.specs.Manager as tm
use Rattle.qs_world.specs.Moves.{is_in_order, reopened}
use Rattle.qs_world_refine.specs.Tidy.{IsCrossed, is_settled}
use Rattle.qs_world_refine.proofs.SoundParts.{and_both}
use Rattle.qs_world_lawful.specs.Beside.{is_done}
use Rattle.qs_world_lawful.proofs.BesideParts.{same_issued}
use Rattle.qs_world_lawful.proofs.FreshFace.{Fresh, IsOldLoan}
use Rattle.qs_world_lawful.proofs.RestartGoes.{Goes, IsElsewhere}
use Rattle.qs_world_lawful.proofs.RestoredFace.{fresh, old_loans}
use Rattle.qs_world_lawful.proofs.RestoredTid.{open_aborted, was}
use Rattle.qs_world_lawful.proofs.RisesWell as rises
use Rattle.qs_world_runs.specs.RiseLaws.{EachRisesRunning, rise_book}
use Rattle.qs_world_runs.proofs.FreshBeside.{BeginsWell, running_held}
use Rattle.qs_world_runs.proofs.JoinedFacts.{rises_facts}
use Rattle.qs_world_runs.proofs.JoinedParts.{lawful_both}
use Rattle.qs_world_runs.proofs.RisesBeside.{owners_kept}

-- ---- what is committed stays so for the clients of the home

module _ (tid : Tid) (here : NodeNo) (done : List Tid) where
  abbrev Kept_at : List Decided → Type 0
  Kept_at os = is_kept_commit (find (is_outcome_of tid) os) ≡ true

  kept_more : (os more : List Decided) → Kept_at os → Kept_at (os ++ more)
  kept_more os more is = ap is_kept_commit (find-append (is_outcome_of tid) os more) ∙ by (find (is_outcome_of tid) os) is
    where
      by : (o : Option Decided) → is_kept_commit o ≡ true → is_kept_commit (option_or o (find (is_outcome_of tid) more)) ≡ true
      by None e = absurd (cc e)
      by (Some d) e = e

  kept_closed : (labels : List KeptLabel) (os : List Decided) → Kept_at os → Kept_at (fold (close_outcome here done) os labels)
  kept_closed [] os is = is
  kept_closed (b ∷ labels) os is = kept_closed labels (close_outcome here done os b) (of b.tid)
    where
      one : (t : Tid) (x : Bool) → Kept_at (if x then os ++ outcome_in_log done t ∷ [] else os)
      one t true = kept_more os (outcome_in_log done t ∷ []) is
      one t false = is

      of : (o : Option Tid) → Kept_at (close_tid here done os o)
      of None = is
      of (Some t) = one t (is_left_open here os t)

-- what a home knows as committed is kept so, or its log had the Commit as it opened
pub known_committed : (node : NodeValue) (tid : Tid) → tid.home ≡ node.setting.node → IsCrossed node → is_committed_at node tid ≡ true → was_committed tid node ≡ true
known_committed node tid home crossed is = of (or_cases (was_committed tid node) (tm.told_of tid false (λ part. is_done part.outcome) node.manager) is)
  where
    home_is : (rest : Bool) → (tid.home.0 == node.setting.node.0) ≡ true
    home_is rest = subst (λ (k : NodeNo). (k.0 == node.setting.node.0) ≡ true) (sym home) (grind (arith, nat_tests))

    done_is : (o : Option Outcome) → is_done o ≡ true → o ≡ Some outcomes.Commit
    done_is None e = absurd (cc e)
    done_is (Some outcomes.Commit) e = refl
    done_is (Some outcomes.Abort) e = absurd (cc e)

    at : (part : Participant) → tm.part_of tid node.manager ≡ Some part → part.outcome ≡ Some outcomes.Commit → (b : Bool) → began_here node tid ≡ b → was_committed tid node ≡ true
    at part known so true here = crossed.commits tid part known here so
    at part known so false away = or_right _ (list_any (same_tid tid) node.committed) (subst (λ (o : Option Outcome). is_settled o (list_any (same_tid tid) node.committed) ≡ true) so (crossed.earlier tid part known (home_is true) away))

    knows : (o : Option Participant) → tm.part_of tid node.manager ≡ o → ◌≡◌ {A = Bool} (elim o [ None ↦ false | Some part ↦ is_done part.outcome ]) true → was_committed tid node ≡ true
    knows None none e = absurd (cc e)
    knows (Some part) known e = at part known (done_is part.outcome e) (began_here node tid) refl

    of : (was_committed tid node ≡ true) ⊎ (tm.told_of tid false (λ part. is_done part.outcome) node.manager ≡ true) → was_committed tid node ≡ true
    of (inl so) = so
    of (inr told) = knows (tm.part_of tid node.manager) refl told

-- ---- the restart

module _ (P : Opening → World → Type 0) (o : Opening) (world : World) (j : Joined P o world) (n stamp inc : ℕ) (may : may_move world (Rise n stamp inc) ≡ true) where
  abbrev before : BookValue
  before = book_in o world

  abbrev old : NodeValue
  old = (world.hosts n).node

  lasts : Lasts before
  lasts = in_runs o world.journal j.opens j.lawful

  well : LastsWell before
  well = lasts_ran world.journal (book_of o) (lasts_first (opened_from o 0 o.size) (opens_soundly o j.opens) (opening_named (opened_from o 0 o.size) (opened_numbered o 0 o.size))) j.lawful

  abbrev setting : Setting
  setting = record (world.hosts n).node.setting { inc = inc }

  abbrev log : Recovery
  log = recovery (world.hosts n).log

  abbrev now : BookValue
  now = rises.book_now before world n stamp inc lasts j.held may

  same : effect before (rise_entry world n stamp inc) ≡ now
  same = rises.same_book before world n stamp inc lasts j.held may

  low : n < world.size
  low = ltb-true n world.size (and_both (nat_lt n world.size) _ (and_both (nat_lt n world.size && _) _ (and_both (is_in_order world n stamp) _ (and_both (not (world.channels.up n)) _ may).1).0).0).0

  fresh_now : Fresh now setting.node setting.inc log
  fresh_now = fresh old.manager.alloc setting old.kept.saved before stamp log (rises.at before world n stamp inc lasts j.held may).state (rises.r before world n stamp inc lasts j.held may) (rises.kept_before before world n stamp inc lasts j.held may).loans

  loans_now : Every (IsOldLoan now setting.inc) old.kept.saved.loans
  loans_now = old_loans old.manager.alloc setting old.kept.saved before stamp log (rises.at before world n stamp inc lasts j.held may).state (rises.r before world n stamp inc lasts j.held may) (rises.kept_before before world n stamp inc lasts j.held may).loans

  abbrev begins : NodeValue
  begins = reopened inc (recovered_of (world.hosts n).log) (world.hosts n).node

  -- what the machine has of the node and its log then
  its : HoldsNodeOf now world.size n inc true (risen_host stamp inc (recovered_of (world.hosts n).log) (world.hosts n))
  its = subst (λ (b : Bool). HoldsNodeOf now world.size n (if b then inc else inc_of world n) (if b then true else world.channels.up n) (if b then risen_host stamp inc (recovered_of (world.hosts n).log) (world.hosts n) else world.hosts n)) (eqb-self n)
      (subst (λ (b : BookValue). HoldsNodeOf b world.size n (inc_of (moved (Rise n stamp inc) world) n) ((moved (Rise n stamp inc) world).channels.up n) ((moved (Rise n stamp inc) world).hosts n)) same (rises.rises_own before world n stamp inc lasts j.held may).1)

  logged : HoldsLogged setting.node.0 now its.state log
  logged = subst (λ (k : ℕ). HoldsLogged k now its.state log) (sym its.node) (subst (λ (s : machine.NodeValue). HoldsLogged n now s log) (of_some (sym (its.runs refl).log.there ∙ its.there)) (its.runs refl).log.on_disk)

  lasts_now : Lasts now
  lasts_now = subst Lasts (after_both world.journal (rise_entry world n stamp inc ∷ []) (book_of o) ∙ same)
      (in_runs o (world.journal ++ rise_entry world n stamp inc ∷ []) j.opens (lawful_both world.journal (rise_entry world n stamp inc ∷ []) (book_of o) j.lawful (rises_well before world n stamp inc lasts j.held may).lawful))

  -- ---- what is committed at its home

  module _ (tid : Tid) (later : TransactionValue) (home : tid.home ≡ setting.node) (found : find_transaction now tid ≡ Some later) (is : is_commit later.cell ≡ true) where
    home_is : tid.home.0 ≡ n
    home_is = ap (λ (k : NodeNo). k.0) home ∙ its.node

    in_run : nat_lt tid.home.0 world.size ≡ true
    in_run = less tid.home.0 n world.size home_is low
      where
        less : (a b c : ℕ) → a ≡ b → b < c → nat_lt a c ≡ true
        less a b c e p = grind (arith, nat_tests, e, p)

    kept_on : was_committed tid old ≡ true → was_committed tid begins ≡ true
    kept_on so = of (or_cases (is_kept_commit (find (is_outcome_of tid) old.kept.now.outcomes)) (list_any (same_tid tid) old.committed) so)
      where
        of : (is_kept_commit (find (is_outcome_of tid) old.kept.now.outcomes) ≡ true) ⊎ (list_any (same_tid tid) old.committed ≡ true) → was_committed tid begins ≡ true
        of (inl kept) = or_left (is_kept_commit (find (is_outcome_of tid) begins.kept.now.outcomes)) _
            (kept_closed tid setting.node log.committed old.kept.saved.labels old.kept.saved.outcomes (subst (λ (k : Kept). is_kept_commit (find (is_outcome_of tid) k.outcomes) ≡ true) (sym (rises.at before world n stamp inc lasts j.held may).accepted) kept))
        of (inr among) = or_right (is_kept_commit (find (is_outcome_of tid) begins.kept.now.outcomes)) _ (j.logged n low tid among)

    has : was_committed tid begins ≡ true
    has = by (is_open w.0.cell) refl
      where
        w : (tx : TransactionValue) × (find_transaction before tid ≡ Some tx) × Goes setting.node.0 (IsElsewhere setting.node.0 setting.inc) before.place tid tx later
        w = was before setting.node stamp setting.inc log (rises.at before world n stamp inc lasts j.held may).state (rises.r before world n stamp inc lasts j.held may) tid later found

        aborted : cell_of_transaction (Some later) ≡ Some cells.Abort → ⊥
        aborted e = clash (sym (ap is_commit (same_Some later.cell cells.Abort e)) ∙ is)

        undecided : is_open w.0.cell ≡ true → (b : Bool) → is_among log.committed tid ≡ b → was_committed tid begins ≡ true
        undecided open_now true among = or_right (is_kept_commit (find (is_outcome_of tid) begins.kept.now.outcomes)) _ among
        undecided open_now false far = absurd (aborted (ap cell_of_transaction (sym found)
            ∙ open_aborted before setting.node stamp setting.inc log (rises.at before world n stamp inc lasts j.held may).state (rises.r before world n stamp inc lasts j.held may) tid w.0 w.1 home open_now far))

        by : (b : Bool) → is_open w.0.cell ≡ b → was_committed tid begins ≡ true
        by true open_now = undecided open_now (is_among log.committed tid) refl
        by false shut = kept_on (known_committed old tid home (j.shown.steady.nodes n low).tidy.crossed
            (subst (λ (k : ℕ). is_committed_at (world.hosts k).node tid ≡ true) home_is (j.homes tid w.0 w.1 (sym (ap is_commit (w.2.decided shut)) ∙ is) in_run)))

  begins_well : BeginsWell now its.state begins
  begins_well = record {
    there = ap (slice_get now.nodes) its.node ∙ its.there;
    inc = its.inc_is;
    owners = owners_kept before setting.node stamp setting.inc log (rises.at before world n stamp inc lasts j.held may).state (rises.r before world n stamp inc lasts j.held may) j.owners;
    unissued = unissued;
    committed = λ tid later home found is. has tid later home found is;
    lasts = lasts_now;
  }
    where
      unissued : (tid : Tid) (later : TransactionValue) (text : List ℕ) → find_transaction now tid ≡ Some later → has_issued later setting.node setting.inc text ≡ false
      unissued tid later text found =
          let w = was before setting.node stamp setting.inc log (rises.at before world n stamp inc lasts j.held may).state (rises.r before world n stamp inc lasts j.held may) tid later found in
          same_issued setting.node setting.inc text w.0 later w.2.requests
          ∙ well.issued setting.node (rises.at before world n stamp inc lasts j.held may).state tid w.0 setting.inc text (rises.r before world n stamp inc lasts j.held may).there w.1 (rises.r before world n stamp inc lasts j.held may).rises

  risen_running : HoldsRunning (rise_book o world n stamp inc) (reopened inc (recovered_of (world.hosts n).log) (world.hosts n).node)
  risen_running = subst (λ (b : BookValue). HoldsRunning b begins) (sym same)
      (running_held old.manager.alloc setting old.kept.saved now log its.state fresh_now loans_now begins_well logged (rises_facts old inc (recovered_of (world.hosts n).log) (j.held.nodes n low).accepted (j.facts n low)))

pub rises_running : (P : Opening → World → Type 0) → EachRisesRunning P
rises_running P o world n stamp inc j may = risen_running P o world j n stamp inc may
