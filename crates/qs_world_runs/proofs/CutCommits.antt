-- What a step leaves in its node's log, of what the machine had before it. Each Commit is of what the step committed, which stood and was unanimous before, or was committed before.
use Rattle.qs_world_runs.proofs.Words.{◌≡◌, inr, ℕ, ◌+◌, ◌==◌, ◌++◌, Bool, true, false, List, [], ◌∷◌, Option, Some, None, refl, sym, ap, subst, ◌∙◌, arith, if◌then◌else◌, nat_tests, list_any, same_tid-self, same_tid, Tid, Act, Entry, after_both, BookValue, cell_of_transaction, find_transaction, is_committed, TransactionValue, Cell, Record, Prepared, recovery, after_step, effects_of, Event, book_of, opened_from, Source, log_after, step_with, stepped_host, taken_by, entries_of, Opening, World}
use Rattle.qs_world_runs.proofs.Words.{up_taken, up_all, Lasts, HasCommitted, IsMarked, Every, IsCommitLogged, IsApart, HoldsNodeAt, HoldsUp, goes_aside, opens_soundly, in_runs, lasts_first, lasts_ran, LastsWell, opened_numbered, opening_named, MakesStep, KeptVotes, Joined, book_in, AfterStep, WholeSteps, StaysUnanimousThen, book_then, PlacesAt, or-true, eqb-self, apart_turned}
use Rattle.qs_book_machine.specs.Lawful.{IsLawful}
use Rattle.qs_book_machine.specs.Nodes as machine
use Rattle.qs_book_machine.specs.Transaction.{is_open}
use Rattle.qs_book_machine.specs.declared.transaction.Cell.TheVariants as cells
use Rattle.qs_world_lawful.specs.Said.{IsUndone}
use Rattle.qs_world_lawful.proofs.AsideGoes.{GoesAside}
use Rattle.qs_world_runs.specs.CutCommits.{EachKeepsCommits, EachKeepsVotes}
use Rattle.qs_world_runs.proofs.JoinedHeld.{held_then}
use Rattle.qs_world_runs.proofs.JoinedLogged.{every_made}
use Rattle.qs_world_runs.proofs.JoinedParts.{lawful_both}
use Rattle.qs_world_runs.proofs.JoinedSteps.{step_entries, step_lawful, step_low, step_up}
use Rattle.qs_world_runs.proofs.StepUnanimous.{steps_stay_unanimous}
use Rattle.qs_world_runs.proofs.WholeSteps.{whole_steps}
use Rattle.qs_world_runs.proofs.UnanimousEarlier.{stood_earlier, unanimous_earlier}

next_apart : (a : ℕ) → (a == a + 1) ≡ false
next_apart a = grind (arith, nat_tests)

module _ (P : Opening → World → Type 0) (steps : WholeSteps P) (unanimous : AfterStep P StaysUnanimousThen) (o : Opening) (world : World) (n stamp free : ℕ) (source : Source) (event : Event) (j : Joined P o world) (makes : MakesStep world n stamp source event) where
  abbrev book : BookValue
  book = book_in o world

  abbrev now : BookValue
  now = book_then o world n stamp free event

  abbrev after : World
  after = step_with world n stamp free source (Some event)

  abbrev log : List Record
  log = log_after (world.hosts n) (effects_of (world.hosts n).node event free)

  lawful : IsLawful book (step_entries P steps o world j n stamp free source event makes)
  lawful = step_lawful P steps o world j n stamp free source event makes

  well : LastsWell book
  well = lasts_ran world.journal (book_of o) (lasts_first (opened_from o 0 o.size) (opens_soundly o j.opens) (opening_named (opened_from o 0 o.size) (opened_numbered o 0 o.size))) j.lawful

  lasts_now : Lasts now
  lasts_now = subst Lasts (after_both world.journal (step_entries P steps o world j n stamp free source event makes) (book_of o))
      (in_runs o (world.journal ++ step_entries P steps o world j n stamp free source event makes) j.opens (lawful_both world.journal (step_entries P steps o world j n stamp free source event makes) (book_of o) j.lawful lawful))

  at : HoldsNodeAt now after n
  at = (held_then P steps unanimous o world j n stamp free source event makes).nodes n (step_low P steps o world j n stamp free source event makes)

  ups : after.channels.up n ≡ true
  ups = ap (λ (f : ℕ → Bool). f n) (up_all n stamp (effects_of (world.hosts n).node event free).messages (taken_by world n source) ∙ up_taken world n source) ∙ step_up P steps o world j n stamp free source event makes

  logs : (after.hosts n).log ≡ log
  logs = picked (n == n) (eqb-self n)
    where
      picked : (b : Bool) → b ≡ true → (if b then stepped_host stamp (after_step (world.hosts n).node event free) (effects_of (world.hosts n).node event free) (world.hosts n) else world.hosts n).log ≡ log_after (world.hosts n) (effects_of (world.hosts n).node event free)
      picked b is = rw is refl

  up : HoldsUp n now at.state (after.hosts n)
  up = at.runs ups

  -- what the log has then is committed after the step
  committed_then : (tid : Tid) → list_any (same_tid tid) (recovery log).committed ≡ true → HasCommitted now tid
  committed_then tid among = every_made now n up.log.state lasts_now up.log.there (recovery (after.hosts n).log).committed up.log.on_disk.commits tid (subst (λ (rs : List Record). list_any (same_tid tid) (recovery rs).committed ≡ true) (sym logs) among)

  aside : (k : ℕ) → (k == n) ≡ false → (tid : Tid) (tx : TransactionValue) → find_transaction book tid ≡ Some tx → (later : TransactionValue) × (find_transaction now tid ≡ Some later) × GoesAside k tid tx later
  aside k far tid tx found = goes_aside k (step_entries P steps o world j n stamp free source event makes) book well lawful (all (effects_of (world.hosts n).node event free).entries) tid tx found
    where
      all : (acts : List Act) → Every (λ (entry : Entry). (entry.node.0 == k) ≡ false) (entries_of n stamp acts)
      all [] = tt
      all (act ∷ acts) = (apart_turned k n far, all acts)

  -- what was committed is
  committed_on : (tid : Tid) → HasCommitted book tid → HasCommitted now tid
  committed_on tid was = by (find_transaction book tid) refl
    where
      by : (x : Option TransactionValue) → find_transaction book tid ≡ x → HasCommitted now tid
      by None none = absurd (cc (was, ap cell_of_transaction none))
      by (Some tx) found = let p = aside (n + 1) (apart_turned n (n + 1) (next_apart n)) tid tx found in ap cell_of_transaction p.1 ∙ (ap (λ (c : Cell). Some c) (p.2.shut (shut tx.cell cell)) ∙ ap (λ (c : Cell). Some c) cell)
        where
          some : Some tx.cell ≡ Some cells.Commit → tx.cell ≡ cells.Commit
          some e = cc e

          cell : tx.cell ≡ cells.Commit
          cell = some (sym (ap cell_of_transaction found) ∙ was)

          shut : (c : Cell) → c ≡ cells.Commit → is_open c ≡ false
          shut c is = rw is refl

  pub keeps_votes_so : KeptVotes n book (recovery log)
  keeps_votes_so = record {
    kinds = subst (λ (rs : List Record). Every (λ (vote : Prepared). machine.is_recoverable vote.server.0 ≡ true) (recovery rs).prepared) logs up.log.on_disk.kinds;
    marked = subst (λ (rs : List Record). Every (IsMarked (recovery rs)) (recovery rs).prepared) logs up.log.on_disk.marked;
    apart = subst (λ (rs : List Record). Every (IsApart (recovery rs)) (recovery rs).prepared) logs up.on_disk.apart;
    undone = each (recovery log).prepared (subst (λ (rs : List Record). Every (IsUndone n now) (recovery rs).prepared) logs up.on_disk.undone);
  }
    where
      each : (votes : List Prepared) → Every (IsUndone n now) votes → Every (IsUndone n book) votes
      each [] all = tt
      each (vote ∷ votes) all = (λ home named doubt was. all.0 home named doubt (committed_on vote.tid was), each votes all.1)

  module _ (tid : Tid) (done : HasCommitted now tid) where
    cell_then : (later : TransactionValue) → find_transaction now tid ≡ Some later → later.cell ≡ cells.Commit
    cell_then later there = one (sym (ap cell_of_transaction there) ∙ done)
      where
        one : Some later.cell ≡ Some cells.Commit → later.cell ≡ cells.Commit
        one e = cc e

    of_cell : (tx : TransactionValue) → find_transaction book tid ≡ Some tx → (c : Cell) → tx.cell ≡ c → is_committed n tid (Some tx) ≡ true
    of_cell tx found cells.Commit is = rw is refl
    of_cell tx found cells.Abort is = absurd (let p = aside (n + 1) (apart_turned n (n + 1) (next_apart n)) tid tx found in let stays : p.0.cell ≡ tx.cell = p.2.shut (rw is refl) in let then_is : p.0.cell ≡ cells.Commit = cell_then p.0 p.1 in cc (is, stays, then_is))
    of_cell tx found cells.Open is = by (tid.home.0 == n) refl
      where
        by : (b : Bool) → (tid.home.0 == n) ≡ b → is_committed n tid (Some tx) ≡ true
        by true near = rw (is, near, unanimous_earlier tid n stamp (world.hosts n).node event free book well.inv lawful done tx found (rw is refl)) refl
        by false far = absurd (let p = aside tid.home.0 far tid tx found in let stays : p.0.cell ≡ tx.cell = p.2.cell refl in let then_is : p.0.cell ≡ cells.Commit = cell_then p.0 p.1 in cc (is, stays, then_is))

    of_found : (x : Option TransactionValue) → find_transaction book tid ≡ x → is_committed n tid x ≡ true
    of_found None none = absurd (stood_earlier tid n stamp (world.hosts n).node event free book well.inv lawful done none)
    of_found (Some tx) found = of_cell tx found tx.cell refl

  pub keeps : (state : machine.NodeValue) → Every (IsCommitLogged n book state) (recovery log).committed
  keeps state = each (recovery log).committed (λ tid is. is)
    where
      first : (t : Tid) (ts : List Tid) → list_any (same_tid t) (t ∷ ts) ≡ true
      first t ts = rw (same_tid-self t) refl

      behind : (tid t : Tid) (ts : List Tid) → list_any (same_tid tid) ts ≡ true → list_any (same_tid tid) (t ∷ ts) ≡ true
      behind tid t ts is = rw is (or-true (same_tid tid t))

      each : (tids : List Tid) → ((tid : Tid) → list_any (same_tid tid) tids ≡ true → list_any (same_tid tid) (recovery log).committed ≡ true) → Every (IsCommitLogged n book state) tids
      each [] sub = tt
      each (t ∷ tids) sub = (inr (of_found t (committed_then t (sub t (first t tids))) (find_transaction book t) refl), each tids (λ tid is. sub tid (behind tid t tids is)))

pub keeps_commits : EachKeepsCommits PlacesAt
keeps_commits o world n stamp free source event j makes state = keeps PlacesAt whole_steps steps_stay_unanimous o world n stamp free source event j makes state

pub keeps_votes : EachKeepsVotes PlacesAt
keeps_votes o world n stamp free source event j makes = keeps_votes_so PlacesAt whole_steps steps_stay_unanimous o world n stamp free source event j makes
