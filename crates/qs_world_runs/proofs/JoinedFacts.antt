-- What holds of each node by itself holds as a run begins, and after each move, whether the node runs or not.
use Rattle.qs_world_runs.proofs.Words.{◌≡◌, ℕ, ◌<◌, ◌==◌, ◌&&◌, Bool, true, false, Option, Some, None, refl, sym, ap, subst, ◌∙◌, arith, nat_lt, nat_le, zero, suc, if◌then◌else◌, list_all, eqb-true, nat_tests, no_kept, ScriptLine, recovered_of, after_step, Event, Setting, Clock, Commanded, Handed, Noticed, Queues, Source, command_of, event_of, IsOpening, are_rising, each_below, is_age, is_audit, labels_begun, next_line, next_parcel, Opening, Parcel, World, known_of, start, FitsEvent}
use Rattle.qs_world_runs.proofs.Words.{HasNodeFacts, HoldsScripts, same_Some}
use Rattle.qs_node_kept.specs.declared.kept.Kept.{Kept}
use Rattle.qs_node_step.specs.State.{NodeValue}
use Rattle.qs_node_step.specs.declared.event.Event.TheVariants as events
use Rattle.qs_world.specs.Moves as moves
use Rattle.qs_world.specs.Moves.{reopened}
use Rattle.qs_world.specs.Openings.{is_format, is_line, is_script, is_setting}
use Rattle.qs_world_refine.proofs.SoundParts.{and_both}
use Rattle.qs_world_lawful.specs.Coming.{ComesLine}
use Rattle.qs_world_lawful.specs.NodeFacts.{AreHomed, IsSetIn}
use Rattle.qs_world_lawful.proofs.FactsOpened.{opened_facts}
use Rattle.qs_world_lawful.proofs.FactsStages.{step_keeps}
use Rattle.qs_world_lawful.proofs.GivenByWorld.{line_comes}

-- a test of each number below one
pub below_all : (count : ℕ) (test : ℕ → Bool) (k : ℕ) → each_below count test ≡ true → nat_lt k count ≡ true → test k ≡ true
below_all zero test k all below = absurd (no k below)
  where
    no : (i : ℕ) → nat_lt i 0 ≡ true → ⊥
    no i is = grind (arith, nat_tests, is)
below_all (suc count) test k all below = by (k == count) refl (below_all count test k (and_both (test count) _ all).1)
  where
    lower : (k == count) ≡ false → nat_lt k count ≡ true
    lower other = grind (arith, nat_tests, other, below)

    by : (b : Bool) → (k == count) ≡ b → (nat_lt k count ≡ true → test k ≡ true) → test k ≡ true
    by true is rest = ap test (eqb-true k count is) ∙ (and_both (test count) _ all).0
    by false is rest = rest (lower is)

-- ---- as a run begins

module _ (o : Opening) (opens : IsOpening o) (n : ℕ) (low : n < o.size) where
  setting : Setting
  setting = o.settings n

  whole : is_setting o.size n (o.settings n) ≡ true
  whole = below_all o.size (λ k. is_setting o.size k (o.settings k)) n opens.settings (grind (arith, nat_tests, low))

  sized : (o.settings n).nodes ≡ o.size
  sized = eqb-true (o.settings n).nodes o.size (and_both ((o.settings n).node.0 == n) ((o.settings n).nodes == o.size) (and_both (((o.settings n).node.0 == n) && ((o.settings n).nodes == o.size)) _ whole).0).1

  rest : ((is_age (o.settings n).age && (is_format (o.settings n).extra (o.settings n).keep && is_audit o.size (o.settings n).audit))) ≡ true
  rest = (and_both (nat_lt 0 (o.settings n).inc) _ (and_both (((o.settings n).node.0 == n) && ((o.settings n).nodes == o.size)) _ whole).1).1

  set_in : IsSetIn (o.settings n)
  set_in = record {
    small = subst (λ (k : ℕ). nat_le k 16 ≡ true) (sym sized) (and_both (nat_le 1 o.size) (nat_le o.size 16) opens.size).1;
    audit = subst (λ (k : ℕ). is_audit k (o.settings n).audit ≡ true) (sym sized) (and_both (is_format (o.settings n).extra (o.settings n).keep) (is_audit o.size (o.settings n).audit) (and_both (is_age (o.settings n).age) _ rest).1).1;
    age = (and_both (is_age (o.settings n).age) _ rest).0;
  }

  pub opens_facts : HasNodeFacts ((start o).hosts n).node
  opens_facts = opened_facts o.alloc (o.settings n) (recovered_of (o.logs n)) no_kept set_in (λ label begun tid client found begins owned. absurd (cc found))

-- ---- after a restart

pub rises_facts : (node : NodeValue) (inc : ℕ) (found : Rattle.qs_restart.specs.declared.recovered.Recovered.Recovered) → node.kept.saved ≡ node.kept.now → HasNodeFacts node → HasNodeFacts (reopened inc found node)
rises_facts node inc found same facts = opened_facts node.manager.alloc (record node.setting { inc = inc }) found node.kept.saved (record { small = facts.setting.small; audit = facts.setting.audit; age = facts.setting.age })
    (subst (λ (kept : Kept). AreHomed node.setting.node kept) (sym same) facts.labels.homed)

-- ---- after a step, whose command fits the run

module _ (o : Opening) (opens : IsOpening o) (book : Rattle.qs_book_machine.specs.Book.BookValue) (world : World) (n stamp free : ℕ) (scripts : HoldsScripts o book world) (sized : world.size ≡ o.size) (low : n < world.size) (up : world.channels.up n ≡ true)
    (nodes : (world.hosts n).node.setting.nodes ≡ world.size) where
  pub formed : (k : ℕ) → nat_lt k 64 ≡ true → list_all (is_line world.size k (labels_begun (o.clients k).1)) (o.clients k).1 ≡ true
  formed k small = subst (λ (size : ℕ). list_all (is_line size k (labels_begun (o.clients k).1)) (o.clients k).1 ≡ true) (sym sized)
      (and_both (are_rising 0 (o.clients k).1) _ (and_both (nat_lt (o.clients k).0 o.size) _ (below_all 64 (λ k. is_script o.size k (o.clients k)) k opens.scripts small)).1).1

  abbrev Fits : Event → Type 0
  Fits event = FitsEvent (world.hosts n).node.setting event

  commanded : (k : ℕ) (event : Event) (b : Bool) → (nat_lt k 64 && ((world.clients k).at == n)) ≡ b → (line : Option ScriptLine) → next_line (world.clients k) ≡ line
      → (if b then elim line [ None ↦ None | Some l ↦ Some (command_of l) ] else None) ≡ Some event → Fits event
  commanded k event false test line next is = absurd (cc is)
  commanded k event true test None next is = absurd (cc is)
  commanded k event true test (Some line) next is = subst Fits (same_Some (command_of line) event is) (comes.small, comes.fits)
    where
      tests : (nat_lt k 64 ≡ true) × (((world.clients k).at == n) ≡ true)
      tests = and_both (nat_lt k 64) ((world.clients k).at == n) test

      comes : ComesLine book (world.hosts n).node line
      comes = line_comes o book world k n (scripts.clients k tests.0) tests.0 (grind (arith, nat_tests, low)) up (eqb-true (world.clients k).at n tests.1) nodes (formed k tests.0) line next

  pub event_fits_run : (source : Source) (event : Event) → event_of world n stamp source ≡ Some event → Fits event
  event_fits_run (Commanded k) event is = commanded k event (nat_lt k 64 && ((world.clients k).at == n)) refl (next_line (world.clients k)) refl is
  event_fits_run (Handed m) event is = by (next_parcel world n m) is
    where
      by : (p : Option Parcel) → elim p [ None ↦ None | Some parcel ↦ if nat_lt parcel.stamp stamp then Some (events.Received (moves.node_no m) parcel.message) else None ] ≡ Some event → Fits event
      by None is = absurd (cc is)
      by (Some parcel) is = at (nat_lt parcel.stamp stamp) is
        where
          at : (b : Bool) → (if b then Some (events.Received (moves.node_no m) parcel.message) else None) ≡ Some event → Fits event
          at true is = subst Fits (same_Some (events.Received (moves.node_no m) parcel.message) event is) tt
          at false is = absurd (cc is)
  event_fits_run Queues event is = subst Fits (same_Some events.ServeAll event is) tt
  event_fits_run Clock event is = subst Fits (same_Some events.Tick event is) tt
  event_fits_run (Noticed m new) event is = by (nat_lt 0 (known_of world n m) && (nat_lt (known_of world n m) new && moves.has_begun world stamp m new)) is
    where
      by : (b : Bool) → (if b then Some (events.PeerRestarted (moves.node_no m) (known_of world n m) new) else None) ≡ Some event → Fits event
      by true is = subst Fits (same_Some (events.PeerRestarted (moves.node_no m) (known_of world n m) new) event is) tt
      by false is = absurd (cc is)

  pub steps_facts : (source : Source) (event : Event) → event_of world n stamp source ≡ Some event → HasNodeFacts (world.hosts n).node → HasNodeFacts (after_step (world.hosts n).node event free)
  steps_facts source event is facts = step_keeps (world.hosts n).node event free (event_fits_run source event is) facts
