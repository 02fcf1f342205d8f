-- A whole step of a node of a run, all of it: its entries are lawful, what is held of the node is held after it, and channels hold what is so.
use Rattle.qs_world_lawful.proofs.Words.{◌≡◌, ◌++◌, ℕ, List, ap, sym, subst, ◌∙◌, length, Entry, after_both, BookValue, IsLawful, book_after, opening, after_step, effects_of, step_work, Event, Setting, entries_of, InRun, book_at, entries_so_far, Holds, StepOn}
use Rattle.qs_node_step.specs.State.{NodeValue}
use Rattle.qs_world_lawful.specs.StepKeeps.{KeptThen, StepKeeps, entered_by}
use Rattle.qs_world_lawful.proofs.BesideGoes.{joined}
use Rattle.qs_world_lawful.proofs.BesideSent.{channels_after, lawful_on}
use Rattle.qs_world_lawful.proofs.BesideWhole.{beside_after, held_after, logged_after, may_step_on}
use Rattle.qs_world_lawful.proofs.ComesFirst.{fits_so}
use Rattle.qs_world_lawful.proofs.FactsStages.{step_keeps}
use Rattle.qs_world_lawful.proofs.HomesStand.{homes_stand}
use Rattle.qs_world_lawful.proofs.SameSetting.{step_same}
use Rattle.qs_world_lawful.proofs.WholeStep.{by_whole_step}

-- a run goes on
pub run_on : (before : BookValue) (r : InRun before) (more : List Entry) → IsLawful before more → InRun (book_after before more)
run_on before r more lawful = record {
  opened = r.opened;
  history = r.history ++ more;
  coherent = r.coherent;
  lawful = joined r.history more (opening r.opened) r.lawful (subst (λ (b : BookValue). IsLawful b more) r.is lawful);
  is = ap (λ (b : BookValue). book_after b more) r.is ∙ sym (after_both r.history more (opening r.opened));
}

module _ (stamp : ℕ) (before : BookValue) (size : ℕ) (nodes : ℕ → NodeValue) (n : ℕ) (node : NodeValue) (event : Event) (free : ℕ) (s : StepOn stamp before size nodes n node event free) where
  same : entries_so_far stamp (step_work node event free) ≡ entered_by stamp node event free
  same = ap (λ (t : Setting). entries_of t.node.0 stamp (effects_of node event free).entries) (step_same node event free)

  kept : KeptThen stamp (book_at stamp before (step_work node event free)) size nodes n (after_step node event free)
  kept = record {
    in_run = run_on before s.in_run (entries_so_far stamp (step_work node event free)) (held_after stamp before size nodes n node event free s).lawful;
    holds = subst (λ (es : List Entry). Holds stamp (book_after before es) (after_step node event free)) (sym same) (by_whole_step stamp before node event free s.holds (may_step_on stamp before size nodes n node event free s)).1;
    facts = step_keeps node event free (fits_so before node free event s.comes) s.facts;
    beside = beside_after stamp before size nodes n node event free s;
    logged = logged_after stamp before size nodes n node event free s;
    homes = homes_stand stamp before size nodes n (step_work node event free) (ap (λ (t : Setting). t.node.0) (step_same node event free) ∙ s.at) (held_after stamp before size nodes n node event free s).lawful s.homes;
  }

  pub step_kept : length before.nodes ≡ size → StepKeeps stamp before size nodes n node event free
  step_kept whole = record {
    lawful = lawful_on stamp before size nodes n node event free s;
    kept = subst (λ (es : List Entry). KeptThen stamp (book_after before es) size nodes n (after_step node event free)) same kept;
    channels = channels_after stamp before size nodes n node event free s whole;
  }
