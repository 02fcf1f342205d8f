-- What cells tell over links that keep their plans is traced.
use Rattle.std.proofs.Common.{◌≡◌, ℕ, ◌<◌, List, sym, ap, subst, ◌∙◌}
use Rattle.qs_book_journal.specs.Merge.{IsMerged}
use Rattle.qs_book_journal.specs.declared.entry.Entry.{Entry}
use Rattle.qs_link.specs.declared.outgoing.LinkFault.{LinkFault}
use Rattle.qs_node_step.specs.declared.trace.Step.{Step}
use Rattle.qs_world.specs.World.{Opening}
use Rattle.qs_world_merge.specs.MergedByKey.{IsMergedBy, of_node}
use Rattle.qs_world_merge.specs.Observed.{AreOfLocalRuns, IsOfOneRun, journals_of}
use Rattle.qs_world_merge.specs.StepMoves.{step_key}
use Rattle.qs_world_merge.proofs.OfOneRun.{each_is_of_one_run}
use Rattle.qs_world_traces.specs.Links.{IsTakenByPlan, KeepPlans, observed_by, put_to, took_from}
use Rattle.qs_world_traces.specs.Traced.{EachTraced, IsTraceOfRun, LinksKeepPlans}
use Rattle.qs_world_traces.proofs.LinksBring.{each_link_brings}

module _ (o : Opening) (plans : ℕ → ℕ → List LinkFault) (journals : ℕ → List Entry) (traces : ℕ → List Step) (local : AreOfLocalRuns o (λ n. observed_by (journals n) (traces n))) (keep : KeepPlans o.size plans traces)
    (journal : List Entry) (trace : List Step) (entries : IsMerged (journals_of o.size (λ n. observed_by (journals n) (traces n))) journal) (steps : IsMergedBy step_key o.size traces trace) where
  one : IsOfOneRun o (λ n. observed_by (journals n) (traces n)) local
  one = each_is_of_one_run o (λ n. observed_by (journals n) (traces n)) local (each_link_brings o.size plans journals traces keep)

  is_run : IsTraceOfRun o journal trace
  is_run = record {
    steps = one.steps;
    are = one.are;
    trace_is = one.trace trace steps;
    moves = one.moves;
    alike = one.alike;
    world = one.world;
    run = one.run;
    events = one.events;
    journal_is = one.journal journal entries;
  }

  own : (n : ℕ) → n < o.size → traces n ≡ of_node step_key n trace
  own n in_run = sym (one.own n in_run) ∙ ap (λ (l : List Step). of_node step_key n l) (one.trace trace steps)

  links : LinksKeepPlans o.size plans trace
  links n m in_run also other =
      subst (λ (l : List Step). IsTakenByPlan (plans m n) (put_to n l) (took_from m (of_node step_key n trace))) (own m also)
      (subst (λ (l : List Step). IsTakenByPlan (plans m n) (put_to n (traces m)) (took_from m l)) (own n in_run) (keep n m in_run also other))

pub each_traced : EachTraced
each_traced o plans journals traces local keep journal trace entries steps = record {
  run = is_run o plans journals traces local keep journal trace entries steps;
  links = links o plans journals traces local keep journal trace entries steps;
}
