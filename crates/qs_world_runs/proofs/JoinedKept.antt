-- After a whole step of a world in which all stands together, what its node keeps for its clients is as the machine has it.
use Rattle.qs_world_runs.proofs.Words.{◌≡◌, ℕ, ◌<◌, ◌==◌, Bool, true, Some, refl, ap, subst, ◌∙◌, arith, if◌then◌else◌, nat_tests, after_step, effects_of, Event, Setting, Source, Step, step_with, stepped_host, Host, Opening, World, inc_of, IsShownWorld, stage_of, IsTidyNode, each_begun_shown, move_shown, step_same, MakesStep, Joined, WholeSteps, book_then}
use Rattle.qs_node_step.specs.State.{NodeValue}
use Rattle.qs_world_lawful.specs.Worlds.{HoldsKept}
use Rattle.qs_world_runs.proofs.JoinedSteps.{step_holds, step_kept, step_lawful, step_low}
use Rattle.qs_world_runs.proofs.KeptAfter.{kept_so}
use Rattle.qs_world_runs.proofs.LabelsMoves.{steps_labels}

module _ (P : Opening → World → Type 0) (steps : WholeSteps P) (o : Opening) (world : World) (j : Joined P o world) (n stamp free : ℕ) (source : Source) (event : Event) (makes : MakesStep world n stamp source event) where
  abbrev node : NodeValue
  node = after_step (world.hosts n).node event free

  abbrev after : World
  after = step_with world n stamp free source (Some event)

  abbrev host : Host
  host = stepped_host stamp node (effects_of (world.hosts n).node event free) (world.hosts n)

  low : n < world.size
  low = step_low P steps o world j n stamp free source event makes

  shown : IsShownWorld after
  shown = subst IsShownWorld (ap (step_with world n stamp free source) makes.comes) (move_shown world (Step n stamp free source) makes.may j.shown (each_begun_shown world (Step n stamp free source) makes.may j.shown))

  host_is : after.hosts n ≡ host
  host_is = picked (n == n) (grind (arith, nat_tests))
    where
      picked : (b : Bool) → b ≡ true → (if b then host else world.hosts n) ≡ host
      picked b is = rw is refl

  tidy : IsTidyNode (stage_of after n) node
  tidy = subst (λ (h : Host). IsTidyNode (stage_of after n) h.node) host_is (shown.steady.nodes n low).tidy

  inc_is : node.setting.inc ≡ inc_of world n
  inc_is = ap (λ (s : Setting). s.inc) (step_same (world.hosts n).node event free) ∙ j.shown.steady.seated.inc n low

  pub step_clients : HoldsKept node.setting.node (inc_of world n) (book_then o world n stamp free event) node.kept.saved
  step_clients = subst (λ (i : ℕ). HoldsKept node.setting.node i (book_then o world n stamp free event) node.kept.saved) inc_is
      (kept_so stamp (book_then o world n stamp free event) (stage_of after n) node (step_holds P steps o world j n stamp free source event makes)
      (step_kept P steps o world j n stamp free source event makes).beside (step_kept P steps o world j n stamp free source event makes).facts tidy
      (steps_labels P o world n stamp free source event j makes (step_lawful P steps o world j n stamp free source event makes)))
