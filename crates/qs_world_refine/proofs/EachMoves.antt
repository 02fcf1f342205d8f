-- A step for a transaction that has begun, made or cut off: whatever its event is, what shows it before shows it after.
use Rattle.qs_world_refine.proofs.Words.{◌≡◌, ℕ, ◌<◌, Bool, true, Some, Tid, CrashCause, Source, event_of, step_with, cut_with, ShowsAll, AllGoes, MessagesFit, BeginsNew, MayHappen, begun, IsSteady, HasBegun}
use Rattle.qs_node_step.specs.declared.event.Event.{Event}
use Rattle.qs_world.specs.Moves.{may_serve}
use Rattle.qs_world.specs.World.{World}
use Rattle.qs_world_agree.specs.World as machine
use Rattle.qs_world_refine.proofs.EachEvent.{StepCame, step_came}
use Rattle.qs_world_refine.proofs.EachMay.{each_may_come}
use Rattle.qs_world_refine.proofs.StepAll as step

module _ (t : Tid) (world : World) (w : machine.World) (steady : IsSteady world) (fits : MessagesFit world) (home_in : t.home.0 < world.size) (began : HasBegun world t) (all : ShowsAll t world w)
    (n stamp free : ℕ) (source : Source) (event : Event) (n_in : n < world.size) (on : world.channels.up n ≡ true) (serves : may_serve (world.hosts n).node source ≡ true) (is : event_of world n stamp source ≡ Some event) where
  came : StepCame t world n free source event w
  came = step_came t world w steady home_in began all fits n free n_in on stamp source event serves is

  may : MayHappen event (begun (world.hosts n).node free) × BeginsNew event (begun (world.hosts n).node free)
  may = each_may_come world n stamp free source event steady fits n_in on is

  pub step_goes_on : AllGoes t (step_with world n stamp free source (Some event)) w
  step_goes_on = step.step_goes_on t world w steady home_in all n stamp free n_in on source event is came may

  pub cut_goes_on : (is_kept : Bool) (cause : CrashCause) → AllGoes t (cut_with world n stamp free is_kept cause (Some event)) w
  cut_goes_on is_kept cause = step.cut_goes_on t world w steady home_in all n stamp free n_in on source event is came may is_kept cause
