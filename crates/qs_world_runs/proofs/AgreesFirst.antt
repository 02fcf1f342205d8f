-- A machine that shows a transaction before a step follows it: as the step begins, and once what comes is done.
use Rattle.qs_world_runs.proofs.Words.{◌≡◌, inl, ℕ, ◌<◌, Bool, true, false, [], refl, Tid, Work, work_on, happen, Event, Source, World, leads_on, ShowsAll, place, Scene, scene_of, IsSteady, case_of, StepCame, begin_incarnation_sound, seen}
use Rattle.qs_node_step.specs.State.{NodeValue}
use Rattle.qs_world_agree.specs.World as machine
use Rattle.qs_world_refine.specs.SoundSteps.{begun}
use Rattle.qs_world_refine.proofs.EachHears.{first}
use Rattle.qs_world_refine.proofs.TurnEvents.{happen_on}
use Rattle.qs_world_refine.proofs.TurnOn.{KeptSo}
use Rattle.qs_world_refine.proofs.TurnSettles.{begin_incarnation_on}
use Rattle.qs_world_runs.proofs.AgreesStage.{AtStage}

-- ---- a machine that shows the transaction before the step, at a stage of it

pub record Follows (world : World) (n : ℕ) (work : Work) (t : Tid) : Type 0 where
  pub machine : machine.World
  pub home_in : t.home.0 < world.size
  pub shows : ShowsAll t world machine
  pub later : Scene
  pub ends : Bool
  pub at : AtStage t world machine n later ends work

-- ---- as the step begins, and once what comes is done

module _ (t : Tid) (world : World) (w : machine.World) (steady : IsSteady world) (home_in : t.home.0 < world.size) (all : ShowsAll t world w) (n free : ℕ) (n_in : n < world.size) (on : world.channels.up n ≡ true) where
  abbrev node : NodeValue
  node = (world.hosts n).node

  -- what is kept as committed was so before
  kept_first : (ends : Bool) → KeptSo (case_of t world n ends w) (begun node free)
  kept_first ends = (begin_incarnation_on {k = case_of t world n ends w} (work_on node free)).kept (λ _ is. inl is)

  pub first_stage : AtStage t world w n (scene_of world) false (begun node free)
  first_stage = let goes = first t world w steady home_in all n free n_in on in record {
    now = goes.next;
    leads = goes.leads;
    stands = goes.stands;
    kept = kept_first false;
    ended = λ never. absurd (cc (never));
  }

  done_stage : (source : Source) (event : Event) (came : StepCame t world n free source event w) → AtStage t world w n came.later came.came.ends (happen event (begun node free))
  done_stage source event came = record {
    now = came.came.after.next;
    leads = leads_on w came.came.mid came.came.after.next came.came.leads came.came.after.leads;
    stands = came.came.after.stands;
    kept = (happen_on {k = case_of t world n came.came.ends came.came.after.next} event (begun node free)
        (came.came.comes came.came.after.next (happen event (begun node free)) (record { events = []; run = refl }) came.came.after.stands.shown)
        (seen (begun node free).node (begin_incarnation_sound (work_on node free) (steady.sound n n_in).node)).ordered).kept (kept_first came.came.ends);
    ended = λ so. came.came.after.stands.lawful.agreed.knows_commit (place n (world.channels.inc n)) (came.came.ended so).committed;
  }

  pub follows_first : Follows world n (begun node free) t
  follows_first = record { machine = w; home_in = home_in; shows = all; later = scene_of world; ends = false; at = first_stage }

  pub follows_done : (source : Source) (event : Event) → StepCame t world n free source event w → Follows world n (happen event (begun node free)) t
  follows_done source event came = record { machine = w; home_in = home_in; shows = all; later = came.later; ends = came.came.ends; at = done_stage source event came }
