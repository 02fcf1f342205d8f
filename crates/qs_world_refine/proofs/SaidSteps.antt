-- A whole step leaves a node sound over its log, and in its place.
use Rattle.qs_world_refine.proofs.Words.{◌≡◌, ◌⊎◌, ℕ, true, false, List, ◌++◌, fold, sym, ap, subst, ◌∙◌, list_all, list_any, fold-append, Tid, same_node, Record, Recovery, recovery, found_record, nothing_said, is_forced, NodeValue, work_on, happen, accept, after_step, effects_of, step_work, lists_others, AreSaid, SaysOn, BeginsNew, has_doubt, is_sound, is_sound_said, MayHappen, commands_in_run, begun, is_whole_log, AreListed}
use Rattle.qs_node_step.specs.declared.event.Event.{Event}
use Rattle.qs_world_refine.specs.SaidLaws.{is_prepare_of, StepSaid, StepSeated, StepForces, StepOpen}
use Rattle.qs_world_refine.specs.SoundSteps.{settled}
use Rattle.qs_world_refine.proofs.SaysOn.{on_then}
use Rattle.qs_world_refine.proofs.SaysSeen.{said_seen, seen_said}
use Rattle.qs_world_refine.proofs.SaysSettles.{begin_incarnation_on, settle_on}
use Rattle.qs_world_refine.proofs.SaysStep.{happen_on, answer_waiting_on}
use Rattle.qs_world_refine.proofs.SoundHappen.{happen_sound}
use Rattle.qs_world_refine.proofs.SoundRestart.{begin_incarnation_sound}
use Rattle.qs_world_refine.proofs.SoundStep.{step_sound}
use Rattle.qs_world_refine.proofs.SoundViews.{seen}
use Rattle.qs_world.specs.Openings.{is_commit_of}

pub step_on : (node : NodeValue) (event : Event) (free : ℕ) → MayHappen event (begun node free) → BeginsNew event (begun node free) → is_sound node ≡ true → SaysOn (work_on node free) (step_work node event free)
step_on node event free may new sound =
    on_then (begin_incarnation_on (work_on node free))
    (on_then (happen_on event (begun node free) may new (seen (begun node free).node begun_sound).ordered)
    (on_then (settle_on (happen event (begun node free)) (happen_sound event (begun node free) may begun_sound)) (answer_waiting_on (settled node event free))))
  where
    begun_sound : is_sound (begun node free).node ≡ true
    begun_sound = begin_incarnation_sound (work_on node free) sound

pub step_seated : StepSeated
step_seated node event free may new sound = (step_on node event free may new sound).setting

-- what is kept for clients is not read
accepted : (node : NodeValue) (said : Recovery) → AreSaid node said → AreSaid (accept node) said
accepted node said is tid = record { prepared = (is tid).prepared; listed = (is tid).listed }

pub step_said : StepSaid
step_said node event free log may new in_run sound said =
    seen_said (after_step node event free) (recovery (log ++ (effects_of node event free).records)) (step_sound node event free may in_run sound)
    (subst (λ (r : Recovery). AreSaid (after_step node event free) r) (sym log_is) (accepted (step_work node event free).node (fold found_record (recovery log) on.more) (on.said (recovery log) (said_seen node (recovery log) sound said))))
  where
    on : SaysOn (work_on node free) (step_work node event free)
    on = step_on node event free may new sound

    log_is : recovery (log ++ (effects_of node event free).records) ≡ fold found_record (recovery log) on.more
    log_is = ap (λ (records : List Record). recovery (log ++ records)) on.records ∙ fold-append found_record nothing_said log on.more

-- whom a Commit names that is in the log, with the step's records, the node is to tell then
pub step_lists : (node : NodeValue) (event : Event) (free : ℕ) (log : List Record) → MayHappen event (begun node free) → BeginsNew event (begun node free) → is_sound node ≡ true → is_sound_said node (recovery log) ≡ true → AreListed node (recovery log)
    → AreListed (after_step node event free) (recovery (log ++ (effects_of node event free).records))
step_lists node event free log may new sound said listed =
    subst (λ (r : Recovery). AreListed (after_step node event free) r) (sym log_is) (record { named = after.named; taken = after.taken })
  where
    on : SaysOn (work_on node free) (step_work node event free)
    on = step_on node event free may new sound

    after : AreListed (step_work node event free).node (fold found_record (recovery log) on.more)
    after = on.lists (recovery log) (said_seen node (recovery log) sound said) listed

    log_is : recovery (log ++ (effects_of node event free).records) ≡ fold found_record (recovery log) on.more
    log_is = ap (λ (records : List Record). recovery (log ++ records)) on.records ∙ fold-append found_record nothing_said log on.more

-- and a log that a restart can take up whole is such with the step's records
pub step_whole : (node : NodeValue) (event : Event) (free : ℕ) (log : List Record) → MayHappen event (begun node free) → BeginsNew event (begun node free) → is_sound node ≡ true → is_sound_said node (recovery log) ≡ true → is_whole_log (recovery log) ≡ true
    → is_whole_log (recovery (log ++ (effects_of node event free).records)) ≡ true
step_whole node event free log may new sound said whole = subst (λ (r : Recovery). is_whole_log r ≡ true) (sym log_is) (on.whole (recovery log) (said_seen node (recovery log) sound said) whole)
  where
    on : SaysOn (work_on node free) (step_work node event free)
    on = step_on node event free may new sound

    log_is : recovery (log ++ (effects_of node event free).records) ≡ fold found_record (recovery log) on.more
    log_is = ap (λ (records : List Record). recovery (log ++ records)) on.records ∙ fold-append found_record nothing_said log on.more

pub step_others : (node : NodeValue) (event : Event) (free : ℕ) → MayHappen event (begun node free) → BeginsNew event (begun node free) → is_sound node ≡ true → list_all lists_others (effects_of node event free).records ≡ true
step_others node event free may new sound = ap (λ (records : List Record). list_all lists_others records) (step_on node event free may new sound).records ∙ (step_on node event free may new sound).others

-- and of what began elsewhere it commits only what was in doubt, or what it prepares
pub step_owns : (node : NodeValue) (event : Event) (free : ℕ) (log : List Record) → MayHappen event (begun node free) → BeginsNew event (begun node free) → is_sound node ≡ true → is_sound_said node (recovery log) ≡ true
    → (t : Tid) → same_node t.home node.setting.node ≡ false → list_any (is_commit_of t) (effects_of node event free).records ≡ true
    → (has_doubt t (recovery log) ≡ true) ⊎ (list_any (is_prepare_of t) (effects_of node event free).records ≡ true)
step_owns node event free log may new sound said t off any =
    subst (λ (records : List Record). (has_doubt t (recovery log) ≡ true) ⊎ (list_any (is_prepare_of t) records ≡ true)) (sym on.records)
    (on.own (recovery log) (said_seen node (recovery log) sound said) t off (subst (λ (records : List Record). list_any (is_commit_of t) records ≡ true) on.records any))
  where
    on : SaysOn (work_on node free) (step_work node event free)
    on = step_on node event free may new sound

pub step_forces : StepForces
step_forces node event free may new sound = on.forced ∙ ap (λ (records : List Record). list_any is_forced records) (sym on.records)
  where
    on : SaysOn (work_on node free) (step_work node event free)
    on = step_on node event free may new sound

pub step_open : StepOpen
step_open node event free may new sound is = (before, (answer_waiting_on (settled node event free)).commands before)
  where
    begun_sound : is_sound (begun node free).node ≡ true
    begun_sound = begin_incarnation_sound (work_on node free) sound

    before : commands_in_run (settled node event free).node ≡ true
    before = (settle_on (happen event (begun node free)) (happen_sound event (begun node free) may begun_sound)).commands
        ((happen_on event (begun node free) may new (seen (begun node free).node begun_sound).ordered).commands ((begin_incarnation_on (work_on node free)).commands is))
