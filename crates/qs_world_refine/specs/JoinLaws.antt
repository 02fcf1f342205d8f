-- The last of a whole step: records that need not be forced reach the disk with those that must.
use Rattle.std.specs.Prelude.{◌≡◌, ℕ, ◌<◌, ◌&&◌, ◌||◌, not, Bool, true, List, [], ◌∷◌, ◌++◌}
use Rattle.std.specs.List.{filter, list_any}
use Rattle.qs_base.specs.declared.identifiers.Tid.{Tid}
use Rattle.qs_record.specs.declared.record.Record.{Record}
use Rattle.qs_node_step.specs.Bringing.{is_forced}
use Rattle.qs_node_step.specs.Step.{effects_of, step_work}
use Rattle.qs_node_step.specs.declared.event.Event.{Event}
use Rattle.qs_world.specs.Moves.{Source}
use Rattle.qs_world.specs.World.{World}
use Rattle.qs_world_agree.specs.World as machine
use Rattle.qs_world_agree.specs.Carry.{Leads}
use Rattle.qs_world_refine.specs.MoveLaws.{IsSeated, AllClose, ShowsWorld, taken_scene, StepShown, is_record_of}
use Rattle.qs_world_refine.specs.Places.{place}
use Rattle.qs_world_refine.specs.Shows.{Shows}
use Rattle.qs_world_refine.specs.StepLaws.{stepped}

abbrev pub is_loose : Record → Bool
is_loose rec = not (is_forced rec)

abbrev pub is_loose_of : Tid → Record → Bool
is_loose_of tid rec = is_record_of tid rec && is_loose rec

abbrev pub is_forced_of : Tid → Record → Bool
is_forced_of tid rec = is_record_of tid rec && is_forced rec

-- of the transaction no record that must be forced stands behind one that need not
abbrev pub are_in_turn : Tid → List Record → Bool
are_in_turn tid [] = true
are_in_turn tid (rec ∷ rest) = (not (is_loose_of tid rec) || not (list_any (is_forced_of tid) rest)) && are_in_turn tid rest

-- a step goes on to what shows the world with those of its records on the disk that must be forced, and the others may close
pub record StepForced (tid : Tid) (world : World) (n free : ℕ) (source : Source) (event : Event) (w : machine.World) : Type 0 where
  pub next : machine.World
  pub leads : Leads w next
  pub shown : Shows tid (stepped (taken_scene world n source) n (step_work (world.hosts n).node event free) ((world.hosts n).log ++ filter is_forced (effects_of (world.hosts n).node event free).records)) next
  pub closes : AllClose tid n (place n (world.channels.inc n)) next (filter is_loose (effects_of (world.hosts n).node event free).records)

-- then it goes on to what shows the world after it: Abort_logged and End for those that a force takes along
abbrev pub StepCloses : Type 0
StepCloses = (tid : Tid) (world : World) (n free : ℕ) (source : Source) (event : Event) (w : machine.World) → IsSeated world → tid.home.0 < world.size → n < world.size → world.channels.up n ≡ true → ShowsWorld tid world w
    → (effects_of (world.hosts n).node event free).force ≡ list_any is_forced (effects_of (world.hosts n).node event free).records
    → are_in_turn tid ((world.hosts n).waiting ++ (effects_of (world.hosts n).node event free).records) ≡ true
    → StepForced tid world n free source event w → StepShown tid world n free source event w
