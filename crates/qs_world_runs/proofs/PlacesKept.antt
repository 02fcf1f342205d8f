-- What all places hold through every move but a whole step.
use Rattle.qs_world_runs.proofs.Words.{Cut, Meet, Rise, Step, Stop, PlacesAt}
use Rattle.qs_world_runs.specs.PlacesLaws.{KeepsPlaces}
use Rattle.qs_world_runs.proofs.CutUnanimous.{cuts_unanimous}
use Rattle.qs_world_runs.proofs.JoinedAs.{placed_joined}
use Rattle.qs_world_runs.proofs.PlacesMeet.{meet_places}
use Rattle.qs_world_runs.proofs.PlacesRise.{rise_places}
use Rattle.qs_world_runs.proofs.PlacesStop.{cut_places, stop_places}
use Rattle.qs_world_runs.proofs.WholeSteps.{whole_steps}

pub keeps_places : KeepsPlaces
keeps_places o world (Step n stamp free source) between j may lawful = absurd between
keeps_places o world (Cut n stamp free source is_kept cause) between j may lawful = cut_places o world j n stamp free source is_kept cause may (λ event comes. cuts_unanimous PlacesAt whole_steps o world n stamp free source is_kept cause event (placed_joined o world j) may comes)
keeps_places o world (Stop n stamp cause) between j may lawful = stop_places o world j n stamp cause may
keeps_places o world (Rise n stamp inc) between j may lawful = λ tid begun. rise_places o world j n stamp inc may tid begun
keeps_places o world (Meet n stamp m inc) between j may lawful = meet_places o world j n stamp m inc may
