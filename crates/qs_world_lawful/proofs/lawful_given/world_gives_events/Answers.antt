use Rattle.qs_world_lawful.proofs.GivenEvents.{event_comes}
use Rattle.qs_world_lawful.proofs.lawful_given.world_gives_events.Goals as goal

pub returns : goal.returns
returns c = event_comes
