-- What stands together with what goes on along a run stands together with a part of that.
use Rattle.qs_world_runs.proofs.Words.{Opening, World, AlongRun, AwaitedAt, Joined, PlacesAt}

pub joined_as : (P Q : Opening → World → Type 0) (o : Opening) (world : World) → (P o world → Q o world) → Joined P o world → Joined Q o world
joined_as P Q o world less j = record {
  opens = j.opens;
  size = j.size;
  lawful = j.lawful;
  shown = j.shown;
  held = j.held;
  facts = j.facts;
  running = j.running;
  homes = j.homes;
  owners = j.owners;
  logged = j.logged;
  clocks = j.clocks;
  labels = j.labels;
  born = j.born;
  rooms = j.rooms;
  channels = j.channels;
  unmet = j.unmet;
  queued = j.queued;
  ways = j.ways;
  clients = j.clients;
  scripts = j.scripts;
  owing = j.owing;
  places = less j.places;
}

pub placed : (o : Opening) (world : World) → AwaitedAt o world → PlacesAt o world
placed o world awaited tid begun = (awaited tid begun).places

pub placed_joined : (o : Opening) (world : World) → Joined AwaitedAt o world → Joined PlacesAt o world
placed_joined o world = joined_as AwaitedAt PlacesAt o world (placed o world)

pub along_awaited : (o : Opening) (world : World) → Joined AlongRun o world → Joined AwaitedAt o world
along_awaited o world = joined_as AlongRun AwaitedAt o world (λ along. along.awaited)

pub along_placed : (o : Opening) (world : World) → Joined AlongRun o world → Joined PlacesAt o world
along_placed o world j = placed_joined o world (along_awaited o world j)
