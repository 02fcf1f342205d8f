use Rattle.qs_world_seats.proofs.Followed.{each_followed}
use Rattle.qs_world_seats.proofs.Stops.{each_cut, each_replaced}
use Rattle.qs_world_seats.proofs.Wholes.{each_whole}
use Rattle.qs_world_seats.proofs.events.events_go_on_in_the_world.Goals as goal

pub returns : goal.returns
returns g c = record {
  whole = λ o n size occasion sessions old new said world. each_whole o n size occasion sessions old new said world;
  followed = λ o n size occasion sessions old new said world. each_followed o n size occasion sessions old new said world;
  replaced = λ o n size occasion sessions old new world. each_replaced o n size occasion sessions old new world;
  cut = λ o n own size occasion sessions old new world. each_cut o n own size occasion sessions old new world;
}
