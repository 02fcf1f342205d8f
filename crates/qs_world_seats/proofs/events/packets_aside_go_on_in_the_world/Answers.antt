use Rattle.qs_world_seats.proofs.Asides.{each_aside, each_aside_replaced}
use Rattle.qs_world_seats.proofs.events.packets_aside_go_on_in_the_world.Goals as goal

pub returns : goal.returns
returns g c = record {
  aside = λ o n packet sessions old new world. each_aside o n packet sessions old new world;
  replaced = λ o n packet sessions old new world. each_aside_replaced o n packet sessions old new world;
}
