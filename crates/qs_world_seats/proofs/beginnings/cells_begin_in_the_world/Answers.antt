use Rattle.qs_world_seats.proofs.Begins.{each_begins, each_rises, each_stays_down}
use Rattle.qs_world_seats.proofs.beginnings.cells_begin_in_the_world.Goals as goal

pub returns : goal.returns
returns g c = record {
  begins = λ o n alloc given crashes points log new. each_begins o n alloc given crashes points log new;
  rises = λ o n alloc old new world. each_rises o n alloc old new world;
  stays_down = λ o n old new log world. each_stays_down o n old new log world;
}
