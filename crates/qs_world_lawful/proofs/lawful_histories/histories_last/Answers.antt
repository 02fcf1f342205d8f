use Rattle.qs_world_lawful.proofs.LastsAlways.{always, in_runs}
use Rattle.qs_world_lawful.proofs.lawful_histories.histories_last.Goals as goal

pub returns : goal.returns
returns c = record { always = always; runs = in_runs }
