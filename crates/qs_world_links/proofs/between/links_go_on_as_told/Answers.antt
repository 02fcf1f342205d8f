use Rattle.qs_world_links.proofs.Linked.{each_put, each_taken}
use Rattle.qs_world_links.proofs.between.links_go_on_as_told.Goals as goal

pub returns : goal.returns
returns g c = record { put = λ nodes m n old new. each_put nodes m n old new; taken = λ nodes m n old new. each_taken nodes m n old new }
