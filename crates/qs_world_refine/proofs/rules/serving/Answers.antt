use Rattle.qs_world_refine.proofs.ServeGoes.{serve_law, lend_law}
use Rattle.qs_world_refine.proofs.rules.serving.Goals as goal

pub returns : goal.returns
returns c = record { serve = serve_law; lend = lend_law }
