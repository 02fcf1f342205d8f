use Rattle.qs_world_refine.proofs.Asking.{yield}
use Rattle.qs_world_refine.proofs.EventGoes.{serve, serve_told, lend}
use Rattle.qs_world_refine.proofs.events.serving.Goals as goal

pub returns : goal.returns
returns c = record { serve = serve; serve_told = serve_told; lend = lend; give_back = yield }
