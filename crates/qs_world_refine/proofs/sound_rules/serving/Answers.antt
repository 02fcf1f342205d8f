use Rattle.qs_world_refine.proofs.SoundRequest.{request_came_sound}
use Rattle.qs_world_refine.proofs.SoundServe.{serve_all_sound}
use Rattle.qs_world_refine.proofs.sound_rules.serving.Goals as goal

pub returns : goal.returns
returns c = record { request_came = request_came_sound; serve_all = serve_all_sound }
