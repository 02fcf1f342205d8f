use Rattle.qs_world_refine.proofs.RestartGoes.{rise}
use Rattle.qs_world_refine.proofs.RisenFaces.{risen_face}
use Rattle.qs_world_refine.proofs.moves.risings.Goals as goal

pub returns : goal.returns
returns c = record { face = risen_face; rise = rise }
