use Rattle.qs_world_refine.proofs.StartGoes.{begin_goes, begin_leaves, begun_shown}
use Rattle.qs_world_refine.proofs.starts.begins.Goals as goal

pub returns : goal.returns
returns c = record { goes = begin_goes; leaves = begin_leaves; begun = begun_shown }
