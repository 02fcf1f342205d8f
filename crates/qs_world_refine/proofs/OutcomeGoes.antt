-- The laws of decisions and of how they are told and taken in, each from its file.
use Rattle.qs_world_refine.proofs.Words.{place}
use Rattle.qs_world_refine.specs.OutcomeLaws.{CommitAloneGoes}
use Rattle.qs_world_refine.proofs.CommittingAlone as alone
use Rattle.qs_world_refine.proofs.EventGoes.{undecided_cell}
use Rattle.qs_world_refine.proofs.Facts.{invariant}

pub commit_alone : CommitAloneGoes
commit_alone tid x w lawful shown at first_home is_home ready nobody =
    let counts = (invariant w lawful).counts.covered_sent (place tid.home.0 (x.inc tid.home.0)) in
    let undecided = undecided_cell tid x w lawful shown at first_home ready.undecided in
    record {
      next = alone.v tid x w shown at.in_run at.up first_home is_home ready nobody counts undecided;
      leads = alone.leads tid x w shown at.in_run at.up first_home is_home ready nobody counts undecided;
      shown = alone.after tid x w shown at.in_run at.up first_home is_home ready nobody counts undecided;
    }
