-- The openings of the runs that are shown are such as a run may begin with.
use Rattle.std.specs.Global.{Global}
use Rattle.qs_world.specs.Openings.{IsOpening}
use Rattle.qs_world.specs.Scenes.{alone}
use Rattle.qs_world.specs.OneNode.{commit_script, abort_script, volatile_script}
use Rattle.qs_world.specs.TwoNodes.{remote_script}
use Rattle.qs_world.specs.DrivenRuns.{late, taken}
use Rattle.qs_world.specs.Faults.{both}

pub record Opened (alloc : Global) : Type 0 where
  pub commit : IsOpening (alone alloc 1 commit_script)
  pub abort : IsOpening (alone alloc 1 abort_script)
  pub volatile : IsOpening (alone alloc 1 volatile_script)
  pub remote : IsOpening (alone alloc 2 remote_script)
  pub late : IsOpening (late alloc)
  pub taken : IsOpening (taken alloc)
  pub both : IsOpening (both alloc)
