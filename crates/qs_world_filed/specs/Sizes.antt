-- The votes of a step are within the quota of their node, as the machine has what files hold at each of them.
use Rattle.std.specs.Prelude.{◌≡◌, ℕ}
use Rattle.qs_book_conformance.specs.Course.{CourseValue}
use Rattle.qs_book_conformance.specs.Files.{quota_at}
use Rattle.qs_node_step.specs.declared.event.Event.{Event}
use Rattle.qs_world.specs.Moves.{Source}
use Rattle.qs_world.specs.World.{Opening, World}
use Rattle.qs_world_course.specs.Kinds.{Keeps}
use Rattle.qs_world_runs.specs.Agrees.{MakesStep}
use Rattle.qs_world_runs.specs.AlongRun.{AlongRun}
use Rattle.qs_world_runs.specs.Joined.{Joined, book_in}
use Rattle.qs_world_runs.specs.JoinedLaws.{entries_in}
use Rattle.qs_world_filed.specs.Parts.{within_quotas}
use Rattle.qs_world_filed.specs.Settings.{HasItsQuota}

-- from a course that has the world's machine and the quota of the node
abbrev pub StepsFit : Type 0
StepsFit = (o : Opening) (world : World) (n stamp free : ℕ) (source : Source) (event : Event) → Joined AlongRun o world → MakesStep world n stamp source event → HasItsQuota (world.hosts n).node
    → (course : CourseValue) → course.book ≡ book_in o world → quota_at course n ≡ (world.hosts n).node.setting.quota → Keeps within_quotas course (entries_in world n stamp free event)
