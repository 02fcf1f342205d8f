use Rattle.qs_world_refine.proofs.IssueAwaits.{issue_awaits}
use Rattle.qs_world_refine.proofs.RequestUnknown.{request_unknown}
use Rattle.qs_world_refine.proofs.RuleGoes.{issue_away, request, request_home, answered}
use Rattle.qs_world_refine.proofs.rules.requests.Goals as goal

pub returns : goal.returns
returns c = record { issue_away = issue_away; issue_awaits = issue_awaits; request = request; request_home = request_home; request_unknown = request_unknown; answered = answered }
