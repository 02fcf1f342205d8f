use Rattle.qs_world_agree_ends.proofs.RequestLaws.{sent_is_put, put_is_known, uncovered_goes_on, owed_is_known}
use Rattle.qs_world_agree_ends.proofs.laws.requests_go_on.Goals as goal

pub returns : goal.returns
returns c = record { put = sent_is_put; known = put_is_known; uncovered = uncovered_goes_on; owed = owed_is_known }
