use Rattle.qs_world_lawful.proofs.GivenSettling.{has_cause, may_commit, may_decide, may_forget, may_pass, uncommitted}
use Rattle.qs_world_lawful.proofs.lawful_given.settling_is_given.Goals as goal

pub returns : goal.returns
returns c = record { undone = uncommitted; decides = may_decide; causes = has_cause; passes = may_pass; commits = may_commit; forgets = may_forget }
