-- Small runs are lawful as the rules stand, each by evaluation.
use Rattle.std.proofs.Common.{◌≡◌, true, None, refl}
use Rattle.std.specs.Fmt.{digits}
use Rattle.std.specs.Global.{Global}
use Rattle.qs_engage.specs.Nodes.{all_nodes}
use Rattle.qs_tm.specs.Members.{all_servers}
use Rattle.qs_world_trials.specs.SmallRuns.{asked_early, borrowed_again, broken_in, cut_as_served, cut_as_voted, in_doubt, opens_next, stopped_alone, told_one}

pub served_holds : (alloc : Global) → broken_in alloc cut_as_served ≡ None
unfolding all_nodes all_servers digits
served_holds alloc = refl

pub voted_holds : (alloc : Global) → broken_in alloc cut_as_voted ≡ None
unfolding all_nodes all_servers digits
voted_holds alloc = refl

pub asked_holds : (alloc : Global) → broken_in alloc asked_early ≡ None
unfolding all_nodes all_servers digits
asked_holds alloc = refl

pub borrowed_holds : (alloc : Global) → broken_in alloc borrowed_again ≡ None
unfolding all_nodes all_servers digits
borrowed_holds alloc = refl

pub told_holds : (alloc : Global) → broken_in alloc told_one ≡ None
unfolding all_nodes all_servers digits
told_holds alloc = refl

pub next_holds : (alloc : Global) → opens_next alloc told_one ≡ true
unfolding all_nodes all_servers digits
next_holds alloc = refl

pub stopped_holds : (alloc : Global) → broken_in alloc stopped_alone ≡ None
unfolding all_nodes all_servers digits
stopped_holds alloc = refl

pub doubt_holds : (alloc : Global) → broken_in alloc in_doubt ≡ None
unfolding all_nodes all_servers digits
doubt_holds alloc = refl
