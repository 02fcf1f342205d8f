use Rattle.std.proofs.Common.{◌≡◌, arith, get_or, length}
use Rattle.std.proofs.lemmas.Option.{slice_get-get_or}
use Rattle.qs_world_sites.proofs.Joining.{one_joined}
use Rattle.qs_world_sites.proofs.linking.join_others.Goals as goal

pub loop-other-preserved : goal.loop-other-preserved
loop-other-preserved c =
    let long : length c.loop-other.others ≡ length c.args.others.now = let same = c.loop-other.auto.others in omega arith in
    let within = c.loop-other-test.true in
    one_joined c.args.lines.now c.loop-other.other c.args.others.now c.loop-other.others (get_or c.loop-other.others c.loop-other.other c.index-others-other.result) c.join.new.one c.loop-other.new
    c.join.new.other c.requires c.loop-other.invariant long (slice_get-get_or c.loop-other.others c.loop-other.other c.index-others-other.result (omega arith)) c.in_ok-join.ensures
