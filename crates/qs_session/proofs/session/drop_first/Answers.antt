use Rattle.std.proofs.Common.{ap, ◌∙◌, drop}
use Rattle.qs_session_channels.proofs.Lists.{drop_drop}
use Rattle.qs_session.proofs.session.drop_first.Goals as goal

pub loop-turn-preserved : goal.loop-turn-preserved
loop-turn-preserved c = c.drop_one.ensures ∙ ap (drop 1) c.loop-turn.invariant ∙ drop_drop c.loop-turn._turn 1 c.args.kept.now.items
