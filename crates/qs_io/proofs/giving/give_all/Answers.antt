use Rattle.std.proofs.Common.{rules, ◌++◌}
use Rattle.std.specs.Io.KnownBytes.{Appends}
use Rattle.qs_io.proofs.StreamLemmas.{appends_more, splits_on}
use Rattle.qs_io.proofs.giving.give_all.Goals as goal

-- src/giving.rt:18:5
pub loop-rest-preserved : goal.loop-rest-preserved
loop-rest-preserved g c =
    let gave : Appends (g.K.Sink.given c.loop-rest.sink) (g.K.Sink.given c.give.new.self) c.split_at.result.0.now = search rules in
    record {
      part = c.loop-rest.invariant.part ++ c.split_at.result.0.now;
      whole = splits_on c.loop-rest.invariant.part _ _ _ _ _ c.loop-rest.invariant.whole c.split_at.ensures.front c.split_at.ensures.back;
      gave = appends_more (g.K.Sink.given c.args.sink.now) (g.K.Sink.given c.loop-rest.sink) (g.K.Sink.given c.give.new.self) _ _ c.loop-rest.invariant.gave gave;
      later = search rules;
    }
