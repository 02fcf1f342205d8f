use Rattle.std.proofs.Common.{◌∙◌, ap, sym}
use Rattle.qs_node_room.specs.Room.{ended}
use Rattle.qs_node_room.proofs.TakingBack.{ended_inserted}
use Rattle.qs_node_room.proofs.unended.Unended.open.Goals as goal

pub returns-clause-back : goal.returns-clause-back
returns-clause-back c = ap (ended c.args.tid) c.in_ok-insert.ensures.entries
    ∙ ended_inserted c.args.tid c.self.inside.tids.entries (sym c.contains_key.ensures ∙ c.if-contains_key.false) ∙ c.self.view_is
