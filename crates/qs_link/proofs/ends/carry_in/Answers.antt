use Rattle.std.proofs.Common.{◌∙◌, sym, subst, refl}
use Rattle.qs_link.specs.Lanes.{SendsTo}
use Rattle.qs_link.proofs.Places.{carried_in_at, carried_in_none, find_at_place}
use Rattle.qs_link.proofs.ends.carry_in.Goals as goal

pub carry-requires : goal.carry-requires
carry-requires c =
    subst (λ end. SendsTo c.args.from.now end)
    (find_at_place c.args.client c.args.ends.now c.in-Some.at c.index-ends-at.result (sym c.place.ensures ∙ c.in-Some.is)) c.requires

pub returns-in-Some : goal.returns-in-Some
returns-in-Some c =
    carried_in_at c.args.client c.args.from.now c.carry.new.from c.args.ends.now c.in-Some.at _ c.index-ends-at.result c.carry.new.to c.carry.result
    (sym c.place.ensures ∙ c.in-Some.is) refl (record {
      lane = c.carry.ensures.lane;
      feed = c.carry.ensures.feed;
      draw = c.carry.ensures.draw;
      way = c.carry.ensures.way;
      front = c.carry.ensures.front;
      all = c.carry.ensures.all;
      held = c.carry.ensures.held;
      fifo = c.carry.ensures.fifo;
    })

pub returns-in-None : goal.returns-in-None
returns-in-None c = carried_in_none c.args.client c.args.from.now c.args.ends.now (sym c.place.ensures ∙ c.in-None.is)
