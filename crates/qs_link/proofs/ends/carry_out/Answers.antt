use Rattle.std.proofs.Common.{◌∙◌, sym, subst, refl}
use Rattle.qs_link.specs.Lanes.{SendsFrom}
use Rattle.qs_link.proofs.Places.{carried_out_at, carried_out_none, find_at_place}
use Rattle.qs_link.proofs.ends.carry_out.Goals as goal

pub carry-requires : goal.carry-requires
carry-requires c =
    subst (λ end. SendsFrom end c.args.to.now)
    (find_at_place c.args.client c.args.ends.now c.in-Some.at c.index-ends-at.result (sym c.place.ensures ∙ c.in-Some.is)) c.requires

pub returns-in-Some : goal.returns-in-Some
returns-in-Some c =
    carried_out_at c.args.client c.args.to.now c.carry.new.to c.args.ends.now c.in-Some.at _ c.index-ends-at.result c.carry.new.from c.carry.result
    (sym c.place.ensures ∙ c.in-Some.is) refl (record {
      lane = c.carry.ensures.lane;
      feed = c.carry.ensures.feed;
      draw = c.carry.ensures.draw;
      way = c.carry.ensures.way;
      front = c.carry.ensures.front;
      all = c.carry.ensures.all;
      held = c.carry.ensures.held;
      fifo = c.carry.ensures.fifo;
    })

pub returns-in-None : goal.returns-in-None
returns-in-None c = carried_out_none c.args.client c.args.to.now c.args.ends.now (sym c.place.ensures ∙ c.in-None.is)
