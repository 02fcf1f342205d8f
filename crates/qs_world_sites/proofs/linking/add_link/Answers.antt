use Rattle.qs_cell.proofs.Turning.{on_ok_map}
use Rattle.qs_world_sites.proofs.linking.add_link.Goals as goal

pub returns : goal.returns
returns c = on_ok_map c.push-2.result c.push-2.ensures.ok (λ is. record {
  from = c.in_ok-from.from;
  to = c.in_ok-from.to;
  out_is = c.in_ok-push.ensures.ok;
  into_is = is;
  is_new = record { lane = c.in_ok-from.ensures.lane; fifo = c.in_ok-from.ensures.fifo; empty = c.in_ok-from.ensures.empty; fresh = c.in_ok-from.ensures.fresh };
})
