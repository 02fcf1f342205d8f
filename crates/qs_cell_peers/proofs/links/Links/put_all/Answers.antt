use Rattle.std.proofs.Common.{◌<◌, List, [], ◌∷◌, ◌++◌, ◌∙◌, ap, arith, length, subst, sym, take}
use Rattle.std.proofs.lemmas.List.{take_more}
use Rattle.std.proofs.lemmas.Result.{err_from_is_err_and}
use Rattle.qs_packet.specs.declared.packet.Packet.{Packet}
use Rattle.qs_cell_peers.specs.Links.{HasPut}
use Rattle.qs_cell_peers.proofs.Putting.{put_more, put_some}
use Rattle.qs_cell_peers.proofs.links.Links.put_all.Goals as goal

pub loop-packet-preserved : goal.loop-packet-preserved
loop-packet-preserved c =
    let at = c.loop-packet.packet-index in
    let lt : at < length c.args.packets.now = omega arith in
    subst (λ (l : List Packet). HasPut l c.args.self.now c.put_one.new.self)
    (sym (take_more c.args.packets.now at c.packet-item.result lt ∙ ap (λ (p : Packet). take at c.args.packets.now ++ p ∷ []) (sym c.packet-item.is)))
    (put_more (take at c.args.packets.now) (c.packet-item.result ∷ []) c.args.self.now c.loop-packet.self c.put_one.new.self c.loop-packet.invariant c.in_ok-put_one.ensures.put)

pub returns-in_err-put_one-clause-some : goal.returns-in_err-put_one-clause-some
returns-in_err-put_one-clause-some c =
    let e = err_from_is_err_and c.from_residual.result c.from_residual.ensures.1 in
    rw e.1 (put_some c.args.packets.now c.loop-packet.packet-index c.args.self.now c.loop-packet.self c.put_one.new.self c.loop-packet.invariant c.in_err-put_one.ensures.err)
