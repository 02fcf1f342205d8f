use Rattle.std.proofs.Common.{◌<◌, List, arith, length, subst, sym}
use Rattle.std.proofs.lemmas.List.Elements.{All-get_or}
use Rattle.std.proofs.lemmas.Result.{err_from_is_err_and}
use Rattle.qs_packet.specs.Grammar.{IsPacket}
use Rattle.qs_packet.specs.declared.packet.Packet.{Packet}
use Rattle.qs_node_step.specs.declared.trace.Step.{Step}
use Rattle.std.specs.List.{All}
use Rattle.qs_cell_peers.specs.Links.{HasPut, HasPutSome}
use Rattle.qs_cell_peers.proofs.Putting.{more_puts, put_more, some_puts}
use Rattle.qs_cell_peers.proofs.links.Links.put_steps.Goals as goal

pub put_all-requires : goal.put_all-requires
put_all-requires c =
    let lt : c.loop-step.step-index < length c.args.steps.now = omega arith in
    subst (All IsPacket) (sym c.as_slice.ensures) (subst (λ (step : Step). All IsPacket step.put) (sym c.step-item.is)
    (All-get_or (λ (step : Step). All IsPacket step.put) c.args.steps.now c.loop-step.step-index c.step-item.result lt c.requires))

pub loop-step-preserved : goal.loop-step-preserved
loop-step-preserved c =
    let lt : c.loop-step.step-index < length c.args.steps.now = omega arith in
    subst (λ (l : List Packet). HasPut l c.args.self.now c.put_all.new.self) (sym (more_puts c.args.steps.now c.loop-step.step-index c.step-item.result lt c.step-item.is))
    (put_more _ c.step-item.result.put c.args.self.now c.loop-step.self c.put_all.new.self c.loop-step.invariant
    (subst (λ (l : List Packet). HasPut l c.loop-step.self c.put_all.new.self) c.as_slice.ensures c.in_ok-put_all.ensures.put))

pub returns-in_err-put_all-clause-some : goal.returns-in_err-put_all-clause-some
returns-in_err-put_all-clause-some c =
    let e = err_from_is_err_and c.from_residual.result c.from_residual.ensures.1 in
    let lt : c.loop-step.step-index < length c.args.steps.now = omega arith in
    rw e.1 (some_puts c.args.steps.now c.loop-step.step-index c.step-item.result c.args.self.now c.loop-step.self c.put_all.new.self lt c.step-item.is c.loop-step.invariant
    (subst (λ (l : List Packet). HasPutSome l c.loop-step.self c.put_all.new.self) c.as_slice.ensures c.in_err-put_all.ensures.some))
