use Rattle.std.proofs.Common.{◌≡◌, ◌∙◌, ◌-◌, ap, arith, false, get_or, subst, sym}
use Rattle.std.proofs.lemmas.Bool.Decides.{nat_tests}
use Rattle.std.specs.Prelude.{nat_lt}
use Rattle.qs_cell.specs.Acts.{BreaksIf, own_source}
use Rattle.qs_cell.specs.Starts.{post_of}
use Rattle.qs_cell.specs.Visits.{IsBroken, sources_of}
use Rattle.qs_cell.specs.declared.cell.EventSource.TheVariants as sources
use Rattle.qs_cell.proofs.Acting.{on_err_map}
use Rattle.qs_cell.proofs.cell.NodeCell.make_at.Goals as goal

pub returns-clause-breaks : goal.returns-clause-breaks
returns-clause-breaks g c =
    let high : nat_lt c.args.place c.args.self.now.links.size ≡ false = grind (arith, nat_tests, c.if-place-nodes.false, c.count-nodes.ensures.count, ap (λ cell. cell.links.size) c.self.view_is) in
    let source_is : c.source_at-source.result ≡ own_source c.args.self.now.seat.ends (c.args.place - c.args.self.now.links.size) =
    c.source_at-source.ensures sources.Clock ∙ (ap (λ ends. get_or (sources_of ends) (c.args.place - c.count-nodes.result) sources.Clock) (c.as_slice.ensures.value ∙ ap (λ cell. cell.seat.ends) c.self.view_is)
    ∙ ap (λ n. own_source c.args.self.now.seat.ends (c.args.place - n)) (c.count-nodes.ensures.count ∙ ap (λ cell. cell.links.size) c.self.view_is)) in
    on_err_map c.turn.result c.turn.ensures.breaks (λ broken.
    subst (λ b. BreaksIf b g.D.Disk.told g.D.Disk.state g.D.Disk.fault_count g.D.Disk.byte_count c.args.place (post_of c.args.self.now) (post_of c.turn.new.self)) (sym high)
    (subst (λ s. IsBroken g.D.Disk.told g.D.Disk.state g.D.Disk.fault_count g.D.Disk.byte_count s c.args.self.now.seat c.turn.new.self.seat) source_is broken, c.turn.ensures.links))
