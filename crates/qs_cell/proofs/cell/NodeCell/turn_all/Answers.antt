use Rattle.std.proofs.Common.{◌<◌, ◌∙◌, ap, subst, sym, refl, List, get_or, length}
use Rattle.qs_cell.specs.Visits.{sources_of}
use Rattle.qs_cell.specs.declared.cell.EventSource.{EventSource}
use Rattle.qs_cell.specs.declared.cell.EventSource.TheVariants as sources
use Rattle.qs_cell.proofs.Rings.{rings_none, rings_on}
use Rattle.qs_cell.proofs.Turning.{turns_more, turns_broken, sources_now, within, on_err_all}
use Rattle.qs_cell.proofs.cell.NodeCell.turn_all.Goals as goal

pub loop-place-init : goal.loop-place-init
loop-place-init g c = record { turns = refl; links = refl; opened = refl; faults = refl; rings = rings_none c.args.self.now.seat.ends }

pub source_at-source-requires : goal.source_at-source-requires
source_at-source-requires g c =
    subst (λ (l : List EventSource). c.loop-place.place < length l)
    (sym (sources_now c.args.self.now.seat.ends c.loop-place.self.seat.ends c.as_slice-in-loop-place.result.now
    (c.as_slice-in-loop-place.ensures.value ∙ ap (λ cell. cell.seat.ends) c.self-in-loop-place.view_is) c.loop-place.invariant.rings))
    (within c.args.self.now.seat.ends c.as_slice.result.now c.loop-place.place c.source_count-place-end.result (c.as_slice.ensures.value ∙ ap (λ cell. cell.seat.ends) c.self.view_is)
    c.source_count-place-end.ensures c.loop-place-test.true)

pub loop-place-preserved : goal.loop-place-preserved
loop-place-preserved g c = record {
  turns = turns_more g.D.Disk.told g.D.Disk.state g.D.Disk.fault_count g.D.Disk.byte_count (sources_of c.args.self.now.seat.ends) c.loop-place.place c.source_at-source.result sources.Clock c.args.self.now.seat c.loop-place.self.seat c.turn.new.self.seat
      (within c.args.self.now.seat.ends c.as_slice.result.now c.loop-place.place c.source_count-place-end.result (c.as_slice.ensures.value ∙ ap (λ cell. cell.seat.ends) c.self.view_is)
      c.source_count-place-end.ensures c.loop-place-test.true)
      (c.source_at-source.ensures sources.Clock ∙ ap (λ (l : List EventSource). get_or l c.loop-place.place sources.Clock)
      (sources_now c.args.self.now.seat.ends c.loop-place.self.seat.ends c.as_slice-in-loop-place.result.now
      (c.as_slice-in-loop-place.ensures.value ∙ ap (λ cell. cell.seat.ends) c.self-in-loop-place.view_is) c.loop-place.invariant.rings))
      c.loop-place.invariant.turns c.in_ok-turn.ensures.turns;
  links = c.turn.ensures.links ∙ c.loop-place.invariant.links;
  opened = c.turn.ensures.opened ∙ c.loop-place.invariant.opened;
  faults = c.turn.ensures.faults ∙ c.loop-place.invariant.faults;
  rings = rings_on c.args.self.now.seat.ends c.loop-place.self.seat.ends c.turn.new.self.seat.ends c.loop-place.invariant.rings c.turn.ensures.rings;
}

pub returns-in_err-turn-clause-breaks : goal.returns-in_err-turn-clause-breaks
returns-in_err-turn-clause-breaks g c = on_err_all c.from_residual.result
    (turns_broken g.D.Disk.told g.D.Disk.state g.D.Disk.fault_count g.D.Disk.byte_count (sources_of c.args.self.now.seat.ends) c.loop-place.place c.source_at-source.result sources.Clock c.args.self.now.seat c.loop-place.self.seat c.turn.new.self.seat
    (within c.args.self.now.seat.ends c.as_slice.result.now c.loop-place.place c.source_count-place-end.result (c.as_slice.ensures.value ∙ ap (λ cell. cell.seat.ends) c.self.view_is)
    c.source_count-place-end.ensures c.loop-place-test.true)
    (c.source_at-source.ensures sources.Clock ∙ ap (λ (l : List EventSource). get_or l c.loop-place.place sources.Clock)
    (sources_now c.args.self.now.seat.ends c.loop-place.self.seat.ends c.as_slice-in-loop-place.result.now
    (c.as_slice-in-loop-place.ensures.value ∙ ap (λ cell. cell.seat.ends) c.self-in-loop-place.view_is) c.loop-place.invariant.rings))
    c.loop-place.invariant.turns c.in_err-turn.ensures.breaks)

pub returns-in_err-turn-clause-rings : goal.returns-in_err-turn-clause-rings
returns-in_err-turn-clause-rings g c =
    rings_on c.args.self.now.seat.ends c.loop-place.self.seat.ends c.turn.new.self.seat.ends c.loop-place.invariant.rings c.turn.ensures.rings
