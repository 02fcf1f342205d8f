use Rattle.std.proofs.Common.{◌<◌, subst}
use Rattle.qs_cell.specs.Logged.{most_rounds}
use Rattle.qs_cell.specs.State.{StartsAgain, rounds_of}
use Rattle.qs_cell.specs.Visits.{Grows, entries_in}
use Rattle.qs_cell.proofs.Founding.{starts_founded}
use Rattle.qs_cell.proofs.Growing.{start_grows}
use Rattle.qs_cell.proofs.Logging.{logged_again, restart_on}
use Rattle.qs_cell.proofs.Reopening.{damaged_late, within_again}
use Rattle.qs_world.specs.Histories.{opened_with}
use Rattle.qs_cell.proofs.cell.NodeCell.restart.Goals as goal

pub invariant_of-self : goal.invariant_of-self
invariant_of-self g c = record {
  stands = c.replace_with-answer.ensures.1.0;
  allowed = c.replace_with-answer.ensures.1.1;
  goes_on = restart_on g.D.Disk.told g.D.Disk.state g.D.Disk.fault_count g.D.Disk.byte_count c.self.inside.alloc (opened_with c.self.inside.first c.self.inside.found) c.self.inside.state c.replace_with-answer.new.dest
      c.replace_with-answer.result c.replace_with-answer.ensures.0 c.self.invariant.logged c.self.invariant.goes_on;
  logged = logged_again g.D.Disk.told g.D.Disk.state g.D.Disk.fault_count g.D.Disk.byte_count c.self.inside.alloc (opened_with c.self.inside.first c.self.inside.found) c.self.inside.state c.replace_with-answer.new.dest
      c.replace_with-answer.result c.replace_with-answer.ensures.0 c.self.invariant.logged;
  within = within_again g.D.Disk.told g.D.Disk.state g.D.Disk.fault_count g.D.Disk.byte_count c.self.inside.alloc c.self.inside.state c.replace_with-answer.new.dest
      c.replace_with-answer.result c.replace_with-answer.ensures.0 c.self.invariant.within;
}

pub returns-clause-starts : goal.returns-clause-starts
returns-clause-starts g c =
    subst (λ cell. StartsAgain g.D.Disk.told g.D.Disk.state g.D.Disk.fault_count g.D.Disk.byte_count cell.alloc cell.seat.node c.replace_with-answer.new.dest c.founded.result) c.self.view_is
    (starts_founded g.D.Disk.told g.D.Disk.state g.D.Disk.fault_count g.D.Disk.byte_count c.self.inside.alloc c.self.inside.state c.replace_with-answer.new.dest
    c.replace_with-answer.result c.founded.result c.replace_with-answer.ensures.0 c.founded.ensures.answer)

pub returns-clause-grows : goal.returns-clause-grows
returns-clause-grows g c =
    subst (λ cell. Grows (entries_in cell.seat.node) (entries_in c.replace_with-answer.new.dest)) c.self.view_is
    (start_grows g.D.Disk.told g.D.Disk.state g.D.Disk.fault_count g.D.Disk.byte_count c.self.inside.alloc c.self.inside.state c.replace_with-answer.new.dest c.replace_with-answer.result
    c.replace_with-answer.ensures.0)

pub returns-clause-damaged : goal.returns-clause-damaged
returns-clause-damaged g c = λ told at is.
    subst (λ cell. most_rounds < rounds_of cell.seat.node) c.self.view_is
    (damaged_late g.D.Disk.told g.D.Disk.state g.D.Disk.fault_count g.D.Disk.byte_count c.self.inside.alloc (opened_with c.self.inside.first c.self.inside.found) c.self.inside.state
    c.replace_with-answer.new.dest c.founded.result
    (starts_founded g.D.Disk.told g.D.Disk.state g.D.Disk.fault_count g.D.Disk.byte_count c.self.inside.alloc c.self.inside.state c.replace_with-answer.new.dest
    c.replace_with-answer.result c.founded.result c.replace_with-answer.ensures.0 c.founded.ensures.answer) c.self.invariant.logged c.self.invariant.within told at is)
