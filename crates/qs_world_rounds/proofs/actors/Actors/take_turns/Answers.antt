use Rattle.std.proofs.Common.{arith, inl, refl, subst, ◌≡◌}
use Rattle.qs_cell.proofs.Growing.{grows_on}
use Rattle.qs_cell.specs.Starts.{journal_of}
use Rattle.qs_cell_peers.proofs.Linked.{linked_none, linked_on}
use Rattle.qs_world_rounds.specs.Turns.{TakesTurns}
use Rattle.qs_world_rounds.proofs.Turning.{grows_none, start_on, start_same, took_some, turns_more}
use Rattle.qs_world_rounds.proofs.actors.Actors.take_turns.Goals as goal

pub loop-init : goal.loop-init
loop-init g c = record {
  turns = refl;
  start = start_same c.args.self.now.node c.args.self.now.node refl;
  grows = grows_none (journal_of c.args.self.now.node);
  linked = linked_none c.args.self.now.node.links;
}

pub loop-preserved : goal.loop-preserved
loop-preserved g c = record {
  turns = turns_more g.D.Disk.told g.D.Disk.state g.D.Disk.fault_count g.D.Disk.byte_count c.loop.counter c.args.self.now c.loop.self c.take_turn.new.self c.loop.invariant.turns c.in_ok-take_turn.ensures.turn;
  start = start_on c.args.self.now.node c.loop.self.node c.take_turn.new.self.node c.loop.invariant.start c.take_turn.ensures.start;
  grows = grows_on (journal_of c.args.self.now.node) (journal_of c.loop.self.node) (journal_of c.take_turn.new.self.node) c.loop.invariant.grows c.take_turn.ensures.grows;
  linked = linked_on c.args.self.now.node.links c.loop.self.node.links c.take_turn.new.self.node.links c.loop.invariant.linked c.take_turn.ensures.linked;
}

pub returns-in_err-take_turn-clause-some : goal.returns-in_err-take_turn-clause-some
returns-in_err-take_turn-clause-some g c = took_some g.D.Disk.told g.D.Disk.state g.D.Disk.fault_count g.D.Disk.byte_count c.args.turns c.loop.counter c.args.self.now c.loop.self c.take_turn.new.self c.loop.invariant.turns c.in_err-take_turn.ensures.refused

pub returns-in_err-take_turn-clause-start : goal.returns-in_err-take_turn-clause-start
returns-in_err-take_turn-clause-start g c = start_on c.args.self.now.node c.loop.self.node c.take_turn.new.self.node c.loop.invariant.start c.take_turn.ensures.start

pub returns-in_err-take_turn-clause-grows : goal.returns-in_err-take_turn-clause-grows
returns-in_err-take_turn-clause-grows g c = grows_on (journal_of c.args.self.now.node) (journal_of c.loop.self.node) (journal_of c.take_turn.new.self.node) c.loop.invariant.grows c.take_turn.ensures.grows

pub returns-in_err-take_turn-clause-linked : goal.returns-in_err-take_turn-clause-linked
returns-in_err-take_turn-clause-linked g c = linked_on c.args.self.now.node.links c.loop.self.node.links c.take_turn.new.self.node.links c.loop.invariant.linked c.take_turn.ensures.linked

pub returns-clause-turns : goal.returns-clause-turns
returns-clause-turns g c =
    let all : c.loop.counter ≡ c.args.turns = omega arith in
    subst (λ n. TakesTurns g.D.Disk.told g.D.Disk.state g.D.Disk.fault_count g.D.Disk.byte_count n c.args.self.now c.loop.self) all c.loop.invariant.turns

pub returns-clause-some : goal.returns-clause-some
returns-clause-some g c = inl (returns-clause-turns g c)
