use Rattle.std.proofs.Common.{◌∙◌, refl}
use Rattle.qs_world_rounds.proofs.Joining.{carries_in_as, carries_out_as, joined_in, joined_out, same_by, stays_on}
use Rattle.qs_world_rounds.proofs.lanes.carry_both.Goals as goal

pub returns-in_err-carry_commands-clause-here : goal.returns-in_err-carry_commands-clause-here
returns-in_err-carry_commands-clause-here g c =
    joined_in c.args.client.now (record c.args.client.now { commands = c.carry_commands.new.from }) c.args.node.now.seat.ends c.carry_commands.new.self.seat.ends
    c.carry_commands.result c.requires c.carry_commands.ensures.joined
    (carries_in_as c.client-number.result c.args.client.now.client c.commands.result.now c.args.client.now.commands c.carry_commands.new.from
    c.args.node.now.seat.ends c.carry_commands.new.self.seat.ends c.carry_commands.result c.client-number.ensures c.commands.ensures.value
    c.carry_commands.ensures.carries)
    refl refl

pub returns-in_err-carry_answers-clause-here : goal.returns-in_err-carry_answers-clause-here
returns-in_err-carry_answers-clause-here g c =
    joined_out (record c.args.client.now { commands = c.carry_commands.new.from })
    (record c.args.client.now { commands = c.carry_commands.new.from; answers = c.carry_answers.new.to }) c.carry_commands.new.self.seat.ends
    c.carry_answers.new.self.seat.ends c.carry_answers.result
    (joined_in c.args.client.now (record c.args.client.now { commands = c.carry_commands.new.from }) c.args.node.now.seat.ends c.carry_commands.new.self.seat.ends
    c.carry_commands.result c.requires c.carry_commands.ensures.joined
    (carries_in_as c.client-number.result c.args.client.now.client c.commands.result.now c.args.client.now.commands c.carry_commands.new.from
    c.args.node.now.seat.ends c.carry_commands.new.self.seat.ends c.carry_commands.result c.client-number.ensures c.commands.ensures.value
    c.carry_commands.ensures.carries)
    refl refl)
    c.carry_answers.ensures.joined
    (carries_out_as c.client-number.result c.args.client.now.client c.answers.result.now c.args.client.now.answers c.carry_answers.new.to
    c.carry_commands.new.self.seat.ends c.carry_answers.new.self.seat.ends c.carry_answers.result c.client-number.ensures c.answers.ensures.value
    c.carry_answers.ensures.carries)
    refl refl

pub returns-in_err-carry_answers-clause-joined : goal.returns-in_err-carry_answers-clause-joined
returns-in_err-carry_answers-clause-joined g c =
    stays_on c.args.node.now.seat.ends c.carry_commands.new.self.seat.ends c.carry_answers.new.self.seat.ends c.carry_commands.ensures.joined c.carry_answers.ensures.joined

pub returns-clause-carries : goal.returns-clause-carries
returns-clause-carries g c = record {
  mid = c.carry_commands.new.self;
  held = c.in_ok-carry_commands.field-0;
  heard = c.in_ok-carry_answers.field-0;
  commands = carries_in_as c.client-number.result c.args.client.now.client c.commands.result.now c.args.client.now.commands c.carry_commands.new.from
      c.args.node.now.seat.ends c.carry_commands.new.self.seat.ends _ c.client-number.ensures c.commands.ensures.value c.in_ok-carry_commands.ensures.carries;
  answers = carries_out_as c.client-number.result c.args.client.now.client c.answers.result.now c.args.client.now.answers c.carry_answers.new.to
      c.carry_commands.new.self.seat.ends c.carry_answers.new.self.seat.ends _ c.client-number.ensures c.answers.ensures.value c.in_ok-carry_answers.ensures.carries;
  node = c.carry_answers.ensures.node ∙ c.carry_commands.ensures.node;
  start = record {
    opened = c.carry_answers.ensures.opened ∙ c.carry_commands.ensures.opened;
    faults = c.carry_answers.ensures.faults ∙ c.carry_commands.ensures.faults;
    links = same_by c.args.node.now.links c.carry_answers.new.self.links (c.carry_answers.ensures.links ∙ c.carry_commands.ensures.links);
  };
  links = c.carry_answers.ensures.links ∙ c.carry_commands.ensures.links;
  client = refl;
}

pub returns-clause-here : goal.returns-clause-here
returns-clause-here g c =
    joined_out (record c.args.client.now { commands = c.carry_commands.new.from })
    (record c.args.client.now { commands = c.carry_commands.new.from; answers = c.carry_answers.new.to }) c.carry_commands.new.self.seat.ends
    c.carry_answers.new.self.seat.ends c.carry_answers.result
    (joined_in c.args.client.now (record c.args.client.now { commands = c.carry_commands.new.from }) c.args.node.now.seat.ends c.carry_commands.new.self.seat.ends
    c.carry_commands.result c.requires c.carry_commands.ensures.joined
    (carries_in_as c.client-number.result c.args.client.now.client c.commands.result.now c.args.client.now.commands c.carry_commands.new.from
    c.args.node.now.seat.ends c.carry_commands.new.self.seat.ends c.carry_commands.result c.client-number.ensures c.commands.ensures.value
    c.carry_commands.ensures.carries)
    refl refl)
    c.carry_answers.ensures.joined
    (carries_out_as c.client-number.result c.args.client.now.client c.answers.result.now c.args.client.now.answers c.carry_answers.new.to
    c.carry_commands.new.self.seat.ends c.carry_answers.new.self.seat.ends c.carry_answers.result c.client-number.ensures c.answers.ensures.value
    c.carry_answers.ensures.carries)
    refl refl

pub returns-clause-joined : goal.returns-clause-joined
returns-clause-joined g c =
    stays_on c.args.node.now.seat.ends c.carry_commands.new.self.seat.ends c.carry_answers.new.self.seat.ends c.carry_commands.ensures.joined c.carry_answers.ensures.joined
