use Rattle.qs_world_one.proofs.Clients.{each_answers_carried, each_commands_carried, each_turn}
use Rattle.qs_world_one.proofs.lines.clients_stay_shown.Goals as goal

pub returns : goal.returns
returns c = record {
  commands = λ inc now p shown. each_commands_carried inc now p shown;
  answers = λ inc now p shown. each_answers_carried inc now p shown;
  turns = λ inc now p shown. each_turn inc now p shown;
}
