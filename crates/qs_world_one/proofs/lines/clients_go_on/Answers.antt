use Rattle.qs_world_one.proofs.AnswersOut.{each_answers, each_handed_back, each_hands}
use Rattle.qs_world_one.proofs.Handing.{each_comes, each_handed}
use Rattle.qs_world_one.proofs.lines.clients_go_on.Goals as goal

pub returns : goal.returns
returns c = record {
  handed = λ inc commands ends clients line client. each_handed inc commands ends clients line client;
  comes = λ inc commands ends clients line from client. each_comes inc commands ends clients line from client;
  answers = λ inc now commands ends clients said client. each_answers inc now commands ends clients said client;
  stops = λ inc now commands ends clients client. each_handed_back inc now commands ends clients client;
  rises = λ inc commands ends clients client. each_hands inc commands ends clients client;
}
