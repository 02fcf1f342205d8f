use Rattle.qs_world_lawful.proofs.FoundOnce.{votes_once_in}
use Rattle.qs_world_lawful.proofs.SaidPairs.{commit_is_said, end_keeps_said, keeps_said, made_is_said, vote_is_said}
use Rattle.qs_world_lawful.proofs.lawful_logs.log_says_what_is_entered.Goals as goal

pub returns : goal.returns
returns c = record {
  stays = λ here old new state later log k h. keeps_said here old new state later log k h;
  ended = λ here book state log tid h. end_keeps_said here book state log tid h;
  voted = λ here old new state later log vote p clear h. vote_is_said here old new state later log vote p clear h;
  committed = λ here old new state later log tid told l once g h. commit_is_said here old new state later log tid told l once g h;
  whole = λ here book state log h undone. made_is_said here book state log h undone;
  once = λ log. votes_once_in log;
}
