use Rattle.qs_world_lawful.proofs.Words.{book_after, opening}
use Rattle.qs_world_lawful.proofs.LogLaws.{inv_is}
use Rattle.qs_world_lawful.proofs.SaidEntries.{commit_enters, learning_enters, plain_enters_at, vote_enters_at}
use Rattle.qs_world_lawful.proofs.SaidHeld.{learners_held, pending_held}
use Rattle.qs_world_lawful.proofs.SaidCommits.{commit_says}
use Rattle.qs_world_lawful.proofs.SaidRules.{end_says, quiet_says}
use Rattle.qs_world_lawful.proofs.SaidVoting.{vote_says}
use Rattle.qs_world_lawful.proofs.lawful_logs.log_says_votes_and_commits.Goals as goal

pub returns : goal.returns
returns c = record {
  plain = λ opened history stamp here state act log coherent lawful there plain enters h. plain_enters_at (book_after (opening opened) history) (inv_is opened history coherent lawful) stamp here state act log there plain enters h;
  voted = λ opened history stamp here state tid server covers changes records coherent lawful there enters clear pending h. vote_enters_at (book_after (opening opened) history) (inv_is opened history coherent lawful) stamp here state tid server covers changes records there enters clear pending h;
  committed = λ opened history stamp here state tid servers told records coherent in_run at_home lawful done there all goes named doubt logged h. commit_enters opened history stamp here state tid servers told records coherent in_run at_home lawful done there all goes named doubt logged h;
  learnt = λ opened history stamp here state tid servers log coherent in_run at_home lawful done there all goes ended logged h. learning_enters opened history stamp here state tid servers log coherent in_run at_home lawful done there all goes ended logged h;
  pending = λ stamp book node tid server h keeps. pending_held stamp book node tid server h keeps;
  learners = λ stamp book node tid part h known. learners_held stamp book node tid part h known;
  rule = λ opened history coherent lawful stamp disk waiting tid server work part known undecided keeps lasts entered logs held said. vote_says (book_after (opening opened) history) (inv_is opened history coherent lawful) stamp disk waiting tid server work part known undecided keeps lasts entered logs held said;
  quiet = λ opened history coherent lawful stamp disk waiting work new more grows plain same setting entered said. quiet_says (book_after (opening opened) history) (inv_is opened history coherent lawful) stamp disk waiting work new more grows plain setting entered said same;
  ends = λ opened history coherent lawful stamp disk waiting work new more rec grows plain is_end same setting entered said. end_says (book_after (opening opened) history) (inv_is opened history coherent lawful) stamp disk waiting work new more grows plain setting entered said rec is_end same;
  commits = λ opened history coherent lawful stamp disk waiting work new tid front servers told grows plain written setting in_run at_home entered done all doubt logs said. commit_says opened history coherent lawful stamp disk waiting work new tid front servers told grows plain written setting in_run at_home entered done all doubt logs said;
}
